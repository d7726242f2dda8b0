-- What stands of a pattern when it is made, and between searches.
use Rattle.std.proofs.Common.{◌≡◌, ℕ, ◌-◌, ◌*◌, ◌<◌, ◌^◌, true, List, length, sym, subst, arith}
use Rattle.regex_hir.specs.Meaning.{meaning}
use Rattle.regex_meta.specs.declared.program.Program.{Program}
use Rattle.regex_syntax.specs.Grammar.{Names}
use Rattle.regex_syntax.specs.WellFormed.{IsWellFormed}
use Rattle.regex.proofs.CompilableLemmas.{groups_named}
use Rattle.regex.specs.Patterns.{Reads, default_config}
use Rattle.gl_patterns.specs.Built.{IsBuilt}
use Rattle.gl_patterns.proofs.Parts.{parts_of}
use Rattle.gl_patterns.proofs.Writing.{fits}

module _ (source : List ℕ) (names : Names) where
  pub made : (program : Program) (width : ℕ) → Reads default_config source program.hir names → IsWellFormed true program.hir →
      program.dfa.nfa.slot_count ≡ 2 * length names → width ≡ 2 * (length names - 1) → 0 < length names → length names < 2 ^ 32 →
      IsBuilt source names program width
  made program width reads formed slots cells some few =
      let groups = groups_named default_config source program.hir names reads in
      record {
        read = reads;
        made = record { parts = parts_of program.hir formed; fits = fits (meaning program.hir) width (omega (arith, groups)); within = omega arith };
        few = few;
      }

  pub kept : (old new : Program) (before after : ℕ) → IsBuilt source names old before → new ≡ old → after ≡ before → IsBuilt source names new after
  kept old new before after built same size =
      subst (λ p. IsBuilt source names p after) (sym same) (subst (IsBuilt source names old) (sym size) built)
