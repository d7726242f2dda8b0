-- How a compiled pattern stands to its text.
use Rattle.std.specs.Prelude.{◌≡◌, ℕ, ◌+◌, ◌-◌, ◌<◌, ◌≤◌, ◌^◌, All, List, Some, length}
use Rattle.regex_hir.specs.Re.{Re, Trace, accept, attempt}
use Rattle.regex_syntax.specs.Grammar.{Names}
use Rattle.regex.specs.Patterns.{Reads, default_config}
use Rattle.regex.specs.Writes.{HasTextParts}
use Rattle.regex_meta.specs.Programs.{pattern_of}
use Rattle.regex_meta.specs.declared.program.Program.{Program}

-- so many cells take each slot from 2 on that a match of the expression writes
abbrev pub FitsCells : Re → ℕ → Type 0
FitsCells re width = (hay : List ℕ) (i : ℕ) (t : Trace) → attempt hay re accept i ≡ Some t → All (λ (w : ℕ × ℕ). w.0 < width + 2) t.writes

-- the expression reads whole characters, and so many cells are enough for it and not too many
pub record IsMade (program : Program) (width : ℕ) : Type 0 where
  pub parts : HasTextParts (pattern_of program)
  pub fits : FitsCells (pattern_of program) width
  pub within : width ≤ program.dfa.nfa.slot_count - 2

-- the expression and the names of its groups are what is read in the text
pub record IsBuilt (source : List ℕ) (names : Names) (program : Program) (width : ℕ) : Type 0 where
  pub read : Reads default_config source program.hir names
  pub made : IsMade program width
  -- a `u32` counts them
  pub few : length names < 2 ^ 32
