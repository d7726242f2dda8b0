-- Bytes have at most one entry, and at most one outcome: what is read of them is the one.
use Rattle.std.proofs.Common.{◌≡◌, refl, sym, ◌∙◌}
use Rattle.gl_fields.specs.declared.entry.Entry.{Entry}
use Rattle.gl_fields.specs.declared.entry.Outcome.{Outcome}
use Rattle.gl_fields.specs.Entries.{entry_bytes}
use Rattle.gl_fields.specs.Outcomes.{outcome_bytes}
use Rattle.gl_fields.specs.Bounds.{IsEntry, IsOutcome}
use Rattle.gl_fields.proofs.Taking.{ok_is}
use Rattle.gl_fields.proofs.EntryRead.{entry_only}
use Rattle.gl_fields.proofs.OutcomeRead.{outcome_only}

pub one_entry : (a b : Entry) → IsEntry a → IsEntry b → entry_bytes a ≡ entry_bytes b → a ≡ b
one_entry a b is_a is_b e = ok_is a b (sym (entry_only (entry_bytes a) a is_a refl) ∙ entry_only (entry_bytes a) b is_b e)

pub one_outcome : (a b : Outcome) → IsOutcome a → IsOutcome b → outcome_bytes a ≡ outcome_bytes b → a ≡ b
one_outcome a b is_a is_b e = ok_is a b (sym (outcome_only (outcome_bytes a) a is_a refl) ∙ outcome_only (outcome_bytes a) b is_b e)
