use Rattle.std.proofs.Common.{◌≡◌, ℕ, List, length, None, Some, sym, ap, ◌∙◌}
use Rattle.std.specs.List.{sum_by}
use Rattle.gl_settings.specs.Limits.{first_passed, budget_refusal}
use Rattle.gl_settings.proofs.Limiting.{limited_first, limited_last, limited_budget, unlimited}
use Rattle.gl_settings.proofs.limits.within_limits.Goals as goal

pub returns-in-Some-clause-err : goal.returns-in-Some-clause-err
returns-in-Some-clause-err c = limited_first c.args.parts.now c.in-Some.refusal (ap first_passed (sym c.counted.ensures) ∙ sym c.in-Some.ensures)

pub returns-in-Some-first_passed-clause-err : goal.returns-in-Some-first_passed-clause-err
returns-in-Some-first_passed-clause-err c =
    limited_last c.args.parts.now c.in-Some-first_passed.refusal
    (ap first_passed (sym c.counted.ensures) ∙ sym c.in_default.ensures)
    (ap first_passed (sym c.counted_last.ensures) ∙ sym c.in-Some-first_passed.ensures)

pub returns-in-Some-budget_refusal-clause-err : goal.returns-in-Some-budget_refusal-clause-err
returns-in-Some-budget_refusal-clause-err c =
    limited_budget c.args.parts.now c.in-Some-budget_refusal.refusal
    (ap first_passed (sym c.counted.ensures) ∙ sym c.in_default.ensures)
    (ap first_passed (sym c.counted_last.ensures) ∙ sym c.in_default-first_passed.ensures)
    (ap budget_refusal (sym (c.in-Some-bytes_of.ensures ∙ ap (sum_by (λ (t : List ℕ). length t)) (c.as_slice-2.ensures ∙ c.in_ok-patterns.ensures))) ∙ sym c.in-Some-budget_refusal.ensures)

pub returns-clause-ok : goal.returns-clause-ok
returns-clause-ok c =
    unlimited c.args.parts.now
    (ap first_passed (sym c.counted.ensures) ∙ sym c.in_default.ensures)
    (ap first_passed (sym c.counted_last.ensures) ∙ sym c.in_default-first_passed.ensures)
    (ap budget_refusal (sym (c.in-Some-bytes_of.ensures ∙ ap (sum_by (λ (t : List ℕ). length t)) (c.as_slice-2.ensures ∙ c.in_ok-patterns.ensures))) ∙ sym c.in_default-budget_refusal.ensures)
