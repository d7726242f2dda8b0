use Rattle.std.proofs.Common.{◌≡◌, ◌⊎◌, ⊎_elim, ℕ, ◌<◌, ◌≤◌, Bool, true, false, ◌||◌, nat_le, sym, ◌∙◌, arith}
use Rattle.std.specs.List.{list_any}
use Rattle.std.proofs.lemmas.Bool.Decides.{nat_tests}
use Rattle.gl_pool.specs.Kept.{spans_over}
use Rattle.gl_pool.proofs.Spans.{none_over, some_over}
use Rattle.gl_pool.proofs.span.run_end.Goals as goal

not_open : (p frontier : ℕ) (any : Bool) → p < frontier → any ≡ false → (nat_le frontier p || any) ≡ false
not_open p frontier any lt none = grind (arith, nat_tests)

open_by : (p frontier : ℕ) (any : Bool) → any ≡ true → (nat_le frontier p || any) ≡ true
open_by p frontier any some = grind (arith, nat_tests)

below_or : (p e : ℕ) → (p < e) ⊎ (e ≤ p)
below_or p e = grind arith

pub returns-in_default-clause-whole : goal.returns-in_default-clause-whole
returns-in_default-clause-whole c = λ lt.
    not_open c.loop-end.end c.args.frontier (list_any (spans_over c.loop-end.end) c.args.spans.now) (omega arith)
    (none_over c.loop-end.end c.args.spans.now (sym c.end_of_span.ensures ∙ c.in_default.is))

pub loop-end-smaller : goal.loop-end-smaller
loop-end-smaller c =
    let over = some_over c.loop-end.end c.in-Some.further c.args.spans.now (sym c.end_of_span.ensures ∙ c.in-Some.is) in
    omega (arith, over.0)

pub loop-end-preserved : goal.loop-end-preserved
loop-end-preserved c =
    let over = some_over c.loop-end.end c.in-Some.further c.args.spans.now (sym c.end_of_span.ensures ∙ c.in-Some.is) in record {
      from = omega (arith, over.0);
      within = omega arith;
      free = λ p low high. ⊎_elim
          (λ (before : p < c.loop-end.end). c.loop-end.invariant.free p low before)
          (λ (after : c.loop-end.end ≤ p). open_by p c.args.frontier (list_any (spans_over p) c.args.spans.now) (over.1 p after (omega arith)))
          (below_or p c.loop-end.end);
    }
