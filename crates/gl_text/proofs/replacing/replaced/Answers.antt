use Rattle.std.proofs.Common.{◌≡◌, length, false, cond, Some, None, nat_le, IfOk, sym, ◌∙◌, subst, refl, rules, arith, List, ℕ, ◌==◌}
use Rattle.gl_text.proofs.Occurrences.{turned, front_len, new_len, too_long, ended}
use Rattle.gl_text.proofs.replacing.replaced.Goals as goal

pub loop-at-preserved : goal.loop-at-preserved
loop-at-preserved c =
    let some : (length c.args.part.now == 0) ≡ false = sym c.is_empty.ensures ∙ c.if-is_empty.false in
    let one = c.in_ok-push_within.ensures.wrote c.if-not-branch.false in
    let two = c.in_ok-push_within-2.ensures.wrote c.if-not-branch-2.false in
    record {
      text = turned c.args.part.now c.args.new.now c.loop-at.rest.now _ c.range.result.now _ c.in-Some.at some (sym c.in-Some.ensures.value) c.range.ensures.value c.loop-at.invariant.text _ _ _ one.0 two.0 c.range_from-rest.ensures.value;
      within = two.1;
      utf8 = search rules;
    }

pub returns : goal.returns
returns c =
    let some : (length c.args.part.now == 0) ≡ false = sym c.is_empty.ensures ∙ c.if-is_empty.false in
    subst (λ (t : List ℕ). IfOk c.within-2.result (λ o. o ≡ cond (nat_le (length t) c.args.at_most) (Some t) None))
    (ended c.args.part.now c.args.new.now c.args.text.now c.loop-at.rest.now _ some (sym c.in_default.ensures.value) c.loop-at.invariant.text)
    c.within-2.ensures

pub returns-then-not-branch : goal.returns-then-not-branch
returns-then-not-branch c =
    let some : (length c.args.part.now == 0) ≡ false = sym c.is_empty.ensures ∙ c.if-is_empty.false in
    let long = c.in_ok-push_within.ensures.over c.if-not-branch.true in
    let len = front_len c.args.part.now c.args.new.now c.loop-at.rest.now _ c.range.result.now _ c.in-Some.at some (sym c.in-Some.ensures.value) c.range.ensures.value c.loop-at.invariant.text in
    too_long c.args.part.now c.args.new.now c.args.text.now _ c.args.at_most some refl (omega (arith, long, len))

pub returns-then-not-branch-2 : goal.returns-then-not-branch-2
returns-then-not-branch-2 c =
    let some : (length c.args.part.now == 0) ≡ false = sym c.is_empty.ensures ∙ c.if-is_empty.false in
    let one = c.in_ok-push_within.ensures.wrote c.if-not-branch.false in
    let long = c.in_ok-push_within-2.ensures.over c.if-not-branch-2.true in
    let len = new_len c.args.part.now c.args.new.now c.loop-at.rest.now _ c.range.result.now _ c.in-Some.at some (sym c.in-Some.ensures.value) c.range.ensures.value c.loop-at.invariant.text _ one.0 in
    too_long c.args.part.now c.args.new.now c.args.text.now _ c.args.at_most some refl (omega (arith, long, len))
