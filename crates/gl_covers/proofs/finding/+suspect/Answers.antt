use Rattle.std.proofs.Common.{◌∷◌, sym, ap, ◌∙◌, subst, arith, refl, None, Some, []}
use Rattle.gl_covers.specs.Covers.{all_joined, covers, joined, narrower_known, narrowest}
use Rattle.gl_covers.specs.Suspects.{Suspects}
use Rattle.gl_covers.proofs.Gathering.{both_arm, either_arm, leaf_arm, members_done, members_more, members_none, negation_arm, none_arm, nothing_found, on_ok}
use Rattle.gl_covers.proofs.finding.+suspect.Goals as goal

pub suspect-returns-in-None-clause-found : goal.suspect-returns-in-None-clause-found
suspect-returns-in-None-clause-found t c = none_arm c.args.wanted c.args.words.now None c.args.nodes.now c.args.nodes.now c.in-None.ensures.cases

pub suspect-returns-in_ok-found-in-Leaf-clause-found : goal.suspect-returns-in_ok-found-in-Leaf-clause-found
suspect-returns-in_ok-found-in-Leaf-clause-found t c =
    subst (Suspects c.args.wanted c.args.words.now c.in_ok-found-in-Leaf.found c.in-Some.rest.now) (sym (c.in-Some.ensures.cases.0 ∙ ap (λ n. n ∷ c.in-Some.rest.now) c.in-Leaf.is))
    (leaf_arm c.args.wanted c.args.words.now c.in_ok-found-in-Leaf.found c.in-Some.rest.now c.in-Leaf.term c.in_ok-found-in-Leaf.ensures)

pub suspect-returns-in_ok-left-in-Negation-clause-found : goal.suspect-returns-in_ok-left-in-Negation-clause-found
suspect-returns-in_ok-left-in-Negation-clause-found t c =
    subst (Suspects c.args.wanted c.args.words.now None c.in_ok-left-in-Negation.left.now) (sym (c.in-Some.ensures.cases.0 ∙ ap (λ n. n ∷ c.in-Some.rest.now) c.in-Negation.is))
    (negation_arm c.args.wanted c.args.words.now _ c.in_ok-left-in-Negation.left.now c.in-Some.rest.now c.in_ok-left-in-Negation.ensures.found)

pub suspect-returns-in-Both-clause-found : goal.suspect-returns-in-Both-clause-found
suspect-returns-in-Both-clause-found t c =
    on_ok c.fewest.result
    (λ r s. subst (Suspects c.args.wanted c.args.words.now r.0 r.1.now) (sym (c.in-Some.ensures.cases.0 ∙ ap (λ n. n ∷ c.in-Some.rest.now) c.in-Both.is))
    (both_arm c.args.wanted c.args.words.now r.0 r.1.now c.in-Both.count c.in-Some.rest.now s))
    c.fewest.ensures.found

pub suspect-returns-in-Either-clause-found : goal.suspect-returns-in-Either-clause-found
suspect-returns-in-Either-clause-found t c =
    on_ok c.all.result
    (λ r s. subst (Suspects c.args.wanted c.args.words.now r.0 r.1.now) (sym (c.in-Some.ensures.cases.0 ∙ ap (λ n. n ∷ c.in-Some.rest.now) c.in-Either.is))
    (either_arm c.args.wanted c.args.words.now r.0 r.1.now c.in-Either.count c.in-Some.rest.now s))
    c.all.ensures.found

pub fewest-loop-done-init : goal.fewest-loop-done-init
fewest-loop-done-init t c = record {
  members = λ rows stands ts rest counted at. members_none c.args.wanted rows (narrower_known rows) None ts rest c.args.nodes.now None c.args.count counted at refl;
  shorter = omega arith;
}

pub fewest-loop-done-preserved : goal.fewest-loop-done-preserved
fewest-loop-done-preserved t c =
    let v = c.loop-done.invariant in
    record {
      members = λ rows stands ts rest counted at.
          members_more c.args.wanted rows (narrower_known rows) (narrowest rows (covers rows ts)) rest c.loop-done.left.now c.loop-done.found c.loop-done._done c.args.count c.args.words.now c.in_ok-next.next c.narrower-found.result c.in_ok-next.rest.now stands c.loop-done-test.true c.in_ok-next.ensures.found (c.narrower-found.ensures rows) (v.members rows stands ts rest counted at);
      shorter = omega (arith, v.shorter, c.in_ok-next.ensures.shorter);
    }

pub fewest-returns-clause-found : goal.fewest-returns-clause-found
fewest-returns-clause-found t c = λ rows stands ts rest counted at.
    let v = c.loop-done.invariant in
    members_done c.args.wanted rows (narrower_known rows) (narrowest rows (covers rows ts)) rest c.loop-done.left.now c.loop-done.found c.loop-done._done c.args.count c.loop-done-test.false (v.members rows stands ts rest counted at)

pub all-loop-done-init : goal.all-loop-done-init
all-loop-done-init t c = record {
  members = λ rows stands ts rest counted at. members_none c.args.wanted rows joined (Some []) ts rest c.args.nodes.now (Some c.new.result) c.args.count counted at (ap Some (c.new.ensures ∙ sym (nothing_found rows)));
  shorter = omega arith;
}

pub all-loop-done-preserved : goal.all-loop-done-preserved
all-loop-done-preserved t c =
    let v = c.loop-done.invariant in
    record {
      members = λ rows stands ts rest counted at.
          members_more c.args.wanted rows joined (all_joined (covers rows ts)) rest c.loop-done.left.now c.loop-done.found c.loop-done._done c.args.count c.args.words.now c.in_ok-next.next c.in_ok-found.found c.in_ok-next.rest.now stands c.loop-done-test.true c.in_ok-next.ensures.found (λ a b is are. c.in_ok-found.ensures rows a b stands.rising is are) (v.members rows stands ts rest counted at);
      shorter = omega (arith, v.shorter, c.in_ok-next.ensures.shorter);
    }

pub all-returns-clause-found : goal.all-returns-clause-found
all-returns-clause-found t c = λ rows stands ts rest counted at.
    let v = c.loop-done.invariant in
    members_done c.args.wanted rows joined (all_joined (covers rows ts)) rest c.loop-done.left.now c.loop-done.found c.loop-done._done c.args.count c.loop-done-test.false (v.members rows stands ts rest counted at)
