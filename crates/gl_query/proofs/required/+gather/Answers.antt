use Rattle.std.proofs.Common.{◌∷◌, sym, ap, ◌∙◌, subst, arith}
use Rattle.gl_query.specs.Required.{Gathers, terms_of}
use Rattle.gl_query.proofs.Writing.{on_ok}
use Rattle.gl_query.proofs.Gathering.{none_arm, leaf_arm, negation_arm, both_arm, either_arm, members_more, members_done}
use Rattle.gl_query.proofs.required.+gather.Goals as goal

pub gather-returns-in-None-clause-terms : goal.gather-returns-in-None-clause-terms
gather-returns-in-None-clause-terms t c = none_arm c.args.wanted _ _ c.args.nodes.now c.args.nodes.now c.in-None.ensures.cases

pub gather-returns-in_ok-push_wanted-in-Leaf-clause-terms : goal.gather-returns-in_ok-push_wanted-in-Leaf-clause-terms
gather-returns-in_ok-push_wanted-in-Leaf-clause-terms t c =
    subst (Gathers c.args.wanted (terms_of c.args.out.now.items) (terms_of c.push_wanted.new.out.items) c.in-Some.rest.now) (sym (c.in-Some.ensures.cases.0 ∙ ap (λ n. n ∷ c.in-Some.rest.now) c.in-Leaf.is))
    (leaf_arm c.args.wanted (terms_of c.args.out.now.items) (terms_of c.push_wanted.new.out.items) c.in-Some.rest.now c.in-Leaf.term c.in_ok-push_wanted-in-Leaf.ensures)

pub gather-returns-in-Negation-clause-terms : goal.gather-returns-in-Negation-clause-terms
gather-returns-in-Negation-clause-terms t c =
    on_ok c.gather.result
    (λ left g. subst (Gathers c.args.wanted (terms_of c.args.out.now.items) (terms_of c.gather.new.out.items) left.now) (sym (c.in-Some.ensures.cases.0 ∙ ap (λ n. n ∷ c.in-Some.rest.now) c.in-Negation.is))
    (negation_arm c.args.wanted (terms_of c.args.out.now.items) (terms_of c.gather.new.out.items) left.now c.in-Some.rest.now g))
    c.gather.ensures.terms

pub gather-returns-in-Both-clause-terms : goal.gather-returns-in-Both-clause-terms
gather-returns-in-Both-clause-terms t c =
    on_ok c.gather_members.result
    (λ left g. subst (Gathers c.args.wanted (terms_of c.args.out.now.items) (terms_of c.gather_members.new.out.items) left.now) (sym (c.in-Some.ensures.cases.0 ∙ ap (λ n. n ∷ c.in-Some.rest.now) c.in-Both.is))
    (both_arm c.args.wanted (terms_of c.args.out.now.items) (terms_of c.gather_members.new.out.items) left.now c.in-Both.count c.in-Some.rest.now g))
    c.gather_members.ensures.terms

pub gather-returns-in-Either-clause-terms : goal.gather-returns-in-Either-clause-terms
gather-returns-in-Either-clause-terms t c =
    on_ok c.gather_members-in-Either.result
    (λ left g. subst (Gathers c.args.wanted (terms_of c.args.out.now.items) (terms_of c.gather_members-in-Either.new.out.items) left.now) (sym (c.in-Some.ensures.cases.0 ∙ ap (λ n. n ∷ c.in-Some.rest.now) c.in-Either.is))
    (either_arm c.args.wanted (terms_of c.args.out.now.items) (terms_of c.gather_members-in-Either.new.out.items) left.now c.in-Either.count c.in-Some.rest.now g))
    c.gather_members-in-Either.ensures.terms

pub gather_members-loop-done-preserved : goal.gather_members-loop-done-preserved
gather_members-loop-done-preserved t c =
    let v = c.loop-done.invariant in
    record {
      members = λ ts rest counted at.
          members_more ts rest c.loop-done.left.now c.args.wanted _ (terms_of c.loop-done.out.items) c.loop-done._done c.args.count (terms_of c.gather.new.out.items) _ c.loop-done-test.true c.in_ok-left.ensures.terms (v.members ts rest counted at);
      shorter = omega (arith, v.shorter, c.in_ok-left.ensures.shorter);
    }

pub gather_members-returns-clause-terms : goal.gather_members-returns-clause-terms
gather_members-returns-clause-terms t c = λ ts rest counted at.
    let v = c.loop-done.invariant in
    members_done ts rest c.loop-done.left.now c.args.wanted _ (terms_of c.loop-done.out.items) c.loop-done._done c.args.count c.loop-done-test.false (v.members ts rest counted at)
