use Rattle.std.proofs.Common.{rules, ◌∷◌, sym, ap, ◌∙◌, subst, arith}
use Rattle.gl_query.specs.Printing.{Prints}
use Rattle.gl_query.proofs.Writing.{prints_none, prints_leaf, prints_negation, prints_both, prints_either, members_more, members_done, on_ok}
use Rattle.gl_query.proofs.print.+print.Goals as goal

pub push_node-returns-in-None-clause-text : goal.push_node-returns-in-None-clause-text
push_node-returns-in-None-clause-text t c = prints_none _ _ c.args.nodes.now c.args.nodes.now c.in-None.ensures.cases

pub push_node-returns-in_ok-push_term-in-Leaf-clause-text : goal.push_node-returns-in_ok-push_term-in-Leaf-clause-text
push_node-returns-in_ok-push_term-in-Leaf-clause-text t c =
    subst (Prints c.args.out.now.items c.push_term.new.out.items c.in-Some.rest.now) (sym (c.in-Some.ensures.cases.0 ∙ ap (λ n. n ∷ c.in-Some.rest.now) c.in-Leaf.is))
    (prints_leaf c.args.out.now.items c.push_term.new.out.items c.in-Some.rest.now c.in-Leaf.term c.in_ok-push_term-in-Leaf.ensures)

pub push_node-returns-in_ok-push_byte-in-Negation-clause-text : goal.push_node-returns-in_ok-push_byte-in-Negation-clause-text
push_node-returns-in_ok-push_byte-in-Negation-clause-text t c =
    subst (Prints c.args.out.now.items c.push_byte.new.out.items c.in_ok-left-in-Negation.left.now) (sym (c.in-Some.ensures.cases.0 ∙ ap (λ n. n ∷ c.in-Some.rest.now) c.in-Negation.is))
    (prints_negation c.args.out.now.items c.push_byte.new.out.items c.in_ok-left-in-Negation.left.now c.extend_from_slice.new.self.items c.push_node.new.out.items c.in-Some.rest.now (search rules) c.in_ok-left-in-Negation.ensures.text c.in_ok-push_byte-in-Negation.ensures)

pub push_node-returns-in-Both-clause-text : goal.push_node-returns-in-Both-clause-text
push_node-returns-in-Both-clause-text t c =
    on_ok c.push_members.result
    (λ left g. subst (Prints c.args.out.now.items c.push_members.new.out.items left.now) (sym (c.in-Some.ensures.cases.0 ∙ ap (λ n. n ∷ c.in-Some.rest.now) c.in-Both.is))
    (prints_both c.args.out.now.items c.push_members.new.out.items left.now c.in-Both.count c.in-Some.rest.now c.as_slice-in-Both.result.now c.as_slice-in-Both.ensures g))
    c.push_members.ensures.text

pub push_node-returns-in-Either-clause-text : goal.push_node-returns-in-Either-clause-text
push_node-returns-in-Either-clause-text t c =
    on_ok c.push_members-in-Either.result
    (λ left g. subst (Prints c.args.out.now.items c.push_members-in-Either.new.out.items left.now) (sym (c.in-Some.ensures.cases.0 ∙ ap (λ n. n ∷ c.in-Some.rest.now) c.in-Either.is))
    (prints_either c.args.out.now.items c.push_members-in-Either.new.out.items left.now c.in-Either.count c.in-Some.rest.now c.as_slice-in-Either.result.now c.as_slice-in-Either.ensures g))
    c.push_members-in-Either.ensures.text

pub push_members-loop-done-preserved : goal.push_members-loop-done-preserved
push_members-loop-done-preserved t c =
    let v = c.loop-done.invariant in
    record {
      members = λ ts rest counted at.
          members_more ts rest c.loop-done.left.now c.args.sign.now _ c.loop-done.out.items c.loop-done.done c.args.count c.push_sign.new.out.items c.push_node.new.out.items _ c.loop-done-test.true c.in_ok-push_sign.ensures c.in_ok-left.ensures.text (v.members ts rest counted at);
      shorter = omega (arith, v.shorter, c.in_ok-left.ensures.shorter);
    }

pub push_members-returns-clause-text : goal.push_members-returns-clause-text
push_members-returns-clause-text t c = λ ts rest counted at.
    let v = c.loop-done.invariant in
    members_done ts rest c.loop-done.left.now c.args.sign.now _ c.loop-done.out.items c.loop-done.done c.args.count c.push_byte-2.new.out.items c.args.out.now.items c.loop-done-test.false c.in_ok-push_byte.ensures c.in_ok-push_byte-2.ensures (v.members ts rest counted at)
