use Rattle.gl_cli.specs.declared.desk.Given.{Given}
use Rattle.gl_cli.specs.Desk.{given_by}
use Rattle.std.proofs.Common.{◌++◌, List, ◌∙◌, ap, sym, subst}
use Rattle.gl_node.specs.declared.node.Node.{Node}
use Rattle.gl_node.specs.Claims.{claim_answer, claimed_by}
use Rattle.gl_node.specs.Node.{Keeps, stopped_of}
use Rattle.gl_node.specs.State.{state_after}
use Rattle.gl_cli.proofs.Desks.{after_claim}
use Rattle.gl_cli.proofs.desk.Desk.claim.Goals as goal

pub returns-clause-answer : goal.returns-clause-answer
returns-clause-answer c s kept =
    let answer = c.in_ok-claimed.ensures.answer s kept.node in (
      c.in_ok-text.ensures s c.args.limit answer.0,
      record {
        node = subst (λ (n : Node). Keeps n (state_after s (claimed_by c.args.worker (claim_answer s c.args.worker c.args.limit)))) (sym c.keep.ensures.same) answer.1;
        running = ap stopped_of c.keep.ensures.same ∙ c.in_ok-claimed.ensures.same_store.1 ∙ kept.running;
        given = after_claim c.args.self.now.given.items c.keep.new.self.given.items s c.args.worker (claim_answer s c.args.worker c.args.limit) c.in_ok-claimed.claimed kept.given answer.0
            (c.keep.ensures.given ∙ ap (λ (l : List Given). l ++ given_by c.args.worker c.in_ok-claimed.claimed) c.reserve.ensures.items);
      },
    )
