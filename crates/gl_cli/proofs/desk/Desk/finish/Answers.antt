use Rattle.std.specs.Prelude.{◌≡◌, Option, MatchOption, ⊤}
use Rattle.gl_cli.specs.declared.desk.Given.{Given}
use Rattle.std.proofs.Common.{◌∙◌, ap, sym, subst}
use Rattle.gl_node.specs.declared.mark.Claim.{Claim}
use Rattle.gl_node.specs.Calls.{finished_of, IsFresh}
use Rattle.gl_node.specs.Claims.{range_of, finish_unless, finish_events, finished_by}
use Rattle.gl_node.specs.State.{state_after}
use Rattle.gl_cli.specs.Desk.{DeskKeeps}
use Rattle.gl_cli.proofs.Desks.{none_held, brought, after_finish, still_running}
use Rattle.std.proofs.lemmas.Result.{err_from_is_err_and}
use Rattle.gl_cli.proofs.Causes.{node_cause}
use Rattle.gl_cli.proofs.Moments.{stays}
use Rattle.gl_cli.proofs.desk.Desk.finish.Goals as goal

pub returns-in_default-clause-answer : goal.returns-in_default-clause-answer
returns-in_default-clause-answer g c s kept =
    let none = none_held s.journal c.args.self.now.given.items s.held c.args.worker kept.given c.in_default.ensures in (
      sym (ap (λ (o : Option Claim). finished_of (finish_unless s (state_after s (finish_events s c.args.worker)) o)) none),
      subst (λ (o : Option Claim). DeskKeeps c.args.self.now (state_after s (finished_by s o))) (sym none) kept,
    )

pub returns-clause-answer : goal.returns-clause-answer
returns-clause-answer g c s kept =
    let gone = c.remove-given.ensures.items in
    let b = brought s.journal c.args.self.now.given.items s.held c.args.worker c.in-Some.place kept.given kept.node.tiled.workers c.in-Some.ensures in
    let fresh : IsFresh s c.args.worker c.in-Ok.work.range =
    subst (λ (o : Option Claim). MatchOption o ⊤ (λ (claim : Claim). c.in-Ok.work.range ≡ range_of s claim.mark)) (sym b.holds)
    (c.in-Ok.ensures.value ∙ ap (λ (given : Given). given.range) c.remove-given.ensures.value ∙ b.range_is c.remove-given.result) in
    let answer = c.in_ok-finished.ensures.answer s kept.node fresh in (
      answer.0,
      record {
        node = answer.1;
        running = still_running _ _ _ _ c.in_ok-finished.finished kept.running c.in_ok-finished.ensures.faults;
        given = after_finish c.args.self.now c.finish.new.self c.remove-given.new.self.items s c.args.worker c.in-Some.place kept c.in-Some.ensures gone answer.1;
      },
    )

pub returns-in_err-finished-clause-cause : goal.returns-in_err-finished-clause-cause
returns-in_err-finished-clause-cause g c =
    let p = err_from_is_err_and c.from_residual.result c.from_residual.ensures.1 in
    rw (p.1, p.2) (node_cause _ _ _ _ c.in_err-finished.field-0.0 c.requires.keeps.1.running c.in_err-finished.ensures.faults)

pub returns-in_default-clause-any_moment : goal.returns-in_default-clause-any_moment
returns-in_default-clause-any_moment g c = λ tells on s kept.
    stays s (finish_events s c.args.worker) (g.D.Disk.state c.args.disk.now) (λ image left. c.law_images_show_the_state.ensures s kept.node on image left)

pub returns-in-Err-clause-any_moment : goal.returns-in-Err-clause-any_moment
returns-in-Err-clause-any_moment g c = λ tells on s kept.
    stays s (finish_events s c.args.worker) (g.D.Disk.state c.args.disk.now) (λ image left. c.law_images_show_the_state.ensures s kept.node on image left)

pub returns-in_err-finished-clause-any_moment : goal.returns-in_err-finished-clause-any_moment
returns-in_err-finished-clause-any_moment g c = λ tells on s kept. c.finish.ensures.any_moment tells on s kept.node

pub returns-clause-any_moment : goal.returns-clause-any_moment
returns-clause-any_moment g c = λ tells on s kept. c.finish.ensures.any_moment tells on s kept.node
