use Rattle.gl_node.specs.Arrivals.{arrival_events}
use Rattle.gl_node.specs.State.{state_after}
use Rattle.gl_cli.proofs.Desks.{after_arrival, payload_arrives, still_running}
use Rattle.gl_cli.proofs.desk.Desk.payload.Goals as goal

pub returns-clause-answer : goal.returns-clause-answer
returns-clause-answer g c s kept =
    let answer = c.in_ok-arrival.ensures.answer s kept.node in (
      answer.0,
      after_arrival c.args.self.now c.payload.new.self s (state_after s (arrival_events s c.args.moment c.args.input.now c.args.peer.now c.args.bytes.now)) kept
          (still_running _ _ _ _ c.in_ok-arrival.arrival kept.running c.in_ok-arrival.ensures.faults) answer.1
          (payload_arrives s c.args.moment c.args.input.now c.args.peer.now c.args.bytes.now),
    )

pub returns-in_err-arrival-clause-any_moment : goal.returns-in_err-arrival-clause-any_moment
returns-in_err-arrival-clause-any_moment g c = λ tells on s kept. c.payload.ensures.any_moment tells on s kept.node

pub returns-clause-any_moment : goal.returns-clause-any_moment
returns-clause-any_moment g c = λ tells on s kept. c.payload.ensures.any_moment tells on s kept.node
