use Rattle.std.proofs.Common.{subst}
use Rattle.std.specs.Io.KnownBytes.{Appends}
use Rattle.gl_node.specs.declared.answer.Arrival.{Arrival}
use Rattle.gl_node.specs.Arrivals.{arrival_of, arrival_events}
use Rattle.gl_node.specs.State.{state_after}
use Rattle.gl_cli.specs.Answers.{words_text, arrival_words}
use Rattle.gl_cli.specs.Sessions.{payload_turn}
use Rattle.gl_cli.specs.Writing.{AppendsSome}
use Rattle.gl_cli.proofs.Sinks.{OnErr-from}
use Rattle.gl_cli.proofs.Steps.{cuts_unwritten, leaves_unwritten, does_one, cuts_one, during_one, leaves_one}
use Rattle.gl_cli.proofs.arriving.answer_payload.Goals as goal

pub returns-in_err-arrival-clause-cut : goal.returns-in_err-arrival-clause-cut
returns-in_err-arrival-clause-cut g c = OnErr-from c.from_residual.result (cuts_unwritten (payload_turn c.args.moment c.args.input.now c.args.peer.now c.args.bytes.now) c.args.desk.now (g.K.Sink.contents c.args.sink.now))

pub returns-in_err-write_arrival-clause-cut : goal.returns-in_err-write_arrival-clause-cut
returns-in_err-write_arrival-clause-cut g c = OnErr-from c.from_residual-in_err-write_arrival.result
    (cuts_one (λ s. arrival_words (arrival_of s c.args.moment c.args.input.now c.args.peer.now c.args.bytes.now)) (λ s. arrival_events s c.args.moment c.args.input.now c.args.peer.now c.args.bytes.now) c.args.desk.now (g.K.Sink.contents c.args.sink.now) (g.K.Sink.contents c.write_arrival.new.sink)
    (λ s kept. subst (λ (a : Arrival). AppendsSome (g.K.Sink.contents c.args.sink.now) (g.K.Sink.contents c.write_arrival.new.sink) (words_text (arrival_words a))) (c.in_ok-arrival.ensures.answer s kept).0 c.in_err-write_arrival.ensures.err))

pub returns-clause-answered : goal.returns-clause-answered
returns-clause-answered g c = does_one (λ s. arrival_words (arrival_of s c.args.moment c.args.input.now c.args.peer.now c.args.bytes.now)) (λ s. arrival_events s c.args.moment c.args.input.now c.args.peer.now c.args.bytes.now) c.args.desk.now c.payload.new.self (g.K.Sink.contents c.args.sink.now) (g.K.Sink.contents c.write_arrival.new.sink)
    (λ s kept. (
      (c.in_ok-arrival.ensures.answer s kept).1,
      subst (λ (a : Arrival). Appends (g.K.Sink.contents c.args.sink.now) (g.K.Sink.contents c.write_arrival.new.sink) (words_text (arrival_words a))) (c.in_ok-arrival.ensures.answer s kept).0 c.in_ok-write_arrival.ensures.ok,
    ))

pub returns-in_err-arrival-clause-any_moment : goal.returns-in_err-arrival-clause-any_moment
returns-in_err-arrival-clause-any_moment g c = during_one (λ s. arrival_words (arrival_of s c.args.moment c.args.input.now c.args.peer.now c.args.bytes.now)) (λ s. arrival_events s c.args.moment c.args.input.now c.args.peer.now c.args.bytes.now) c.args.desk.now (g.D.Disk.state c.args.disk.now) (g.D.Disk.state c.payload.new.disk) c.payload.ensures.any_moment

pub returns-in_err-write_arrival-clause-any_moment : goal.returns-in_err-write_arrival-clause-any_moment
returns-in_err-write_arrival-clause-any_moment g c = during_one (λ s. arrival_words (arrival_of s c.args.moment c.args.input.now c.args.peer.now c.args.bytes.now)) (λ s. arrival_events s c.args.moment c.args.input.now c.args.peer.now c.args.bytes.now) c.args.desk.now (g.D.Disk.state c.args.disk.now) (g.D.Disk.state c.payload.new.disk) c.payload.ensures.any_moment

pub returns-clause-any_moment : goal.returns-clause-any_moment
returns-clause-any_moment g c = during_one (λ s. arrival_words (arrival_of s c.args.moment c.args.input.now c.args.peer.now c.args.bytes.now)) (λ s. arrival_events s c.args.moment c.args.input.now c.args.peer.now c.args.bytes.now) c.args.desk.now (g.D.Disk.state c.args.disk.now) (g.D.Disk.state c.payload.new.disk) c.payload.ensures.any_moment

pub returns-in_err-arrival-clause-cut_leaves : goal.returns-in_err-arrival-clause-cut_leaves
returns-in_err-arrival-clause-cut_leaves g c = OnErr-from c.from_residual.result
    (leaves_unwritten (payload_turn c.args.moment c.args.input.now c.args.peer.now c.args.bytes.now) c.args.desk.now (g.K.Sink.contents c.args.sink.now) (g.D.Disk.state c.args.disk.now) (g.D.Disk.state c.payload.new.disk)
    (during_one (λ s. arrival_words (arrival_of s c.args.moment c.args.input.now c.args.peer.now c.args.bytes.now)) (λ s. arrival_events s c.args.moment c.args.input.now c.args.peer.now c.args.bytes.now) c.args.desk.now (g.D.Disk.state c.args.disk.now) (g.D.Disk.state c.payload.new.disk) c.payload.ensures.any_moment))

pub returns-in_err-write_arrival-clause-cut_leaves : goal.returns-in_err-write_arrival-clause-cut_leaves
returns-in_err-write_arrival-clause-cut_leaves g c = OnErr-from c.from_residual-in_err-write_arrival.result
    (leaves_one (λ s. arrival_words (arrival_of s c.args.moment c.args.input.now c.args.peer.now c.args.bytes.now)) (λ s. arrival_events s c.args.moment c.args.input.now c.args.peer.now c.args.bytes.now) c.args.desk.now (g.K.Sink.contents c.args.sink.now) (g.K.Sink.contents c.write_arrival.new.sink) (g.D.Disk.state c.args.disk.now) (g.D.Disk.state c.payload.new.disk)
    (cuts_one (λ s. arrival_words (arrival_of s c.args.moment c.args.input.now c.args.peer.now c.args.bytes.now)) (λ s. arrival_events s c.args.moment c.args.input.now c.args.peer.now c.args.bytes.now) c.args.desk.now (g.K.Sink.contents c.args.sink.now) (g.K.Sink.contents c.write_arrival.new.sink)
    (λ s kept. subst (λ (a : Arrival). AppendsSome (g.K.Sink.contents c.args.sink.now) (g.K.Sink.contents c.write_arrival.new.sink) (words_text (arrival_words a))) (c.in_ok-arrival.ensures.answer s kept).0 c.in_err-write_arrival.ensures.err))
    (λ tells on s kept image left. c.law_images_show_the_state.ensures (state_after s (arrival_events s c.args.moment c.args.input.now c.args.peer.now c.args.bytes.now)) (c.in_ok-arrival.ensures.answer s kept).1.node
    (c.in_ok-arrival.ensures.stands tells on) image left))
