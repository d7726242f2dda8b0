use Rattle.std.proofs.Common.{◌++◌, ◌∙◌, refl, subst, sym, take, Bool, IsTrue}
use Rattle.gl_node.specs.State.{state_after}
use Rattle.gl_cli.specs.declared.status.Status.TheVariants.{SinkFault, DiskFault}
use Rattle.gl_cli.specs.Runs.{turn_events}
use Rattle.gl_cli.specs.Sessions.{payload_turn}
use Rattle.std.proofs.lemmas.Result.{err_from_is_err_and}
use Rattle.gl_cli.proofs.Causes.{cause_on}
use Rattle.gl_cli.proofs.Desks.{ok_is_no_error}
use Rattle.gl_cli.proofs.Feeding.{served_none, served_nothing, served_too_long, served_whole, served_more, served_cut, served_during, served_leaves}
use Rattle.gl_cli.proofs.Sinks.{OnErr-from, slice_rest}
use Rattle.gl_cli.proofs.arriving.answer_frames.Goals as goal

pub frames-init : goal.frames-init
frames-init g c = record {
  served = λ kind before stands going. served_none c.args.moment c.args.input.now c.args.peer.now kind before c.args.piece.now c.args.frames.now c.args.desk.now (g.K.Sink.contents c.args.sink.now) (g.D.Disk.state c.args.disk.now) stands going c.law_images_show_the_state.ensures;
  keeps = c.requires.keeps;
  ready = c.requires.ready;
  stands = λ tells on. on;
  tells = refl;
  sink = refl;
  disk = refl;
}

pub take-taken-requires : goal.take-taken-requires
take-taken-requires g c =
    let some = c.requires.reader in
    let sv = c.frames.invariant.served some.kind some.before some.stands some.going in
    (some.kind, some.before ++ sv.front, sv.stands)

pub frames-preserved : goal.frames-preserved
frames-preserved g c = record {
  served = λ kind before stands going.
      let sv = c.frames.invariant.served kind before stands going in
      let whole = served_whole c.args.moment c.args.input.now c.args.peer.now kind before c.args.piece.now c.frames.rest.now c.frames.frames c.args.desk.now c.frames.desk (g.K.Sink.contents c.args.sink.now) (g.K.Sink.contents c.frames.sink) (g.D.Disk.state c.args.disk.now) (g.D.Disk.state c.frames.disk) sv c.take-taken.result.1 c.take-taken.result.0 c.take-taken.new.self (c.take-taken.ensures.took kind (before ++ sv.front) sv.stands) c.in-Whole.is c.frame-frame.result.now c.frame-frame.ensures in
      served_more c.args.moment c.args.input.now c.args.peer.now kind before c.args.piece.now c.frames.rest.now c.frames.frames c.args.desk.now c.frames.desk (g.K.Sink.contents c.args.sink.now) (g.K.Sink.contents c.frames.sink) (g.D.Disk.state c.args.disk.now) (g.D.Disk.state c.frames.disk) sv c.take-taken.result.0 c.take-taken.new.self c.frame-frame.result.now whole.1 c.answer_payload.new.desk (g.K.Sink.contents c.answer_payload.new.sink) (g.D.Disk.state c.answer_payload.new.disk) c.frames.invariant.tells c.frames.invariant.stands
      _ (slice_rest c.take-taken.result.0 c.frames.rest.now) (c.take-taken.ensures.took kind (before ++ sv.front) sv.stands).1 whole.2 c.in_ok-answer_payload-in-Whole.ensures.answered c.answer_payload.ensures.any_moment;
  keeps = let kept = c.frames.invariant.keeps in (
    state_after kept.0 (turn_events (payload_turn c.args.moment c.args.input.now c.args.peer.now c.frame-frame.result.now kept.0)),
    (c.in_ok-answer_payload-in-Whole.ensures.answered kept.0 kept.1).0,
  );
  ready = λ tells. c.in_ok-answer_payload-in-Whole.ensures.ready (subst (λ (b : Bool). IsTrue b) (sym c.frames.invariant.tells) tells);
  stands = λ tells on. c.in_ok-answer_payload-in-Whole.ensures.stands (subst (λ (b : Bool). IsTrue b) (sym c.frames.invariant.tells) tells) (c.frames.invariant.stands tells on);
  tells = c.answer_payload.ensures.tells ∙ c.frames.invariant.tells;
  sink = c.in_ok-answer_payload-in-Whole.ensures.sink_cause.steady (ok_is_no_error c.in_ok-answer_payload-in-Whole.field-0 SinkFault) ∙ c.frames.invariant.sink;
  disk = c.in_ok-answer_payload-in-Whole.ensures.disk_cause.steady (ok_is_no_error c.in_ok-answer_payload-in-Whole.field-0 DiskFault) ∙ c.frames.invariant.disk;
}

pub returns-in-Nothing-clause-reader : goal.returns-in-Nothing-clause-reader
returns-in-Nothing-clause-reader g c kind before stands going =
    let sv = c.frames.invariant.served kind before stands going in
    (served_nothing c.args.moment c.args.input.now c.args.peer.now kind before c.args.piece.now c.frames.rest.now c.frames.frames c.args.desk.now c.frames.desk (g.K.Sink.contents c.args.sink.now) (g.K.Sink.contents c.frames.sink) (g.D.Disk.state c.args.disk.now) (g.D.Disk.state c.frames.disk) sv c.take-taken.result.1 c.take-taken.result.0 c.take-taken.new.self (c.take-taken.ensures.took kind (before ++ sv.front) sv.stands) c.in-Nothing.is).0

pub returns-in-Nothing-clause-answered : goal.returns-in-Nothing-clause-answered
returns-in-Nothing-clause-answered g c kind before stands going =
    let sv = c.frames.invariant.served kind before stands going in
    (served_nothing c.args.moment c.args.input.now c.args.peer.now kind before c.args.piece.now c.frames.rest.now c.frames.frames c.args.desk.now c.frames.desk (g.K.Sink.contents c.args.sink.now) (g.K.Sink.contents c.frames.sink) (g.D.Disk.state c.args.disk.now) (g.D.Disk.state c.frames.disk) sv c.take-taken.result.1 c.take-taken.result.0 c.take-taken.new.self (c.take-taken.ensures.took kind (before ++ sv.front) sv.stands) c.in-Nothing.is).1

pub returns-in-Nothing-clause-any_moment : goal.returns-in-Nothing-clause-any_moment
returns-in-Nothing-clause-any_moment g c kind before stands going =
    let sv = c.frames.invariant.served kind before stands going in
    (served_nothing c.args.moment c.args.input.now c.args.peer.now kind before c.args.piece.now c.frames.rest.now c.frames.frames c.args.desk.now c.frames.desk (g.K.Sink.contents c.args.sink.now) (g.K.Sink.contents c.frames.sink) (g.D.Disk.state c.args.disk.now) (g.D.Disk.state c.frames.disk) sv c.take-taken.result.1 c.take-taken.result.0 c.take-taken.new.self (c.take-taken.ensures.took kind (before ++ sv.front) sv.stands) c.in-Nothing.is).2

pub returns-in-TooLong-clause-reader : goal.returns-in-TooLong-clause-reader
returns-in-TooLong-clause-reader g c kind before stands going =
    let sv = c.frames.invariant.served kind before stands going in
    (served_too_long c.args.moment c.args.input.now c.args.peer.now kind before c.args.piece.now c.frames.rest.now c.frames.frames c.args.desk.now c.frames.desk (g.K.Sink.contents c.args.sink.now) (g.K.Sink.contents c.frames.sink) (g.D.Disk.state c.args.disk.now) (g.D.Disk.state c.frames.disk) sv c.take-taken.result.1 c.take-taken.result.0 c.take-taken.new.self (c.take-taken.ensures.took kind (before ++ sv.front) sv.stands) c.in-TooLong.is).0

pub returns-in-TooLong-clause-answered : goal.returns-in-TooLong-clause-answered
returns-in-TooLong-clause-answered g c kind before stands going =
    let sv = c.frames.invariant.served kind before stands going in
    (served_too_long c.args.moment c.args.input.now c.args.peer.now kind before c.args.piece.now c.frames.rest.now c.frames.frames c.args.desk.now c.frames.desk (g.K.Sink.contents c.args.sink.now) (g.K.Sink.contents c.frames.sink) (g.D.Disk.state c.args.disk.now) (g.D.Disk.state c.frames.disk) sv c.take-taken.result.1 c.take-taken.result.0 c.take-taken.new.self (c.take-taken.ensures.took kind (before ++ sv.front) sv.stands) c.in-TooLong.is).1

pub returns-in-TooLong-clause-any_moment : goal.returns-in-TooLong-clause-any_moment
returns-in-TooLong-clause-any_moment g c kind before stands going =
    let sv = c.frames.invariant.served kind before stands going in
    (served_too_long c.args.moment c.args.input.now c.args.peer.now kind before c.args.piece.now c.frames.rest.now c.frames.frames c.args.desk.now c.frames.desk (g.K.Sink.contents c.args.sink.now) (g.K.Sink.contents c.frames.sink) (g.D.Disk.state c.args.disk.now) (g.D.Disk.state c.frames.disk) sv c.take-taken.result.1 c.take-taken.result.0 c.take-taken.new.self (c.take-taken.ensures.took kind (before ++ sv.front) sv.stands) c.in-TooLong.is).2

pub returns-in_err-answer_payload-in-Whole-clause-cut : goal.returns-in_err-answer_payload-in-Whole-clause-cut
returns-in_err-answer_payload-in-Whole-clause-cut g c = OnErr-from c.from_residual.result (λ kind before stands going.
    let sv = c.frames.invariant.served kind before stands going in
    let whole = served_whole c.args.moment c.args.input.now c.args.peer.now kind before c.args.piece.now c.frames.rest.now c.frames.frames c.args.desk.now c.frames.desk (g.K.Sink.contents c.args.sink.now) (g.K.Sink.contents c.frames.sink) (g.D.Disk.state c.args.disk.now) (g.D.Disk.state c.frames.disk) sv c.take-taken.result.1 c.take-taken.result.0 c.take-taken.new.self (c.take-taken.ensures.took kind (before ++ sv.front) sv.stands) c.in-Whole.is c.frame-frame.result.now c.frame-frame.ensures in
    served_cut c.args.moment c.args.input.now c.args.peer.now kind before c.args.piece.now c.frames.rest.now c.frames.frames c.args.desk.now c.frames.desk (g.K.Sink.contents c.args.sink.now) (g.K.Sink.contents c.frames.sink) (g.D.Disk.state c.args.disk.now) (g.D.Disk.state c.frames.disk) sv c.take-taken.result.0 c.take-taken.new.self c.frame-frame.result.now whole.1 c.answer_payload.new.desk (g.K.Sink.contents c.answer_payload.new.sink) (g.D.Disk.state c.answer_payload.new.disk) c.frames.invariant.tells c.frames.invariant.stands (c.law_frames_go_on.ensures kind ((before ++ sv.front) ++ take c.take-taken.result.0 c.frames.rest.now) (c.take-taken.ensures.took kind (before ++ sv.front) sv.stands).1) c.in_err-answer_payload-in-Whole.ensures.cut)

pub returns-in_err-answer_payload-in-Whole-clause-any_moment : goal.returns-in_err-answer_payload-in-Whole-clause-any_moment
returns-in_err-answer_payload-in-Whole-clause-any_moment g c kind before stands going =
    let sv = c.frames.invariant.served kind before stands going in
    let whole = served_whole c.args.moment c.args.input.now c.args.peer.now kind before c.args.piece.now c.frames.rest.now c.frames.frames c.args.desk.now c.frames.desk (g.K.Sink.contents c.args.sink.now) (g.K.Sink.contents c.frames.sink) (g.D.Disk.state c.args.disk.now) (g.D.Disk.state c.frames.disk) sv c.take-taken.result.1 c.take-taken.result.0 c.take-taken.new.self (c.take-taken.ensures.took kind (before ++ sv.front) sv.stands) c.in-Whole.is c.frame-frame.result.now c.frame-frame.ensures in
    served_during c.args.moment c.args.input.now c.args.peer.now kind before c.args.piece.now c.frames.rest.now c.frames.frames c.args.desk.now c.frames.desk (g.K.Sink.contents c.args.sink.now) (g.K.Sink.contents c.frames.sink) (g.D.Disk.state c.args.disk.now) (g.D.Disk.state c.frames.disk) sv c.take-taken.result.0 c.take-taken.new.self c.frame-frame.result.now whole.1 c.answer_payload.new.desk (g.K.Sink.contents c.answer_payload.new.sink) (g.D.Disk.state c.answer_payload.new.disk) c.frames.invariant.tells c.frames.invariant.stands (c.law_frames_go_on.ensures kind ((before ++ sv.front) ++ take c.take-taken.result.0 c.frames.rest.now) (c.take-taken.ensures.took kind (before ++ sv.front) sv.stands).1) c.answer_payload.ensures.any_moment

pub returns-in_err-answer_payload-in-Whole-clause-cut_leaves : goal.returns-in_err-answer_payload-in-Whole-clause-cut_leaves
returns-in_err-answer_payload-in-Whole-clause-cut_leaves g c = OnErr-from c.from_residual.result (λ kind before stands going.
    let sv = c.frames.invariant.served kind before stands going in
    let whole = served_whole c.args.moment c.args.input.now c.args.peer.now kind before c.args.piece.now c.frames.rest.now c.frames.frames c.args.desk.now c.frames.desk (g.K.Sink.contents c.args.sink.now) (g.K.Sink.contents c.frames.sink) (g.D.Disk.state c.args.disk.now) (g.D.Disk.state c.frames.disk) sv c.take-taken.result.1 c.take-taken.result.0 c.take-taken.new.self (c.take-taken.ensures.took kind (before ++ sv.front) sv.stands) c.in-Whole.is c.frame-frame.result.now c.frame-frame.ensures in
    served_leaves c.args.moment c.args.input.now c.args.peer.now kind before c.args.piece.now c.frames.rest.now c.frames.frames c.args.desk.now c.frames.desk (g.K.Sink.contents c.args.sink.now) (g.K.Sink.contents c.frames.sink) (g.D.Disk.state c.args.disk.now) (g.D.Disk.state c.frames.disk) sv c.take-taken.result.0 c.take-taken.new.self c.frame-frame.result.now whole.1 c.answer_payload.new.desk (g.K.Sink.contents c.answer_payload.new.sink) (g.D.Disk.state c.answer_payload.new.disk) c.frames.invariant.tells c.frames.invariant.stands (c.law_frames_go_on.ensures kind ((before ++ sv.front) ++ take c.take-taken.result.0 c.frames.rest.now) (c.take-taken.ensures.took kind (before ++ sv.front) sv.stands).1) c.in_err-answer_payload-in-Whole.ensures.cut_leaves)

pub returns-in_err-answer_payload-in-Whole-clause-sink_cause : goal.returns-in_err-answer_payload-in-Whole-clause-sink_cause
returns-in_err-answer_payload-in-Whole-clause-sink_cause g c =
    let p = err_from_is_err_and c.from_residual.result c.from_residual.ensures.1 in
    rw (p.1, p.2)
    (cause_on SinkFault c.in_err-answer_payload-in-Whole.field-0.0 (g.K.Sink.faults c.args.sink.now) (g.K.Sink.faults c.frames.sink) (g.K.Sink.faults c.answer_payload.new.sink) c.frames.invariant.sink
    c.in_err-answer_payload-in-Whole.ensures.sink_cause)

pub returns-in_err-answer_payload-in-Whole-clause-disk_cause : goal.returns-in_err-answer_payload-in-Whole-clause-disk_cause
returns-in_err-answer_payload-in-Whole-clause-disk_cause g c =
    let p = err_from_is_err_and c.from_residual.result c.from_residual.ensures.1 in
    rw (p.1, p.2)
    (cause_on DiskFault c.in_err-answer_payload-in-Whole.field-0.0 (g.D.Disk.faults c.args.disk.now) (g.D.Disk.faults c.frames.disk) (g.D.Disk.faults c.answer_payload.new.disk) c.frames.invariant.disk
    c.in_err-answer_payload-in-Whole.ensures.disk_cause)
