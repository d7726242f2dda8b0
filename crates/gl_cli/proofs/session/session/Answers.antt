use Rattle.gl_outside.specs.declared.fault.Outside.TheVariants.{Failed}
use Rattle.gl_cli.specs.declared.status.Status.TheVariants.{SinkFault, DiskFault}
use Rattle.gl_cli.proofs.Desks.{ok_is_no_error}
use Rattle.std.proofs.Common.{[], false, Bool, IsTrue, arith, refl, sym, ap, subst, ◌∙◌, ◌<◌}
use Rattle.std.proofs.lemmas.Bool.{false≢true}
use Rattle.gl_node.specs.State.{opened, state_after}
use Rattle.gl_cli.specs.Runs.{connections_after, turn_events, turn_of}
use Rattle.gl_cli.specs.Script.{line_of}
use Rattle.gl_cli.specs.Sessions.{StandFor}
use Rattle.gl_cli.proofs.Causes.{causes_line, line_other, sink_other, source_other}
use Rattle.gl_cli.proofs.Exits.{ended_other, ended_long, ended_bad, ended_cut, ended_done, ended_done_cut, ended_shows, shown_long, shown_bad, unanswered, running_init, running_next, read_first, reading_more, tells_end, tells_long, tells_other}
use Rattle.gl_cli.proofs.Fits.{line_fits, moment_fits}
use Rattle.gl_cli.proofs.Moments.{leaves_first, leaves_more, shown_between, shown_at_end, shown_in_line, some_whole}
use Rattle.gl_cli.proofs.Sessions.{does_line, cuts_line, during_line, cut_line}
use Rattle.gl_cli.proofs.session.session.Goals as goal

pub lines-init : goal.lines-init
lines-init g c = record {
  small = omega (arith, c.new-reader.ensures.budget);
  ended = λ e. absurd (false≢true (sym c.new-reader.ensures.begun ∙ e));
  reading = read_first (g.S.Source.left c.args.source.now) _ _ c.new-reader.ensures.budget c.new-reader.ensures.empty;
  running = λ base h. running_init (g.S.Source.left c.args.source.now) base _ (StandFor c.args.desk.now c.new-connections.result) _ _ (h, c.new-connections.ensures) c.new-reader.ensures.budget c.new-reader.ensures.empty;
  keeps = c.requires.keeps;
  opens = ([], c.new-connections.ensures);
  moment_fits = omega arith;
  ready = c.requires.ready;
  stands = λ tells stands. stands;
  leaves = λ tells on base h. leaves_first (g.S.Source.left c.args.source.now) base (g.D.Disk.state c.args.disk.now)
      (λ image left. c.law_images_show_the_state.ensures (opened base) h.node on image left);
  tells = refl;
  source = refl;
  sink = refl;
  disk = refl;
}

pub returns-in-Err-clause-end : goal.returns-in-Err-clause-end
returns-in-Err-clause-end g c = λ base h.
    ended_other _ _ _ _ (StandFor c.lines.desk c.lines.connections) _ _ _ _ (c.lines.invariant.running base h) _ (source_other c.in-Err.fault _ c.source_status.ensures)

pub returns-in-Ok-TooLong-clause-end : goal.returns-in-Ok-TooLong-clause-end
returns-in-Ok-TooLong-clause-end g c = λ base h.
    ended_long _ _ _ _ (StandFor c.lines.desk c.lines.connections) _ _ _ _ (c.lines.invariant.running base h) _ _
    (rw c.in-Ok-TooLong.field-0-is at c.in-Ok-TooLong.ensures.given)

pub returns-in-Err-line_of-clause-end : goal.returns-in-Err-line_of-clause-end
returns-in-Err-line_of-clause-end g c = λ base h.
    ended_other _ _ _ _ (StandFor c.lines.desk c.lines.connections) _ _ _ _ (c.lines.invariant.running base h) _ tt

pub returns-in-Ok-None-clause-end : goal.returns-in-Ok-None-clause-end
returns-in-Ok-None-clause-end g c = λ base h.
    ended_bad _ _ _ _ (StandFor c.lines.desk c.lines.connections) _ _ _ _ (c.lines.invariant.running base h) _ _ c.in-Ok-Line.text
    (rw c.in-Ok-Line.field-0-is at c.in-Ok-Line.ensures.given)
    (ap line_of (sym c.as_slice.ensures) ∙ sym c.in-Ok-None.ensures ∙ c.in-Ok-None.field-0-is) _

pub returns-in-Err-answer_line-clause-end : goal.returns-in-Err-answer_line-clause-end
returns-in-Err-answer_line-clause-end g c = λ base h.
    ended_cut _ _ _ _ (StandFor c.lines.desk c.lines.connections) _ _ _ _ (c.lines.invariant.running base h) _
    _ _ c.in-Ok-Line.text c.in-Ok-Some.line
    (rw c.in-Ok-Line.field-0-is at c.in-Ok-Line.ensures.given)
    (ap line_of (sym c.as_slice.ensures) ∙ sym c.in-Ok-Some.ensures ∙ c.in-Ok-Some.field-0-is)
    (cuts_line c.lines.desk c.lines.connections _ _ c.lines.moment c.in-Ok-Some.line c.in-Err-answer_line.ensures.cut) _ (line_other _ c.in-Err-answer_line.ensures.kind)

pub lines-preserved : goal.lines-preserved
lines-preserved g c = record {
  small = let h : c.next_line.new.self.budget < c.lines.reader.budget = (rw c.in-Ok-Line.field-0-is at c.in-Ok-Line.ensures.shorter) tt in omega (arith, h, c.lines.invariant.small);
  ended = c.in-Ok-Line.ensures.ended;
  reading = reading_more _ _ _ _ c.lines.invariant.reading _ _ c.in-Ok-Line.text c.in-Ok-Some.line
      (rw c.in-Ok-Line.field-0-is at c.in-Ok-Line.ensures.given)
      (ap line_of (sym c.as_slice.ensures) ∙ sym c.in-Ok-Some.ensures ∙ c.in-Ok-Some.field-0-is);
  running = λ base h. running_next _ _ _ _ (StandFor c.lines.desk c.lines.connections) _ _ _ _ (c.lines.invariant.running base h) (StandFor c.answer_line.new.desk c.answer_line.new.connections) _ _ _ _ c.in-Ok-Line.text c.in-Ok-Some.line
      (rw c.in-Ok-Line.field-0-is at c.in-Ok-Line.ensures.given)
      (ap line_of (sym c.as_slice.ensures) ∙ sym c.in-Ok-Some.ensures ∙ c.in-Ok-Some.field-0-is)
      (does_line c.lines.desk c.answer_line.new.desk c.lines.connections c.answer_line.new.connections _ _ c.lines.moment c.in-Ok-Some.line c.in-Ok.ensures.answered c.in-Ok.ensures.connections) c.moment_with-moment.ensures;
  keeps = let kept = c.lines.invariant.keeps in let opens = c.lines.invariant.opens in (
    state_after kept.0 (turn_events (turn_of c.lines.moment opens.0 false c.in-Ok-Some.line kept.0)),
    (c.in-Ok.ensures.answered opens.0 opens.1 kept.0 kept.1).0,
  );
  opens = let kept = c.lines.invariant.keeps in let opens = c.lines.invariant.opens in (
    connections_after kept.0 opens.0 c.in-Ok-Some.line,
    c.in-Ok.ensures.connections opens.0 opens.1 kept.0 kept.1,
  );
  moment_fits = moment_fits c.lines.moment _ c.in-Ok-Some.line c.lines.invariant.moment_fits
      (line_fits c.in-Ok-Line.text c.in-Ok-Some.line (ap line_of (sym c.as_slice.ensures) ∙ sym c.in-Ok-Some.ensures ∙ c.in-Ok-Some.field-0-is))
      c.moment_with-moment.ensures;
  ready = λ tells. c.in-Ok.ensures.ready (subst (λ (b : Bool). IsTrue b) (sym c.lines.invariant.tells) tells);
  stands = λ tells on. c.in-Ok.ensures.stands (subst (λ (b : Bool). IsTrue b) (sym c.lines.invariant.tells) tells) (c.lines.invariant.stands tells on);
  leaves = λ tells on base h. leaves_more _ _ _ _ (StandFor c.lines.desk c.lines.connections) _ _ _ _ (c.lines.invariant.running base h) _ _ c.in-Ok-Line.text c.in-Ok-Some.line
      (rw c.in-Ok-Line.field-0-is at c.in-Ok-Line.ensures.given)
      (ap line_of (sym c.as_slice.ensures) ∙ sym c.in-Ok-Some.ensures ∙ c.in-Ok-Some.field-0-is)
      (g.D.Disk.state c.args.disk.now) (g.D.Disk.state c.lines.disk) (g.D.Disk.state c.answer_line.new.disk)
      (during_line c.lines.desk c.lines.connections c.lines.moment c.in-Ok-Some.line (g.D.Disk.state c.lines.disk) (g.D.Disk.state c.answer_line.new.disk) c.answer_line.ensures.any_moment
      (subst (λ (b : Bool). IsTrue b) (sym c.lines.invariant.tells) tells) (c.lines.invariant.stands tells on))
      (c.lines.invariant.leaves tells on base h);
  tells = c.answer_line.ensures.tells ∙ c.lines.invariant.tells;
  source = c.in-Ok-Line.ensures.cause.steady (ok_is_no_error c.in-Ok-Line.field-0 Failed) ∙ c.lines.invariant.source;
  sink = c.in-Ok.ensures.sink_cause.steady (ok_is_no_error c.in-Ok.field-0 SinkFault) ∙ c.lines.invariant.sink;
  disk = c.in-Ok.ensures.disk_cause.steady (ok_is_no_error c.in-Ok.field-0 DiskFault) ∙ c.lines.invariant.disk;
}

pub returns-in-Ok-TooLong-clause-script : goal.returns-in-Ok-TooLong-clause-script
returns-in-Ok-TooLong-clause-script g c =
    tells_long _ _ _ _ c.lines.invariant.reading _ _ (rw c.in-Ok-TooLong.field-0-is at c.in-Ok-TooLong.ensures.given)

pub answer_line-requires-clause-fit : goal.answer_line-requires-clause-fit
answer_line-requires-clause-fit g c =
    line_fits c.in-Ok-Line.text c.in-Ok-Some.line (ap line_of (sym c.as_slice.ensures) ∙ sym c.in-Ok-Some.ensures ∙ c.in-Ok-Some.field-0-is)

pub returns-in-Err-answer_line-clause-script : goal.returns-in-Err-answer_line-clause-script
returns-in-Err-answer_line-clause-script g c =
    tells_other (g.S.Source.left c.args.source.now) c.in-Err-answer_line.status (line_other c.in-Err-answer_line.status c.in-Err-answer_line.ensures.kind)

pub returns-in-Err-answer_line-clause-causes : goal.returns-in-Err-answer_line-clause-causes
returns-in-Err-answer_line-clause-causes g c =
    causes_line c.in-Err-answer_line.status _ _ (g.K.Sink.faults c.lines.sink) (g.D.Disk.faults c.lines.disk) c.in-Err-answer_line.ensures.kind
    c.in-Err-answer_line.ensures.sink_cause c.in-Err-answer_line.ensures.disk_cause c.lines.invariant.sink c.lines.invariant.disk
    (c.in-Ok-Line.ensures.cause.steady (ok_is_no_error c.in-Ok-Line.field-0 Failed) ∙ c.lines.invariant.source) refl

pub returns-in-Err-write_done-clause-end : goal.returns-in-Err-write_done-clause-end
returns-in-Err-write_done-clause-end g c = λ base h.
    ended_done_cut _ _ _ _ (StandFor c.lines.desk c.lines.connections) _ _ _ _ (c.lines.invariant.running base h) _ _ _
    (rw c.in-Ok-End.field-0-is at c.in-Ok-End.ensures.given) (λ s cs stand. c.in-Err-write_done.ensures.err s stand.0) _ (sink_other _ c.in-Err-write_done.ensures.kind)

pub returns-clause-end : goal.returns-clause-end
returns-clause-end g c = λ base h.
    ended_done _ _ _ _ (StandFor c.lines.desk c.lines.connections) _ _ _ _ (c.lines.invariant.running base h) _ _ _
    (rw c.in-Ok-End.field-0-is at c.in-Ok-End.ensures.given) (λ s cs stand. c.in-Ok-write_done.ensures.ok s stand.0)

pub returns-clause-script : goal.returns-clause-script
returns-clause-script g c =
    tells_end _ _ _ _ c.lines.invariant.reading _ _ (rw c.in-Ok-End.field-0-is at c.in-Ok-End.ensures.given)

pub returns-clause-shows : goal.returns-clause-shows
returns-clause-shows g c = λ tells on _ base h.
    ended_shows _ _ _ _ (StandFor c.lines.desk c.lines.connections) _ _ _ _ (c.lines.invariant.running base h) _ _
    (rw c.in-Ok-End.field-0-is at c.in-Ok-End.ensures.given) (g.D.Disk.state c.lines.disk)
    (λ s cs stand image left. c.law_images_show_the_state-in-lines.ensures s stand.0.node (c.lines.invariant.stands tells on) image left)

pub returns-in-Ok-TooLong-clause-shows : goal.returns-in-Ok-TooLong-clause-shows
returns-in-Ok-TooLong-clause-shows g c = λ tells on _ base h.
    shown_long _ _ _ _ (StandFor c.lines.desk c.lines.connections) _ _ _ _ (c.lines.invariant.running base h) _ _
    (rw c.in-Ok-TooLong.field-0-is at c.in-Ok-TooLong.ensures.given) (g.D.Disk.state c.lines.disk)
    (λ s cs stand image left. c.law_images_show_the_state-in-lines.ensures s stand.0.node (c.lines.invariant.stands tells on) image left)

pub returns-in-Ok-None-clause-shows : goal.returns-in-Ok-None-clause-shows
returns-in-Ok-None-clause-shows g c = λ tells on _ base h.
    shown_bad _ _ _ _ (StandFor c.lines.desk c.lines.connections) _ _ _ _ (c.lines.invariant.running base h) _ _ c.in-Ok-Line.text
    (rw c.in-Ok-Line.field-0-is at c.in-Ok-Line.ensures.given)
    (ap line_of (sym c.as_slice.ensures) ∙ sym c.in-Ok-None.ensures ∙ c.in-Ok-None.field-0-is) (g.D.Disk.state c.lines.disk)
    (λ s cs stand image left. c.law_images_show_the_state-in-lines.ensures s stand.0.node (c.lines.invariant.stands tells on) image left)

pub returns-in-Err-clause-shows : goal.returns-in-Err-clause-shows
returns-in-Err-clause-shows g c = λ tells on all. absurd (unanswered _ (source_other c.in-Err.fault _ c.source_status.ensures) all)

pub returns-in-Err-answer_line-clause-shows : goal.returns-in-Err-answer_line-clause-shows
returns-in-Err-answer_line-clause-shows g c = λ tells on all. absurd (unanswered c.in-Err-answer_line.status (line_other _ c.in-Err-answer_line.ensures.kind) all)

pub returns-in-Err-write_done-clause-shows : goal.returns-in-Err-write_done-clause-shows
returns-in-Err-write_done-clause-shows g c = λ tells on all. absurd (unanswered c.in-Err-write_done.status (sink_other _ c.in-Err-write_done.ensures.kind) all)

pub returns-in-Err-answer_line-clause-any_moment : goal.returns-in-Err-answer_line-clause-any_moment
returns-in-Err-answer_line-clause-any_moment g c = λ tells on base h. leaves_more _ _ _ _ (StandFor c.lines.desk c.lines.connections) _ _ _ _ (c.lines.invariant.running base h) _ _ c.in-Ok-Line.text c.in-Ok-Some.line
    (rw c.in-Ok-Line.field-0-is at c.in-Ok-Line.ensures.given)
    (ap line_of (sym c.as_slice.ensures) ∙ sym c.in-Ok-Some.ensures ∙ c.in-Ok-Some.field-0-is)
    (g.D.Disk.state c.args.disk.now) (g.D.Disk.state c.lines.disk) (g.D.Disk.state c.answer_line.new.disk)
    (during_line c.lines.desk c.lines.connections c.lines.moment c.in-Ok-Some.line (g.D.Disk.state c.lines.disk) (g.D.Disk.state c.answer_line.new.disk) c.answer_line.ensures.any_moment
    (subst (λ (b : Bool). IsTrue b) (sym c.lines.invariant.tells) tells) (c.lines.invariant.stands tells on))
    (c.lines.invariant.leaves tells on base h)

pub returns-in-Err-answer_line-clause-at_exit : goal.returns-in-Err-answer_line-clause-at_exit
returns-in-Err-answer_line-clause-at_exit g c = λ tells on base h. shown_in_line _ _ _ _ (StandFor c.lines.desk c.lines.connections) _ _ _ _ (c.lines.invariant.running base h) _ _ _ c.in-Ok-Line.text c.in-Ok-Some.line
    (rw c.in-Ok-Line.field-0-is at c.in-Ok-Line.ensures.given)
    (ap line_of (sym c.as_slice.ensures) ∙ sym c.in-Ok-Some.ensures ∙ c.in-Ok-Some.field-0-is)
    (g.D.Disk.state c.answer_line.new.disk)
    (cut_line c.lines.desk c.lines.connections _ _ c.lines.moment c.in-Ok-Some.line (g.D.Disk.state c.lines.disk) (g.D.Disk.state c.answer_line.new.disk) c.in-Err-answer_line.ensures.cut_leaves
    (subst (λ (b : Bool). IsTrue b) (sym c.lines.invariant.tells) tells) (c.lines.invariant.stands tells on))

pub returns-in-Err-clause-at_exit : goal.returns-in-Err-clause-at_exit
returns-in-Err-clause-at_exit g c = λ tells on base h. shown_between _ _ _ _ (StandFor c.lines.desk c.lines.connections) _ _ _ _ (c.lines.invariant.running base h) (g.D.Disk.state c.lines.disk)
    (λ s cs stand image left. c.law_images_show_the_state-in-lines.ensures s stand.0.node (c.lines.invariant.stands tells on) image left)

pub returns-in-Ok-TooLong-clause-at_exit : goal.returns-in-Ok-TooLong-clause-at_exit
returns-in-Ok-TooLong-clause-at_exit g c = λ tells on base h. shown_between _ _ _ _ (StandFor c.lines.desk c.lines.connections) _ _ _ _ (c.lines.invariant.running base h) (g.D.Disk.state c.lines.disk)
    (λ s cs stand image left. c.law_images_show_the_state-in-lines.ensures s stand.0.node (c.lines.invariant.stands tells on) image left)

pub returns-in-Err-line_of-clause-at_exit : goal.returns-in-Err-line_of-clause-at_exit
returns-in-Err-line_of-clause-at_exit g c = λ tells on base h. shown_between _ _ _ _ (StandFor c.lines.desk c.lines.connections) _ _ _ _ (c.lines.invariant.running base h) (g.D.Disk.state c.lines.disk)
    (λ s cs stand image left. c.law_images_show_the_state-in-lines.ensures s stand.0.node (c.lines.invariant.stands tells on) image left)

pub returns-in-Ok-None-clause-at_exit : goal.returns-in-Ok-None-clause-at_exit
returns-in-Ok-None-clause-at_exit g c = λ tells on base h. shown_between _ _ _ _ (StandFor c.lines.desk c.lines.connections) _ _ _ _ (c.lines.invariant.running base h) (g.D.Disk.state c.lines.disk)
    (λ s cs stand image left. c.law_images_show_the_state-in-lines.ensures s stand.0.node (c.lines.invariant.stands tells on) image left)

pub returns-in-Err-write_done-clause-at_exit : goal.returns-in-Err-write_done-clause-at_exit
returns-in-Err-write_done-clause-at_exit g c = λ tells on base h. shown_at_end _ _ _ _ (StandFor c.lines.desk c.lines.connections) _ _ _ _ (c.lines.invariant.running base h) _ _ _
    (rw c.in-Ok-End.field-0-is at c.in-Ok-End.ensures.given) (λ s cs stand. c.in-Err-write_done.ensures.err s stand.0) (g.D.Disk.state c.lines.disk)
    (λ s cs stand image left. c.law_images_show_the_state-in-lines.ensures s stand.0.node (c.lines.invariant.stands tells on) image left)

pub returns-clause-at_exit : goal.returns-clause-at_exit
returns-clause-at_exit g c = λ tells on base h. shown_at_end _ _ _ _ (StandFor c.lines.desk c.lines.connections) _ _ _ _ (c.lines.invariant.running base h) _ _ _
    (rw c.in-Ok-End.field-0-is at c.in-Ok-End.ensures.given) (λ s cs stand. some_whole _ _ _ (c.in-Ok-write_done.ensures.ok s stand.0)) (g.D.Disk.state c.lines.disk)
    (λ s cs stand image left. c.law_images_show_the_state-in-lines.ensures s stand.0.node (c.lines.invariant.stands tells on) image left)
