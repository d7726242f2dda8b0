use Rattle.std.specs.Prelude.{Err, []}
use Rattle.std.proofs.Common.{Bool, IsTrue, ℕ, ap, sym, subst, refl, inr}
use Rattle.gl_node.specs.declared.fault.OpenFault.{OpenFault}
use Rattle.gl_node.specs.declared.fault.OpenFault.TheVariants as unopened
use Rattle.gl_node.specs.declared.node.Node.{Node}
use Rattle.gl_node.specs.Node.{NodeOn, NodeReady}
use Rattle.gl_node.specs.Standing.{base_of}
use Rattle.gl_node.specs.State.{opened}
use Rattle.gl_cli.specs.Ends.{HasCauses}
use Rattle.gl_cli.proofs.Desks.{ok_is_no_error}
use Rattle.gl_cli.specs.Runs.{all_events, script_turns}
use Rattle.gl_cli.proofs.Exits.{IfSome-with, tells_other, unanswered}
use Rattle.gl_cli.proofs.Openings.{ends_unread, IfSome-any, Keeps-same, open_other, open_statuses, run_statuses, runs_undamaged, other_undone, damaged_by, says_damaged, causes_open}
use Rattle.gl_cli.proofs.Starts.{any_base, any_limits, then_moments, unopened_exit, unopened_moments}
use Rattle.gl_cli.proofs.top.run_session.Goals as goal

pub returns-in-Err-clause-statuses : goal.returns-in-Err-clause-statuses
returns-in-Err-clause-statuses g c = open_statuses c.in-Err.fault c.open_status.result c.open_status.ensures

pub returns-in-Err-clause-causes : goal.returns-in-Err-clause-causes
returns-in-Err-clause-causes g c = causes_open c.in-Err.fault c.open_status.result _ _ c.open_status.ensures c.in-Err.ensures.faults refl refl refl

pub returns-in-Err-clause-script : goal.returns-in-Err-clause-script
returns-in-Err-clause-script g c = tells_other (g.S.Source.left c.args.source.now) c.open_status.result (open_other c.in-Err.fault c.open_status.result c.open_status.ensures)

pub returns-in-Err-clause-whole : goal.returns-in-Err-clause-whole
returns-in-Err-clause-whole g c = λ done. absurd (other_undone c.open_status.result (open_other c.in-Err.fault c.open_status.result c.open_status.ensures) done)

pub returns-in-Err-clause-output : goal.returns-in-Err-clause-output
returns-in-Err-clause-output g c = (
  any_base c.args.options,
  any_limits c.args.options,
  IfSome-any (g.S.Source.left c.args.source.now) (λ script.
      ends_unread (any_base c.args.options) script (g.K.Sink.contents c.args.sink.now) c.open_status.result (open_other c.in-Err.fault c.open_status.result c.open_status.ensures)),
)

pub returns-in-Err-clause-opened : goal.returns-in-Err-clause-opened
returns-in-Err-clause-opened g c = λ tells journal found shown. IfSome-any (g.S.Source.left c.args.source.now) (λ script.
    ends_unread (base_of c.args.options (g.D.Disk.state c.args.disk.now).reads journal found shown) script (g.K.Sink.contents c.args.sink.now) c.open_status.result
    (open_other c.in-Err.fault c.open_status.result c.open_status.ensures))

pub returns-in-Err-clause-shown : goal.returns-in-Err-clause-shown
returns-in-Err-clause-shown g c = λ tells all. absurd (unanswered c.open_status.result (open_other c.in-Err.fault c.open_status.result c.open_status.ensures) all)

pub returns-in-Err-clause-shows : goal.returns-in-Err-clause-shows
returns-in-Err-clause-shows g c = λ tells journal found store all. absurd (unanswered c.open_status.result (open_other c.in-Err.fault c.open_status.result c.open_status.ensures) all)

pub returns-in-Err-clause-at_exit : goal.returns-in-Err-clause-at_exit
returns-in-Err-clause-at_exit g c = λ tells journal found store.
    unopened_exit (base_of c.args.options (g.D.Disk.state c.args.disk.now).reads journal found store.shows) (g.D.Disk.state c.args.disk.now) (g.D.Disk.state c.open.new.disk)
    (g.S.Source.left c.args.source.now) (g.K.Sink.contents c.args.sink.now) (c.open.ensures.at_exit tells journal found store)

pub returns-in-Err-clause-any_moment : goal.returns-in-Err-clause-any_moment
returns-in-Err-clause-any_moment g c = λ tells journal found store.
    unopened_moments (base_of c.args.options (g.D.Disk.state c.args.disk.now).reads journal found store.shows) (g.D.Disk.state c.args.disk.now) (g.D.Disk.state c.open.new.disk)
    (c.open.ensures.any_moment tells journal found store) (g.S.Source.left c.args.source.now)

pub returns-in-Err-clause-damaged : goal.returns-in-Err-clause-damaged
returns-in-Err-clause-damaged g c = λ tells log area at is.
    c.in-Err.ensures.damaged tells log area at (ap (λ (f : OpenFault). Err f) (damaged_by c.in-Err.fault c.open_status.result log area at c.open_status.ensures is))

pub returns-in-Err-clause-damaged_store : goal.returns-in-Err-clause-damaged_store
returns-in-Err-clause-damaged_store g c = λ tells log area at is. (
  says_damaged c.in-Err.fault c.open_status.result log area at c.open_status.ensures (c.in-Err.ensures.refused tells log area at is),
  Keeps-same (g.K.Sink.contents c.args.sink.now),
  c.open.ensures.left tells log area at is,
)

pub session-requires-clause-keeps : goal.session-requires-clause-keeps
session-requires-clause-keeps g c =
    (opened c.in-Ok.ensures.kept.1.0, c.new-desk.ensures.keeps c.in-Ok.ensures.kept.1.0 c.in-Ok.ensures.kept.1.2 c.in-Ok.ensures.kept.0)

pub session-requires-clause-ready : goal.session-requires-clause-ready
session-requires-clause-ready g c = λ tells.
    subst (λ (n : Node). NodeReady n (g.D.Disk.state c.open.new.disk)) (sym c.new-desk.ensures.same)
    (c.in-Ok.ensures.ready (subst (λ (b : Bool). IsTrue b) c.open.ensures.tells tells))

pub returns-in-Ok-clause-statuses : goal.returns-in-Ok-clause-statuses
returns-in-Ok-clause-statuses g c = run_statuses c.session.result c.session.ensures.runs

pub returns-in-Ok-clause-causes : goal.returns-in-Ok-clause-causes
returns-in-Ok-clause-causes g c =
    subst (λ (n : ℕ). HasCauses c.session.result
    (record { source = g.S.Source.faults c.args.source.now; sink = g.K.Sink.faults c.args.sink.now; disk = n; shop = 0 })
    (record { source = g.S.Source.faults c.session.new.source; sink = g.K.Sink.faults c.session.new.sink; disk = g.D.Disk.faults c.session.new.disk; shop = 0 }))
    (c.in-Ok.ensures.faults.steady (ok_is_no_error c.in-Ok.node unopened.DiskFault)) c.session.ensures.causes

pub returns-in-Ok-clause-output : goal.returns-in-Ok-clause-output
returns-in-Ok-clause-output g c = (
  c.in-Ok.ensures.kept.1.0,
  c.in-Ok.ensures.kept.1.1,
  c.session.ensures.end c.in-Ok.ensures.kept.1.0 (c.new-desk.ensures.keeps c.in-Ok.ensures.kept.1.0 c.in-Ok.ensures.kept.1.2 c.in-Ok.ensures.kept.0),
)

pub returns-in-Ok-clause-opened : goal.returns-in-Ok-clause-opened
returns-in-Ok-clause-opened g c = λ tells journal found shown.
    c.session.ensures.end (base_of c.args.options (g.D.Disk.state c.args.disk.now).reads journal found shown)
    (c.new-desk.ensures.keeps (base_of c.args.options (g.D.Disk.state c.args.disk.now).reads journal found shown) (c.in-Ok.ensures.opened tells journal found shown) c.in-Ok.ensures.kept.0)

pub returns-in-Ok-clause-shown : goal.returns-in-Ok-clause-shown
returns-in-Ok-clause-shown g c = λ tells all. c.in-Ok.ensures.shown tells

pub returns-in-Ok-clause-shows : goal.returns-in-Ok-clause-shows
returns-in-Ok-clause-shows g c = λ tells journal found store done.
    c.session.ensures.shows (subst (λ (b : Bool). IsTrue b) (sym c.open.ensures.tells) tells)
    (subst (λ (n : Node). NodeOn n (g.D.Disk.state c.open.new.disk)) (sym c.new-desk.ensures.same) (c.in-Ok.ensures.stands tells journal found store)) done
    (base_of c.args.options (g.D.Disk.state c.args.disk.now).reads journal found store.shows)
    (c.new-desk.ensures.keeps (base_of c.args.options (g.D.Disk.state c.args.disk.now).reads journal found store.shows) (c.in-Ok.ensures.opened tells journal found store.shows) c.in-Ok.ensures.kept.0)

pub returns-in-Ok-clause-at_exit : goal.returns-in-Ok-clause-at_exit
returns-in-Ok-clause-at_exit g c = λ tells journal found store.
    IfSome-with (g.S.Source.left c.args.source.now) (λ script shown. inr shown)
    (c.session.ensures.at_exit (subst (λ (b : Bool). IsTrue b) (sym c.open.ensures.tells) tells)
    (subst (λ (n : Node). NodeOn n (g.D.Disk.state c.open.new.disk)) (sym c.new-desk.ensures.same) (c.in-Ok.ensures.stands tells journal found store))
    (base_of c.args.options (g.D.Disk.state c.args.disk.now).reads journal found store.shows)
    (c.new-desk.ensures.keeps (base_of c.args.options (g.D.Disk.state c.args.disk.now).reads journal found store.shows) (c.in-Ok.ensures.opened tells journal found store.shows) c.in-Ok.ensures.kept.0))

pub returns-in-Ok-clause-any_moment : goal.returns-in-Ok-clause-any_moment
returns-in-Ok-clause-any_moment g c = λ tells journal found store.
    IfSome-with (g.S.Source.left c.args.source.now) (λ script run.
    then_moments (base_of c.args.options (g.D.Disk.state c.args.disk.now).reads journal found store.shows) (g.D.Disk.state c.args.disk.now) (g.D.Disk.state c.open.new.disk) (c.open.ensures.any_moment tells journal found store)
    (all_events (script_turns (base_of c.args.options (g.D.Disk.state c.args.disk.now).reads journal found store.shows) [] script)) (g.D.Disk.state c.session.new.disk) run)
    (c.session.ensures.any_moment (subst (λ (b : Bool). IsTrue b) (sym c.open.ensures.tells) tells)
    (subst (λ (n : Node). NodeOn n (g.D.Disk.state c.open.new.disk)) (sym c.new-desk.ensures.same) (c.in-Ok.ensures.stands tells journal found store))
    (base_of c.args.options (g.D.Disk.state c.args.disk.now).reads journal found store.shows)
    (c.new-desk.ensures.keeps (base_of c.args.options (g.D.Disk.state c.args.disk.now).reads journal found store.shows) (c.in-Ok.ensures.opened tells journal found store.shows) c.in-Ok.ensures.kept.0))

pub returns-in-Ok-clause-damaged : goal.returns-in-Ok-clause-damaged
returns-in-Ok-clause-damaged g c = λ tells log area at is. absurd (runs_undamaged c.session.result log area at c.session.ensures.runs is)

pub returns-in-Ok-clause-damaged_store : goal.returns-in-Ok-clause-damaged_store
returns-in-Ok-clause-damaged_store g c = λ tells log area at is. absurd (c.in-Ok.ensures.refused tells log area at is)
