use Rattle.std.specs.Prelude.{Err}
use Rattle.std.proofs.Common.{ap, refl, inr}
use Rattle.gl_node.specs.declared.fault.OpenFault.{OpenFault}
use Rattle.gl_node.specs.Standing.{base_of}
use Rattle.gl_node.specs.State.{opened}
use Rattle.gl_cli.proofs.Openings.{Keeps-same, causes_open, damaged_by, open_checks, open_other, says_damaged}
use Rattle.gl_cli.proofs.Exits.{unanswered}
use Rattle.gl_cli.proofs.Starts.{any_base, any_limits, check_cut, check_done, check_unread, unchecked_exit}
use Rattle.gl_cli.proofs.top.run_check.Goals as goal

pub returns-in-Err-clause-statuses : goal.returns-in-Err-clause-statuses
returns-in-Err-clause-statuses g c = open_checks c.in-Err.fault c.open_status.result c.open_status.ensures

pub returns-in-Err-clause-causes : goal.returns-in-Err-clause-causes
returns-in-Err-clause-causes g c = causes_open c.in-Err.fault c.open_status.result _ _ c.open_status.ensures c.in-Err.ensures.faults refl refl refl

pub returns-in-Err-clause-output : goal.returns-in-Err-clause-output
returns-in-Err-clause-output g c =
    (any_base c.args.options, any_limits c.args.options, check_unread (any_base c.args.options) (g.K.Sink.contents c.args.sink.now) c.open_status.result (open_other c.in-Err.fault c.open_status.result c.open_status.ensures))

pub returns-in-Err-clause-opened : goal.returns-in-Err-clause-opened
returns-in-Err-clause-opened g c = λ tells journal found shown.
    check_unread (base_of c.args.options (g.D.Disk.state c.args.disk.now).reads journal found shown) (g.K.Sink.contents c.args.sink.now) c.open_status.result
    (open_other c.in-Err.fault c.open_status.result c.open_status.ensures)

pub returns-in-Err-clause-shown : goal.returns-in-Err-clause-shown
returns-in-Err-clause-shown g c = λ tells all. absurd (unanswered c.open_status.result (open_other c.in-Err.fault c.open_status.result c.open_status.ensures) all)

pub returns-in-Err-clause-at_exit : goal.returns-in-Err-clause-at_exit
returns-in-Err-clause-at_exit g c = λ tells journal found store.
    unchecked_exit (base_of c.args.options (g.D.Disk.state c.args.disk.now).reads journal found store.shows) (g.D.Disk.state c.args.disk.now) (g.D.Disk.state c.open.new.disk)
    (g.K.Sink.contents c.args.sink.now) c.open_status.result (open_other c.in-Err.fault c.open_status.result c.open_status.ensures) (c.open.ensures.at_exit tells journal found store)

pub returns-in-Err-clause-damaged : goal.returns-in-Err-clause-damaged
returns-in-Err-clause-damaged g c = λ tells log area at is.
    c.in-Err.ensures.damaged tells log area at (ap (λ (f : OpenFault). Err f) (damaged_by c.in-Err.fault c.open_status.result log area at c.open_status.ensures is))

pub returns-in-Err-clause-damaged_store : goal.returns-in-Err-clause-damaged_store
returns-in-Err-clause-damaged_store g c = λ tells log area at is. (
  says_damaged c.in-Err.fault c.open_status.result log area at c.open_status.ensures (c.in-Err.ensures.refused tells log area at is),
  Keeps-same (g.K.Sink.contents c.args.sink.now),
  c.open.ensures.left tells log area at is,
)

pub returns-in-Err-write_check-clause-output : goal.returns-in-Err-write_check-clause-output
returns-in-Err-write_check-clause-output g c = (
  c.in-Ok.ensures.kept.1.0,
  c.in-Ok.ensures.kept.1.1,
  check_cut c.in-Ok.ensures.kept.1.0 (g.K.Sink.contents c.args.sink.now) (g.K.Sink.contents c.write_check.new.sink) c.in-Err-write_check.status c.in-Err-write_check.ensures.kind
      (c.in-Err-write_check.ensures.err (opened c.in-Ok.ensures.kept.1.0) c.in-Ok.ensures.kept.1.2),
)

pub returns-in-Err-write_check-clause-opened : goal.returns-in-Err-write_check-clause-opened
returns-in-Err-write_check-clause-opened g c = λ tells journal found shown.
    check_cut (base_of c.args.options (g.D.Disk.state c.args.disk.now).reads journal found shown) (g.K.Sink.contents c.args.sink.now) (g.K.Sink.contents c.write_check.new.sink) c.in-Err-write_check.status c.in-Err-write_check.ensures.kind
    (c.in-Err-write_check.ensures.err (opened (base_of c.args.options (g.D.Disk.state c.args.disk.now).reads journal found shown)) (c.in-Ok.ensures.opened tells journal found shown))

pub returns-in-Err-write_check-clause-shown : goal.returns-in-Err-write_check-clause-shown
returns-in-Err-write_check-clause-shown g c = λ tells all. c.in-Ok.ensures.shown tells

pub returns-in-Err-write_check-clause-at_exit : goal.returns-in-Err-write_check-clause-at_exit
returns-in-Err-write_check-clause-at_exit g c = λ tells journal found store.
    inr (λ image now. c.law_images_show_the_state.ensures (opened (base_of c.args.options (g.D.Disk.state c.args.disk.now).reads journal found store.shows)) (c.in-Ok.ensures.opened tells journal found store.shows)
    (c.in-Ok.ensures.stands tells journal found store) image now)

pub returns-clause-output : goal.returns-clause-output
returns-clause-output g c = (
  c.in-Ok.ensures.kept.1.0,
  c.in-Ok.ensures.kept.1.1,
  check_done c.in-Ok.ensures.kept.1.0 (g.K.Sink.contents c.args.sink.now) (g.K.Sink.contents c.write_check.new.sink)
      (c.in-Ok-write_check.ensures.ok (opened c.in-Ok.ensures.kept.1.0) c.in-Ok.ensures.kept.1.2),
)

pub returns-clause-opened : goal.returns-clause-opened
returns-clause-opened g c = λ tells journal found shown.
    check_done (base_of c.args.options (g.D.Disk.state c.args.disk.now).reads journal found shown) (g.K.Sink.contents c.args.sink.now) (g.K.Sink.contents c.write_check.new.sink)
    (c.in-Ok-write_check.ensures.ok (opened (base_of c.args.options (g.D.Disk.state c.args.disk.now).reads journal found shown)) (c.in-Ok.ensures.opened tells journal found shown))

pub returns-clause-shown : goal.returns-clause-shown
returns-clause-shown g c = λ tells all. c.in-Ok.ensures.shown tells

pub returns-clause-at_exit : goal.returns-clause-at_exit
returns-clause-at_exit g c = λ tells journal found store.
    inr (λ image now. c.law_images_show_the_state.ensures (opened (base_of c.args.options (g.D.Disk.state c.args.disk.now).reads journal found store.shows)) (c.in-Ok.ensures.opened tells journal found store.shows)
    (c.in-Ok.ensures.stands tells journal found store) image now)
