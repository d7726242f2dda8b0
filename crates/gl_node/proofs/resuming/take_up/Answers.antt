use Rattle.std.proofs.Common.{◌≡◌, sym, subst, ap}
use Rattle.gl_outside.specs.Disk.{DiskState, LeavesOnly}
use Rattle.gl_outside.proofs.Moments.{started}
use Rattle.gl_gatelog.specs.declared.kind.Log.TheVariants.{Journal, Index}
use Rattle.gl_outside.proofs.Telling.{still}
use Rattle.gl_node.proofs.TakenUp.{apart_in, same_in, empty_still, read_still, index_apart, index_moments, journal_moments, journal_stands_on}
use Rattle.gl_node.proofs.resuming.take_up.Goals as goal

-- a call that didn't touch the disk
as_before : (d0 d1 : DiskState) → d1 ≡ d0 → LeavesOnly d0 d1 d0.may_leave
as_before d0 d1 same = subst (λ (d : DiskState). LeavesOnly d0 d d0.may_leave) (sym same) (started d0 d0.may_leave (λ c now. now))

pub returns-in-Err-clause-any_moment : goal.returns-in-Err-clause-any_moment
returns-in-Err-clause-any_moment g c tells a b ra rb ea eb =
    let d0 = g.D.Disk.state c.args.disk.now in
    let d1 = g.D.Disk.state c.finish.new.disk in
    journal_moments c.args.journal c.args.index a b d0 c.requires.logs.0 c.requires.logs.1 ra rb (c.requires.ended tells).0 (c.requires.ended tells).1 ea eb d1
    (λ has. as_before d0 d1 (ap (λ x. g.D.Disk.state x) (c.finish.ensures.taken_up has).1)) (c.finish.ensures.any_moment tells)

pub returns-in-Ok-finish-clause-stands : goal.returns-in-Ok-finish-clause-stands
returns-in-Ok-finish-clause-stands g c tells a b ra rb ea eb =
    let d0 = g.D.Disk.state c.args.disk.now in
    let d1 = g.D.Disk.state c.finish.new.disk in
    let d2 = g.D.Disk.state c.finish-2.new.disk in
    let t1 = still d0 d1 c.finish.ensures.tells tells in
    let images = apart_in c.args.journal.log.log Journal d0 d1 c.requires.logs.0 (c.finish.ensures.apart tells) in
    let reads = same_in c.args.journal.log.log Journal d0 d1 c.requires.logs.0 (c.finish.ensures.elsewhere tells) in
    let differs = index_apart c.args.journal c.args.index a b d0 c.requires.logs.0 c.requires.logs.1 ra rb (c.requires.ended tells).0 (c.requires.ended tells).1 ea eb in (
      journal_stands_on c.args.journal c.in-Ok.journal a d1 d2 c.requires.logs.0 c.in-Ok.ensures.value (c.in-Ok.ensures.stands tells a ra ea)
          (apart_in c.args.index.log.log Index d1 d2 c.requires.logs.1 (c.finish-2.ensures.apart t1)),
      c.in-Ok-finish.ensures.stands t1 b (read_still Journal c.args.index differs d0 d1 images reads b rb) (empty_still Journal c.args.index differs d0 d1 images reads eb),
    )

pub returns-in-Ok-finish-clause-any_moment : goal.returns-in-Ok-finish-clause-any_moment
returns-in-Ok-finish-clause-any_moment g c tells a b ra rb ea eb =
    let d0 = g.D.Disk.state c.args.disk.now in
    let d1 = g.D.Disk.state c.finish.new.disk in
    let d2 = g.D.Disk.state c.finish-2.new.disk in
    let t1 = still d0 d1 c.finish.ensures.tells tells in
    let images = apart_in c.args.journal.log.log Journal d0 d1 c.requires.logs.0 (c.finish.ensures.apart tells) in
    let reads = same_in c.args.journal.log.log Journal d0 d1 c.requires.logs.0 (c.finish.ensures.elsewhere tells) in
    let first = journal_moments c.args.journal c.args.index a b d0 c.requires.logs.0 c.requires.logs.1 ra rb (c.requires.ended tells).0 (c.requires.ended tells).1 ea eb d1
    (λ has. as_before d0 d1 (ap (λ x. g.D.Disk.state x) (c.finish.ensures.taken_up has).1)) (c.finish.ensures.any_moment tells) in
    index_moments c.args.journal c.args.index a b d0 c.requires.logs.0 c.requires.logs.1 ra rb (c.requires.ended tells).0 (c.requires.ended tells).1 ea eb d1 first images reads d2
    (λ has. as_before d1 d2 (ap (λ x. g.D.Disk.state x) (c.finish-2.ensures.taken_up has).1)) (c.finish-2.ensures.any_moment t1)

pub returns-in-Err-finish-clause-any_moment : goal.returns-in-Err-finish-clause-any_moment
returns-in-Err-finish-clause-any_moment g c tells a b ra rb ea eb =
    let d0 = g.D.Disk.state c.args.disk.now in
    let d1 = g.D.Disk.state c.finish.new.disk in
    let d2 = g.D.Disk.state c.finish-2.new.disk in
    let t1 = still d0 d1 c.finish.ensures.tells tells in
    let images = apart_in c.args.journal.log.log Journal d0 d1 c.requires.logs.0 (c.finish.ensures.apart tells) in
    let reads = same_in c.args.journal.log.log Journal d0 d1 c.requires.logs.0 (c.finish.ensures.elsewhere tells) in
    let first = journal_moments c.args.journal c.args.index a b d0 c.requires.logs.0 c.requires.logs.1 ra rb (c.requires.ended tells).0 (c.requires.ended tells).1 ea eb d1
    (λ has. as_before d0 d1 (ap (λ x. g.D.Disk.state x) (c.finish.ensures.taken_up has).1)) (c.finish.ensures.any_moment tells) in
    index_moments c.args.journal c.args.index a b d0 c.requires.logs.0 c.requires.logs.1 ra rb (c.requires.ended tells).0 (c.requires.ended tells).1 ea eb d1 first images reads d2
    (λ has. as_before d1 d2 (ap (λ x. g.D.Disk.state x) (c.finish-2.ensures.taken_up has).1)) (c.finish-2.ensures.any_moment t1)
