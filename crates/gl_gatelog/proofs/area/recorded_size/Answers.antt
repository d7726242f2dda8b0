use Rattle.std.proofs.Common.{arith}
use Rattle.gl_gatelog.proofs.Beginning.{recorded_is}
use Rattle.gl_gatelog.proofs.area.recorded_size.Goals as goal
use Rattle.gl_gatelog.proofs.area.recorded_size.Goals.{then-size-lt-LEAST_SEGMENT-via-then-size-lt-LEAST_SEGMENT, then-size-lt-LEAST_SEGMENT-via-else-size-lt-LEAST_SEGMENT+then-size-gt-GREATEST_SEGMENT}

pub returns-then-size-lt-LEAST_SEGMENT : goal.returns-then-size-lt-LEAST_SEGMENT
returns-then-size-lt-LEAST_SEGMENT c s sized is =
    let same = recorded_is c.args.area.now c.args.log s c.long_at-size.result sized.most (omega arith) is c.long_at-size.ensures in
    elim c.then-size-lt-LEAST_SEGMENT.branch [
      | then-size-lt-LEAST_SEGMENT-via-then-size-lt-LEAST_SEGMENT w ↦ omega (arith, same, sized.least)
      | then-size-lt-LEAST_SEGMENT-via-else-size-lt-LEAST_SEGMENT+then-size-gt-GREATEST_SEGMENT w ↦ omega (arith, same, sized.most)
    ]
