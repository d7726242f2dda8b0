use Rattle.gl_process.proofs.Ranges.{ranges_follow}
use Rattle.gl_process.proofs.laws.law_ranges_follow.Goals as goal

pub returns : goal.returns
returns c = ranges_follow
