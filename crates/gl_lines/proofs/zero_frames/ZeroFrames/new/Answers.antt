use Rattle.gl_lines.specs.ZeroFronts.{zero_view}
use Rattle.gl_lines.proofs.Feeding.{nothing_given}
use Rattle.gl_lines.proofs.zero_frames.ZeroFrames.new.Goals as goal

pub returns-clause-empty : goal.returns-clause-empty
returns-clause-empty c = nothing_given (zero_view c.in_ok-new.field-0) c.in_ok-new.ensures.rest
