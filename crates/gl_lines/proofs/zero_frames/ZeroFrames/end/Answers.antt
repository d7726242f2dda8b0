use Rattle.std.proofs.Common.{subst}
use Rattle.gl_lines.specs.ZeroReader.{ZeroView, IsDropped}
use Rattle.gl_lines.specs.ZeroFronts.{zero_view}
use Rattle.gl_lines.proofs.Feeding.{dropped_end}
use Rattle.gl_lines.proofs.zero_frames.ZeroFrames.end.Goals as goal

pub returns-clause-ended : goal.returns-clause-ended
returns-clause-ended c = λ given s.
    dropped_end c.args.self.now.rest c.end.result (zero_view c.end.new.front) given
    (subst (λ (v : ZeroView). IsDropped v.rest c.end.result (zero_view c.end.new.front)) c.self.view_is c.end.ensures.last) s
