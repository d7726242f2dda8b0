use Rattle.gl_lines.proofs.Beginning.{frames_begin}
use Rattle.gl_lines.proofs.laws.law_frames_begin.Goals as goal

pub returns : goal.returns
returns c = frames_begin
