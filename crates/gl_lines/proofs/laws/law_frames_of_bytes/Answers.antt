use Rattle.gl_lines.proofs.FramesOfBytes.{same_frames, same_closed, same_last, frames_begin}
use Rattle.gl_lines.proofs.laws.law_frames_of_bytes.Goals as goal

pub returns : goal.returns
returns c = record { frames = same_frames; closed = same_closed; last = same_last; begins = frames_begin }
