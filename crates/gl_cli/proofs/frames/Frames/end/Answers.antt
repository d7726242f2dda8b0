use Rattle.std.proofs.Common.{subst}
use Rattle.gl_cli.specs.declared.frames.Frames.{Frames}
use Rattle.gl_cli.specs.Opened.{FramesStandFor}
use Rattle.gl_cli.proofs.Readers.{lines_ended}
use Rattle.gl_cli.proofs.frames.Frames.end.Goals as goal

pub returns-in-Lines : goal.returns-in-Lines
returns-in-Lines c = λ kind bytes stands.
    lines_ended c.law_frames_of_bytes.ensures.last kind c.in-Lines.reader c.end-in-Lines.new.self bytes c.end-in-Lines.result c.end-in-Lines.ensures.last
    (subst (λ (f : Frames). FramesStandFor kind f bytes) c.in-Lines.is stands)
