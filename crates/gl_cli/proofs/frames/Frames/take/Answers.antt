use Rattle.std.proofs.Common.{subst}
use Rattle.gl_cli.specs.declared.frames.Frames.{Frames}
use Rattle.gl_cli.specs.Opened.{FramesStandFor}
use Rattle.gl_cli.proofs.Readers.{lines_took}
use Rattle.gl_cli.proofs.frames.Frames.take.Goals as goal

pub returns-in-Lines-clause-took : goal.returns-in-Lines-clause-took
returns-in-Lines-clause-took c = λ kind bytes stands.
    lines_took c.law_frames_of_bytes.ensures.frames c.law_frames_of_bytes.ensures.closed c.in-Lines.reader c.take-in-Lines.new.self bytes c.args.piece.now c.take-in-Lines.result.0 c.take-in-Lines.result.1
    c.take-in-Lines.ensures.counts c.take-in-Lines.ensures.frames c.take-in-Lines.ensures.answer kind (subst (λ (f : Frames). FramesStandFor kind f bytes) c.in-Lines.is stands)
