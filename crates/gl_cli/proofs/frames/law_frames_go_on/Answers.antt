use Rattle.gl_cli.proofs.Readers.{frames_on}
use Rattle.gl_cli.proofs.frames.law_frames_go_on.Goals as goal

pub returns : goal.returns
returns c = λ kind bytes stands more. frames_on c.law_frames_begin.ensures c.law_frames_of_bytes.ensures.begins kind c.args.frames.now bytes stands more
