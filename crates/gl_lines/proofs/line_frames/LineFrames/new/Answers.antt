use Rattle.std.proofs.Common.{[], List, ℕ, sym, subst}
use Rattle.std.specs.Prelude.{Option}
use Rattle.gl_lines.specs.LineFraming.{Framed}
use Rattle.gl_lines.proofs.Framings.{nothing_framed}
use Rattle.gl_lines.proofs.line_frames.LineFrames.new.Goals as goal

pub returns-clause-empty : goal.returns-clause-empty
returns-clause-empty c = subst (λ (o : Option (List ℕ)). Framed c.args.counted [] [] o) (sym c.in_ok-new.ensures.rest) (nothing_framed c.args.counted)
