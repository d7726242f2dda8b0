use Rattle.std.proofs.Common.{◌≡◌, ◌∙◌, None, length, refl, ap, sym}
use Rattle.gl_lines.specs.ZeroReader.{ZeroView}
use Rattle.gl_lines.proofs.Feeding.{closed_view, closed_takes}
use Rattle.gl_lines.proofs.zero_frames.ZeroFrames.take.Goals as goal

pub returns-in-Closed-clause-frames : goal.returns-in-Closed-clause-frames
returns-in-Closed-clause-frames c =
    let none : c.args.self.now.rest ≡ None = ap (λ (v : ZeroView). v.rest) (sym c.self.view_is) ∙ (closed_view c.self.inside.front c.in-Closed.is).0 in
    λ given s. closed_takes c.args.self.now given c.args.piece.now (length c.args.piece.now) none refl s
