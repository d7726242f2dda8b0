use Rattle.std.proofs.Common.{◌≡◌, ◌-◌, drop, IsCharBoundary}
use Rattle.gl_text.specs.Texts.{piece_from}
use Rattle.gl_text.proofs.find.piece.Given as goal

abbrev pub invariant-loop-passed : goal.invariant-loop-passed
invariant-loop-passed l =
    record {
      pieces : piece_from l.by (l.index - l._passed) l.at (drop l.at l.text) ≡ piece_from l.by (l.index - 1) 0 l.text;
      cut : IsCharBoundary l.text l.at;
    }
