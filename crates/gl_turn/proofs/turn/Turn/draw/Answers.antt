use Rattle.std.proofs.Common.{rules}
use Rattle.gl_turn.proofs.Known.{draws_as}
use Rattle.gl_turn.proofs.turn.Turn.draw.Goals as goal

pub fetch_add-requires : goal.fetch_add-requires
fetch_add-requires g c = (c.requires.0.0, search rules, draws_as g.T.Shared.shows _ _ _ _ _ _ _ _ c.requires.1)
