use Rattle.std.proofs.Common.{rules}
use Rattle.gl_turn.proofs.Known.{sees_seats_as}
use Rattle.gl_turn.proofs.turn.Turn.seats.Goals as goal

pub load-requires : goal.load-requires
load-requires g c = (c.requires.0.0, search rules, sees_seats_as g.T.Shared.shows _ _ _ _ _ _ _ _ c.requires.1)
