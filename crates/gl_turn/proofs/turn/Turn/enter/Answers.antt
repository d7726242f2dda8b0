use Rattle.std.proofs.Common.{rules, ◌∙◌}
use Rattle.gl_turn.proofs.Known.{sees_as}
use Rattle.gl_turn.proofs.turn.Turn.enter.Goals as goal

pub load-serving-requires : goal.load-serving-requires
load-serving-requires g c = let i = c.loop.invariant in (i.0 ∙ c.draw-ticket.ensures.table ∙ c.requires.0.0, search rules, sees_as g.T.Shared.shows _ _ _ _ _ _ _ _ _ (i.1 ∙ c.draw-ticket.ensures.drawn))
