use Rattle.std.proofs.Common.{rules, ap, ◌∙◌}
use Rattle.gl_turn.specs.Own.{added}
use Rattle.gl_turn.specs.Views.{double}
use Rattle.gl_turn.proofs.Known.{joins_as, merges_as}
use Rattle.gl_turn.proofs.turn.Turn.join.Goals as goal

pub join_seat-requires : goal.join_seat-requires
join_seat-requires g c = (
  c.requires.own.0.0,
  c.requires.other.0.0,
  ap (λ m. m.1) c.requires.other.1,
  search rules,
  joins_as g.T.Shared.shows _ _ c.args.self.now.table.shared.table_id.slots _ _ _ _ _ _ _ _ _ _ (ap (λ m. m.0) c.requires.own.1) (ap (λ m. m.0) c.requires.other.1),
)

pub fetch_sub-requires : goal.fetch_sub-requires
fetch_sub-requires g c =
    let j = c.join_seat.ensures in
    let v = c.args.seat.now.me.0 in let w = c.args.other.me.0 in
    (j.0 ∙ c.requires.own.0.0, search rules, merges_as g.T.Shared.shows _ _ _ _ _ _ _ _ (j.2 ∙ ap (λ m. (double (added v.own w.own) v.seen w.seen, m.1)) c.requires.own.1))
