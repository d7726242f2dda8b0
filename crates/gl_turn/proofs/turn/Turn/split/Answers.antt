use Rattle.std.proofs.Common.{rules, ap, ◌∙◌}
use Rattle.gl_turn.proofs.Known.{counts_up_as, gives_up_as, splits_as}
use Rattle.gl_turn.proofs.turn.Turn.split.Goals as goal

pub fetch_add-seats-requires : goal.fetch_add-seats-requires
fetch_add-seats-requires g c = (c.requires.0.0, search rules, counts_up_as g.T.Shared.shows _ _ _ _ _ _ _ _ c.requires.1)

pub split_seat-requires : goal.split_seat-requires
split_seat-requires g c = let a = c.fetch_add-seats.ensures in (a.0 ∙ c.requires.0.0, search rules, splits_as g.T.Shared.shows _ _ c.args.self.now.table.shared.table_id.slots _ _ _ _ (a.2.1 c.if-seats-lt-MOST_SEATS.true))

pub fetch_sub-requires : goal.fetch_sub-requires
fetch_sub-requires g c = let a = c.fetch_add-seats.ensures in (a.0 ∙ c.requires.0.0, search rules, gives_up_as g.T.Shared.shows _ _ _ _ _ _ _ _ (λ i. (a.2.2 c.if-seats-lt-MOST_SEATS.false i, (a.2.0 ∙ ap (λ m. m.1) c.requires.1) i)))
