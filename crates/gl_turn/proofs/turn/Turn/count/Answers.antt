use Rattle.std.proofs.Common.{rules, ap, ◌∙◌, arith}
use Rattle.gl_turn.proofs.Known.{sees_appends_as, sees_commits_as, counts_appends_as, counts_commits_as}
use Rattle.gl_turn.proofs.turn.Turn.count.Goals as goal

pub load-appends-requires : goal.load-appends-requires
load-appends-requires g c = (c.requires.seat.0.0, search rules, sees_appends_as g.T.Shared.shows _ _ _ _ _ _ _ _ _ _ _ c.requires.seat.1)

pub load-commits-requires : goal.load-commits-requires
load-commits-requires g c = let a = c.load-appends.ensures in (a.0 ∙ c.requires.seat.0.0, search rules, sees_commits_as g.T.Shared.shows _ _ _ _ _ _ _ _ _ _ _ (a.2.0 ∙ c.requires.seat.1))

pub fetch_add-requires : goal.fetch_add-requires
fetch_add-requires g c =
    let a = c.load-appends.ensures in let b = c.load-commits.ensures in
    let same = b.2.0 ∙ a.2.0 in
    let j = c.requires.seat.0.1 in let e = a.2.1 in let le = c.requires.grown.0 in let top = c.ranges.journalled.fits in
    (b.0 ∙ a.0 ∙ c.requires.seat.0.0, search rules, counts_appends_as g.T.Shared.shows _ _ _ _ _ _ _ _ _ _ _ _ (same ∙ c.requires.seat.1) (omega (arith, j, e, le, top)))

pub fetch_add-requires-2 : goal.fetch_add-requires-2
fetch_add-requires-2 g c =
    let a = c.load-appends.ensures in let b = c.load-commits.ensures in let f = c.fetch_add.ensures in
    let same = b.2.0 ∙ a.2.0 in
    let out = ap (λ m. m.0.out.commits) same in let was = ap (λ m. m.0.out.commits) a.2.0 in let own = ap (λ m. m.0.own.committed) a.2.0 in
    let j = c.requires.seat.0.2 in let e = b.2.1 in let le = c.requires.grown.1 in let top = c.ranges.committed.fits in
    (f.0 ∙ b.0 ∙ a.0 ∙ c.requires.seat.0.0, search rules, counts_commits_as g.T.Shared.shows _ _ _ _ _ _ _ _ _ _ _ _ _ f.2 (omega (arith, out, was, own, j, e, le, top)))
