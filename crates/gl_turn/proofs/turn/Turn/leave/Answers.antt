use Rattle.std.proofs.Common.{rules, sym, ap, ◌∙◌, subst, ◌∷◌, Some, arith}
use Rattle.atomic_table.specs.Table.{rest}
use Rattle.gl_turn.specs.declared.seen.Seen.{Seen}
use Rattle.gl_turn.specs.Order.{IsBefore}
use Rattle.gl_turn.proofs.Orders.{before_longer}
use Rattle.gl_turn.proofs.Known.{passes_as, pair_with}
use Rattle.gl_turn.proofs.turn.Turn.leave.Goals as goal

pub fetch_add-passed-requires : goal.fetch_add-passed-requires
fetch_add-passed-requires g c =
    let x = c.exchange.ensures in let v = c.exchange.new.seat.me.0 in let y = c.args.value in let t = g.T.Shared.shows y in
    let out = ap (λ m. m.0.out) x.3 in
    let grown = subst (λ (z : Seen). IsBefore z t) (sym out) c.requires.grown in
    let cs = ap (λ m. m.1) x.3 ∙ ap (λ m. (0, Some y) ∷ rest m.1) c.requires.seat.1 in
    let j = c.journalled-journalled.ensures in let k = c.committed-committed.ensures in
    let jl = before_longer v.out t grown in let kl = grown.commits in (
      c.count.ensures.table ∙ x.0 ∙ c.requires.seat.0.0,
      search rules,
      passes_as g.T.Shared.shows _ _ _ _ _ _ _ _ _ _ _ y _ (pair_with _ _ _ _ c.count.ensures.counted cs) grown (omega (arith, j, jl)) (omega (arith, k, kl)),
    )
