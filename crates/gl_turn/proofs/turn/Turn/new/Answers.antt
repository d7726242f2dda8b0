use Rattle.std.proofs.Common.{◌∙◌, ap, [], ◌∷◌, ◌++◌, Some, arith}
use Rattle.gl_turn.proofs.Ending.{begins}
use Rattle.gl_turn.proofs.turn.Turn.new.Goals as goal

pub new-requires : goal.new-requires
new-requires g c =
    let items = c.in_default.ensures.items ∙ ap (λ l. l ++ Some c.args.value ∷ []) c.new-slots.ensures.items in
    let j = c.journalled-journalled.ensures in let k = c.committed-committed.ensures in
    let jt = c.journalled-journalled.type_inv in let kt = c.committed-committed.type_inv in
    rw (items, c.of-about.ensures) (begins g.T.Shared.shows c.args.value (omega (arith, j, jt)) (omega (arith, k, kt)))
