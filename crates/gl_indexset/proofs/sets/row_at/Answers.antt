use Rattle.std.proofs.Common.{◌<◌, ◌≤◌, length, sym, ap, ◌∙◌, subst, arith}
use Rattle.std.proofs.lemmas.Option.{get_or_from_slice_get}
use Rattle.gl_indexset.proofs.Finding.{not_behind, not_here}
use Rattle.gl_indexset.proofs.sets.row_at.Goals as goal

pub returns-then-n-len : goal.returns-then-n-len
returns-then-n-len c = not_behind c.args.rows.now.rows c.args.position c.first_from-n.result c.first_from-n.ensures.before (omega (arith, c.len.ensures, c.if-n-len.true))

pub returns-then-row-position : goal.returns-then-row-position
returns-then-row-position c =
    let lt : c.first_from-n.result < length c.args.rows.now.rows = omega (arith, c.first_from-n.ensures.within, c.len.ensures, c.if-n-len.false) in
    (c.if-row-position.true, (c.first_from-n.result, lt, get_or_from_slice_get c.args.rows.now.rows c.first_from-n.result c.get-row.result.now c.get-row.result.now c.get-row.ensures))

pub returns-else-row-position : goal.returns-else-row-position
returns-else-row-position c = not_here c.args.rows.now.rows c.args.position c.first_from-n.result c.first_from-n.ensures.before c.requires c.get-row.result.now c.get-row.ensures
    (let lt : c.first_from-n.result < length c.args.rows.now.rows = omega (arith, c.first_from-n.ensures.within, c.len.ensures, c.if-n-len.false) in
    subst (λ r. c.args.position ≤ r.position) (get_or_from_slice_get c.args.rows.now.rows c.first_from-n.result c.get-row.result.now c.get-row.result.now c.get-row.ensures)
    (c.first_from-n.ensures.behind c.first_from-n.result c.get-row.result.now (omega arith) lt))
    c.if-row-position.false
