use Rattle.std.proofs.Common.{◌<◌, ◌-◌, ◌^◌, length, map, sym, ◌∙◌, ap, arith}
use Rattle.std.proofs.lemmas.Option.{get_or_from_slice_get}
use Rattle.gl_indexset.specs.declared.row.Row.{Row}
use Rattle.gl_indexset.specs.SetKept.{is_held, goes}
use Rattle.gl_indexset.proofs.Departing.{held_after, stay_on}
use Rattle.gl_indexset.proofs.leaving.next_unheld.Goals as goal

pub returns-then-not-is_held_after : goal.returns-then-not-is_held_after
returns-then-not-is_held_after c =
    let n = c.loop-n.n in
    let rows = c.args.rows.now.rows in
    let other = c.get-other.result.now in
    let lt : n < length rows = omega (arith, c.len.ensures, c.loop-n-test.true) in (
      c.loop-n.invariant.order,
      lt,
      λ d. ap (λ (r : Row). is_held (map (goes c.args.row.now) c.args.sets.now) r) (get_or_from_slice_get rows n other d c.get-other.ensures)
          ∙ sym (held_after c.args.row.now other c.args.sets.now) ∙ sym c.is_held_after.ensures ∙ c.if-not-is_held_after.true,
      λ k d le less. c.loop-n.invariant.stay k d le less (omega (arith, less, lt)),
    )

pub loop-n-preserved : goal.loop-n-preserved
loop-n-preserved c =
    let rows = c.args.rows.now.rows in
    let lt : c.loop-n.n < length rows = omega (arith, c.len.ensures, c.loop-n-test.true) in
    record {
      order = omega (arith, c.loop-n.invariant.order, c.max-n.ensures);
      stay = stay_on rows c.args.sets.now c.args.row.now c.get-other.result.now c.loop-n.n (2 ^ 64 - 1) c.requires.rising c.requires.held c.get-other.ensures lt
          (sym (held_after c.args.row.now c.get-other.result.now c.args.sets.now) ∙ sym c.is_held_after.ensures ∙ c.if-not-is_held_after.false)
          c.args.from c.first_lost-next.result c.first_from.result c.max-n.result c.first_lost-next.ensures c.first_from.ensures.before (omega (arith, c.max-n.ensures)) c.loop-n.invariant.stay;
    }
