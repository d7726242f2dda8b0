use Rattle.std.proofs.Common.{◌≡◌, ◌+◌, ◌<◌, ◌≤◌, List, length, take, drop, refl, sym, ◌∙◌, ap, subst, arith, length-drop}
use Rattle.std.specs.List.{AllPairs, remove}
use Rattle.std.proofs.lemmas.List.Kept.{AllPairs-filter}
use Rattle.gl_indexset.specs.declared.row.Row.{Row}
use Rattle.gl_indexset.specs.SetKept.{is_held}
use Rattle.gl_indexset.specs.Shelved.{Shelved}
use Rattle.gl_indexset.proofs.Compacting.{all_kept, front_dropped, front_first, front_kept, in_turn, rest_dropped, rest_kept}
use Rattle.gl_indexset.proofs.sweep.sweep.Goals as goal
use Rattle.gl_indexset.proofs.sweep.sweep.Goals.{then-is_held, else-is_held}

pub loop-n-init : goal.loop-n-init
loop-n-init c = record {
  order = omega arith;
  front = front_first (is_held c.args.sets.now) c.args.rows.now.rows c.first_from-first.result c.first_from-first.ensures.within
      (λ k d lt. c.requires.before k d (omega (arith, lt, c.first_from-first.ensures.within)) (c.first_from-first.ensures.before k d lt));
  rest = refl;
  spare = omega arith;
}

pub loop-n-preserved : goal.loop-n-preserved
loop-n-preserved c =
    let p = is_held c.args.sets.now in
    let init = c.args.rows.now.rows in
    let rows = c.loop-n.rows.rows in
    let kept = c.loop-n.kept in
    let n = c.loop-n.n in
    let row = c.get.result.now in
    let inv = c.loop-n.invariant in
    let lt : n < length init = omega (arith, c.loop-n-test.true, c.first_from-last.ensures.within) in
    elim c.if-is_held.branch [
      | then-is_held w ↦
          let now : c.if-is_held.rows.rows ≡ rows = ap (λ (v : Shelved). v.rows) w.rows-is in
          record {
            order = omega (arith, w.kept-is, inv.order);
            front = ap (λ m. take m c.if-is_held.rows.rows) w.kept-is ∙ ap (λ (l : List Row). take (kept + 1) l) now
                ∙ front_kept p init rows kept n row lt inv.front inv.rest c.get.ensures (sym c.is_held.ensures ∙ w.if-is_held.true);
            rest = ap (λ m. drop m c.if-is_held.rows.rows) w.kept-is ∙ ap (λ (l : List Row). drop (kept + 1) l) now ∙ rest_kept p init rows kept n row lt inv.front inv.rest c.get.ensures;
            spare = omega (arith, inv.spare, ap (λ (v : Shelved). v.spare) w.rows-is);
          }
      | else-is_held w ↦
          let now : c.if-is_held.rows.rows ≡ remove rows kept = ap (λ (v : Shelved). v.rows) (w.rows-is ∙ w.remove.ensures) in
          record {
            order = omega (arith, w.kept-is, inv.order);
            front = ap (λ m. take m c.if-is_held.rows.rows) w.kept-is ∙ ap (λ (l : List Row). take kept l) now
                ∙ front_dropped p init rows kept n row lt inv.front inv.rest c.get.ensures (sym c.is_held.ensures ∙ w.if-is_held.false);
            rest = ap (λ m. drop m c.if-is_held.rows.rows) w.kept-is ∙ ap (λ (l : List Row). drop kept l) now ∙ rest_dropped p init rows kept n row lt inv.front inv.rest c.get.ensures;
            spare = omega (arith, inv.spare, ap (λ (v : Shelved). v.spare) (w.rows-is ∙ w.remove.ensures));
          }
    ]

pub get-requires : goal.get-requires
get-requires c =
    let init = c.args.rows.now.rows in
    let rows = c.loop-n.rows.rows in
    omega (arith, ap (λ (l : List Row). length l) c.loop-n.invariant.rest, length-drop c.loop-n.kept rows, length-drop c.loop-n.n init, c.loop-n-test.true, c.first_from-last.ensures.within)

pub returns-clause-rows : goal.returns-clause-rows
returns-clause-rows c =
    let turn : c.first_from-first.result ≤ c.first_from-last.result = in_turn c.args.rows.now.rows c.first_from-first.result c.first_from-last.result c.args.from c.args.to c.first_from-first.ensures.within c.requires.order
    c.first_from-first.ensures.before c.first_from-last.ensures.behind in
    let end : c.loop-n.n ≡ c.first_from-last.result = omega (arith, turn, c.loop-n-test.false) in
    all_kept (is_held c.args.sets.now) c.args.rows.now.rows c.loop-n.rows.rows c.loop-n.kept c.loop-n.n c.loop-n.invariant.front c.loop-n.invariant.rest
    (λ k d le lt. c.requires.behind k d lt (c.first_from-last.ensures.behind k d (omega (arith, le, end)) lt))

pub returns-clause-rising : goal.returns-clause-rising
returns-clause-rising c =
    let turn : c.first_from-first.result ≤ c.first_from-last.result = in_turn c.args.rows.now.rows c.first_from-first.result c.first_from-last.result c.args.from c.args.to c.first_from-first.ensures.within c.requires.order
    c.first_from-first.ensures.before c.first_from-last.ensures.behind in
    let end : c.loop-n.n ≡ c.first_from-last.result = omega (arith, turn, c.loop-n-test.false) in
    let now = all_kept (is_held c.args.sets.now) c.args.rows.now.rows c.loop-n.rows.rows c.loop-n.kept c.loop-n.n c.loop-n.invariant.front c.loop-n.invariant.rest
    (λ k d le lt. c.requires.behind k d lt (c.first_from-last.ensures.behind k d (omega (arith, le, end)) lt)) in
    subst (λ (l : List Row). AllPairs (λ (a b : Row). a.position < b.position) l) (sym now)
    (AllPairs-filter (λ (a b : Row). a.position < b.position) (is_held c.args.sets.now) c.args.rows.now.rows c.requires.rising)
