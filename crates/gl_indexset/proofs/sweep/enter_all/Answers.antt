use Rattle.std.proofs.Common.{◌≡◌, ◌<◌, true, List, length, get_or, filter, Some, refl, sym, ◌∙◌, ap, subst, arith}
use Rattle.std.specs.List.{All, slice_get}
use Rattle.std.proofs.lemmas.List.Elements.{All-filter, filter_passes}
use Rattle.std.proofs.lemmas.Option.{slice_get-get_or}
use Rattle.gl_indexset.specs.declared.row.Row.{Row}
use Rattle.gl_indexset.specs.SetKept.{SetKept, goes, is_held}
use Rattle.gl_indexset.proofs.Sweeping.{blank, filter_all, here_still, ready_here, one_more_set, filtered_more}
use Rattle.gl_indexset.proofs.sweep.enter_all.Goals as goal

pub loop-at-init : goal.loop-at-init
loop-at-init c = record {
  sets = refl;
  rows = sym (filter_all (is_held c.args.sets.now.items) c.args.rows.now.rows c.requires.held);
  rising = c.requires.rising;
  spare = omega arith;
}

pub enter-requires-clause-ready : goal.enter-requires-clause-ready
enter-requires-clause-ready c = ready_here c.args.row.now c.args.sets.now.items c.loop-at.at (omega (arith, c.len-at-end.ensures, c.args.sets.now.ok.0)) c.loop-at.sets.items c.loop-at.invariant.sets c.requires.ready

pub enter-requires-clause-below : goal.enter-requires-clause-below
enter-requires-clause-below c = subst (λ (l : List Row). All (λ (row : Row). row.position < c.args.row.now.position) l) (sym c.loop-at.invariant.rows)
    (All-filter (is_held c.loop-at.sets.items) (λ (row : Row). row.position < c.args.row.now.position) c.args.rows.now.rows c.requires.below)

pub enter-requires-clause-held : goal.enter-requires-clause-held
enter-requires-clause-held c = subst (λ (l : List Row). All (λ (row : Row). is_held c.loop-at.sets.items row ≡ true) l) (sym c.loop-at.invariant.rows)
    (filter_passes (is_held c.loop-at.sets.items) c.args.rows.now.rows)

pub loop-at-preserved : goal.loop-at-preserved
loop-at-preserved c =
    let init = c.args.sets.now.items in
    let at = c.loop-at.at in
    let sets = c.loop-at.sets.items in
    let lt : at < length init = omega (arith, c.len-at-end.ensures, c.args.sets.now.ok.0) in
    let s = get_or init at blank in
    let here : slice_get sets at ≡ Some s = ap (λ (l : List SetKept). slice_get l at) c.loop-at.invariant.sets ∙ here_still (goes c.args.row.now) init at ∙ slice_get-get_or init at blank lt in
    let changed = c.enter.ensures.sets s here in
    record {
      sets = changed ∙ one_more_set c.args.row.now init at lt sets s c.loop-at.invariant.sets here;
      rows = c.enter.ensures.rows
          ∙ ap (λ (l : List SetKept). filter (is_held l) c.loop-at.rows.rows) changed
          ∙ filtered_more c.args.row.now init at lt c.loop-at.rows.rows c.args.rows.now.rows sets s c.requires.below here
          (ready_here c.args.row.now init at lt sets c.loop-at.invariant.sets c.requires.ready s here) c.loop-at.invariant.rows
          ∙ ap (λ (l : List SetKept). filter (is_held l) c.args.rows.now.rows) (sym changed);
      rising = c.enter.ensures.rising;
      spare = omega (arith, c.enter.ensures.spare, c.loop-at.invariant.spare);
    }
