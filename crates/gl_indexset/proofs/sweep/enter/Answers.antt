use Rattle.std.proofs.Common.{◌≡◌, ◌-◌, ◌<◌, ◌≤◌, ◌^◌, true, List, length, filter, unwrap_or, refl, sym, ◌∙◌, ap, subst, arith}
use Rattle.std.specs.Prelude.{slice_set}
use Rattle.std.specs.List.{All}
use Rattle.std.proofs.lemmas.Option.{slice_get_read}
use Rattle.gl_indexset.specs.declared.row.Row.{Row}
use Rattle.gl_indexset.specs.SetKept.{SetKept, goes, is_held}
use Rattle.gl_indexset.proofs.Sweeping.{goes_in, one_set, set_here, filter_all, rule_stays, when_none, when_no_later, held_in_front, held_behind}
use Rattle.gl_indexset.proofs.sweep.enter.Goals as goal

pub returns-then-not-takes-clause-rows : goal.returns-then-not-takes-clause-rows
returns-then-not-takes-clause-rows c =
    let here = slice_get_read c.args.sets.now.items (length c.args.sets.now.items) c.args.at c.index_mut-set.result.now refl (omega (arith, c.args.sets.now.ok.0)) c.index_mut-set.ensures.value in
    subst (λ (l : List SetKept). c.args.rows.now.rows ≡ filter (is_held l) c.args.rows.now.rows) (sym (set_here c.args.sets.now.items c.args.at c.index_mut-set.result.now here))
    (sym (filter_all (is_held c.args.sets.now.items) c.args.rows.now.rows c.requires.held))

pub store-requires-clause-spare : goal.store-requires-clause-spare
store-requires-clause-spare c =
    let here = slice_get_read c.args.sets.now.items (length c.args.sets.now.items) c.args.at c.index_mut-set.result.now refl (omega (arith, c.args.sets.now.ok.0)) c.index_mut-set.ensures.value in
    (c.requires.ready c.index_mut-set.result.now here).spare

pub store-requires-clause-above : goal.store-requires-clause-above
store-requires-clause-above c =
    let here = slice_get_read c.args.sets.now.items (length c.args.sets.now.items) c.args.at c.index_mut-set.result.now refl (omega (arith, c.args.sets.now.ok.0)) c.index_mut-set.ensures.value in
    (c.requires.ready c.index_mut-set.result.now here).sound.above

pub store-requires-clause-number : goal.store-requires-clause-number
store-requires-clause-number c =
    let here = slice_get_read c.args.sets.now.items (length c.args.sets.now.items) c.args.at c.index_mut-set.result.now refl (omega (arith, c.args.sets.now.ok.0)) c.index_mut-set.ensures.value in
    (c.requires.ready c.index_mut-set.result.now here).sound.number

pub returns-in_default-clause-sets : goal.returns-in_default-clause-sets
returns-in_default-clause-sets c = λ s is.
    let here = slice_get_read c.args.sets.now.items (length c.args.sets.now.items) c.args.at c.index_mut-set.result.now refl (omega (arith, c.args.sets.now.ok.0)) c.index_mut-set.ensures.value in
    ap (λ (x : SetKept). slice_set c.args.sets.now.items c.args.at x) (c.store.ensures ∙ sym (goes_in c.args.row.now c.index_mut-set.result.now (sym c.takes.ensures ∙ c.if-not-takes.false))
    ∙ ap (λ (x : SetKept). goes c.args.row.now x) (one_set c.args.sets.now.items c.args.at c.index_mut-set.result.now s here is))

pub returns-in_default-clause-rows : goal.returns-in_default-clause-rows
returns-in_default-clause-rows c =
    let here = slice_get_read c.args.sets.now.items (length c.args.sets.now.items) c.args.at c.index_mut-set.result.now refl (omega (arith, c.args.sets.now.ok.0)) c.index_mut-set.ensures.value in
    let rule = ap (λ (x : SetKept). x.rule) c.store.ensures ∙ rule_stays c.args.row.now.position c.args.row.now.moment c.index_mut-set.result.now in
    when_none c.args.sets.now.items c.args.at c.index_mut-set.result.now c.store.new.self c.args.rows.now.rows c.args.row.now.position here rule c.requires.below c.requires.held (sym c.oldest-before.ensures ∙ c.in_default.is)

pub sweep-requires-clause-before : goal.sweep-requires-clause-before
sweep-requires-clause-before c =
    let here = slice_get_read c.args.sets.now.items (length c.args.sets.now.items) c.args.at c.index_mut-set.result.now refl (omega (arith, c.args.sets.now.ok.0)) c.index_mut-set.ensures.value in
    let rule = ap (λ (x : SetKept). x.rule) c.store.ensures ∙ rule_stays c.args.row.now.position c.args.row.now.moment c.index_mut-set.result.now in
    subst (λ (l : List SetKept). All (λ (row : Row). row.position < c.in-Some.from → is_held l row ≡ true) c.args.rows.now.rows) (sym c.as_slice.ensures.value)
    (held_in_front c.args.sets.now.items c.args.at c.index_mut-set.result.now c.store.new.self c.args.rows.now.rows c.args.row.now.position here rule c.requires.below c.requires.held c.in-Some.from (sym c.oldest-before.ensures ∙ c.in-Some.is))

pub sweep-requires-clause-behind : goal.sweep-requires-clause-behind
sweep-requires-clause-behind c =
    let here = slice_get_read c.args.sets.now.items (length c.args.sets.now.items) c.args.at c.index_mut-set.result.now refl (omega (arith, c.args.sets.now.ok.0)) c.index_mut-set.ensures.value in
    let rule = ap (λ (x : SetKept). x.rule) c.store.ensures ∙ rule_stays c.args.row.now.position c.args.row.now.moment c.index_mut-set.result.now in
    subst (λ (l : List SetKept). All (λ (row : Row). c.unwrap_or-to.result ≤ row.position → is_held l row ≡ true) c.args.rows.now.rows) (sym c.as_slice.ensures.value)
    (held_behind c.args.sets.now.items c.args.at c.index_mut-set.result.now c.store.new.self c.args.rows.now.rows c.args.row.now.position here rule c.requires.below c.requires.held c.unwrap_or-to.result (2 ^ 64 - 1) (c.unwrap_or-to.ensures ∙ ap (λ o. unwrap_or o (2 ^ 64 - 1)) c.oldest-after.ensures) (omega arith))

pub returns-then-to-from-clause-sets : goal.returns-then-to-from-clause-sets
returns-then-to-from-clause-sets c = λ s is.
    let here = slice_get_read c.args.sets.now.items (length c.args.sets.now.items) c.args.at c.index_mut-set.result.now refl (omega (arith, c.args.sets.now.ok.0)) c.index_mut-set.ensures.value in
    ap (λ (x : SetKept). slice_set c.args.sets.now.items c.args.at x) (c.store.ensures ∙ sym (goes_in c.args.row.now c.index_mut-set.result.now (sym c.takes.ensures ∙ c.if-not-takes.false))
    ∙ ap (λ (x : SetKept). goes c.args.row.now x) (one_set c.args.sets.now.items c.args.at c.index_mut-set.result.now s here is))

pub returns-else-to-from-clause-sets : goal.returns-else-to-from-clause-sets
returns-else-to-from-clause-sets c = λ s is.
    let here = slice_get_read c.args.sets.now.items (length c.args.sets.now.items) c.args.at c.index_mut-set.result.now refl (omega (arith, c.args.sets.now.ok.0)) c.index_mut-set.ensures.value in
    ap (λ (x : SetKept). slice_set c.args.sets.now.items c.args.at x) (c.store.ensures ∙ sym (goes_in c.args.row.now c.index_mut-set.result.now (sym c.takes.ensures ∙ c.if-not-takes.false))
    ∙ ap (λ (x : SetKept). goes c.args.row.now x) (one_set c.args.sets.now.items c.args.at c.index_mut-set.result.now s here is))

pub returns-else-to-from-clause-rows : goal.returns-else-to-from-clause-rows
returns-else-to-from-clause-rows c =
    let here = slice_get_read c.args.sets.now.items (length c.args.sets.now.items) c.args.at c.index_mut-set.result.now refl (omega (arith, c.args.sets.now.ok.0)) c.index_mut-set.ensures.value in
    let rule = ap (λ (x : SetKept). x.rule) c.store.ensures ∙ rule_stays c.args.row.now.position c.args.row.now.moment c.index_mut-set.result.now in
    when_no_later c.args.sets.now.items c.args.at c.index_mut-set.result.now c.store.new.self c.args.rows.now.rows c.args.row.now.position here rule c.requires.below c.requires.held c.in-Some.from c.unwrap_or-to.result (2 ^ 64 - 1) (sym c.oldest-before.ensures ∙ c.in-Some.is)
    (c.unwrap_or-to.ensures ∙ ap (λ o. unwrap_or o (2 ^ 64 - 1)) c.oldest-after.ensures) (omega arith) (omega arith)
