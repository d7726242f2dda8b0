use Rattle.std.proofs.Common.{◌≡◌, ◌<◌, ℕ, true, false, List, length, Ok, sym, ap, subst, ◌∙◌, arith}
use Rattle.std.proofs.lemmas.Result.{err_from_is_err_and}
use Rattle.gl_base.specs.Bytes.{next_is, behind_first}
use Rattle.gl_json.specs.Grammar.{IsItem, IsMember, IsValue}
use Rattle.gl_json.specs.JsonReading.{Skip, trimmed, rest_of, elements_at, item_at, member_at, value_at}
use Rattle.gl_json.specs.Views.{value_view, pair_view}
use Rattle.gl_json.proofs.ElementRead.{Skipping, skip_starts, skip_none, skip_stop, skip_parted, skip_ends, skip_goes, left_shorter}
use Rattle.gl_json.proofs.ValueRead.{item_sound, member_sound, value_sound, objects_none, objects_some, arrays_none, arrays_some}
use Rattle.gl_json.proofs.value.+reader.Goals as goal

pub object_at-returns-then-levels-eq0 : goal.object_at-returns-then-levels-eq0
object_at-returns-then-levels-eq0 t c = objects_none c.args.levels c.args.bytes.now (omega arith)

pub object_at-returns : goal.object_at-returns
object_at-returns t c = rw (objects_some c.args.levels c.args.bytes.now (omega arith)) c.members_end.ensures

pub array_at-returns-then-levels-eq0 : goal.array_at-returns-then-levels-eq0
array_at-returns-then-levels-eq0 t c = arrays_none c.args.levels c.args.bytes.now (omega arith)

pub array_at-returns : goal.array_at-returns
array_at-returns t c = rw (arrays_some c.args.levels c.args.bytes.now (omega arith)) c.items_end.ensures

pub items_end-returns-then-next_is : goal.items_end-returns-then-next_is
items_end-returns-then-next_is t c =
    let same = c.trimmed-rest.ensures in
    let here : next_is 93 (trimmed c.args.bytes.now) ≡ true = ap (next_is 93) (sym same) ∙ sym c.next_is.ensures ∙ c.if-next_is.true in
    skip_none (item_at (value_at c.args.levels)) 93 c.args.bytes.now here ∙ ap (λ (l : List ℕ). (let r : Skip = Ok l in r)) (ap behind_first (sym same) ∙ sym c.behind_first.ensures)

pub items_end-loop-behind-init : goal.items_end-loop-behind-init
items_end-loop-behind-init t c =
    let same = c.trimmed-rest.ensures in
    let none : next_is 93 (trimmed c.args.bytes.now) ≡ false = ap (next_is 93) (sym same) ∙ sym c.next_is.ensures ∙ c.if-next_is.false in
    subst (Skipping (item_at (value_at c.args.levels)) 93 (rest_of (elements_at (item_at (value_at c.args.levels)) 93 c.args.bytes.now))) (sym same) (skip_starts (item_at (value_at c.args.levels)) 93 c.args.bytes.now none)

pub items_end-returns-in_err-behind : goal.items_end-returns-in_err-behind
items_end-returns-in_err-behind t c =
    let p = err_from_is_err_and c.from_residual.result c.from_residual.ensures.1 in
    rw (p.1, p.2) (skip_stop (item_at (value_at c.args.levels)) 93 (rest_of (elements_at (item_at (value_at c.args.levels)) 93 c.args.bytes.now)) c.loop-behind.rest.now c.in_err-behind.field-0.0 c.loop-behind.invariant c.in_err-behind.ensures)

pub items_end-returns-in_err-more : goal.items_end-returns-in_err-more
items_end-returns-in_err-more t c =
    let p = err_from_is_err_and c.from_residual-in_err-more.result c.from_residual-in_err-more.ensures.1 in
    rw (p.1, p.2) (skip_parted (item_at (value_at c.args.levels)) 93 (rest_of (elements_at (item_at (value_at c.args.levels)) 93 c.args.bytes.now)) c.loop-behind.rest.now (value_view c.in_ok-behind.field-0-0, c.in_ok-behind.behind.now) c.in_err-more.field-0.0 c.loop-behind.invariant c.in_ok-behind.ensures c.in_err-more.ensures)

pub items_end-returns-then-not-more : goal.items_end-returns-then-not-more
items_end-returns-then-not-more t c =
    skip_ends (item_at (value_at c.args.levels)) 93 (rest_of (elements_at (item_at (value_at c.args.levels)) 93 c.args.bytes.now)) c.loop-behind.rest.now (value_view c.in_ok-behind.field-0-0, c.in_ok-behind.behind.now) (c.in_ok-more.more, c.in_ok-more.behind.now) c.loop-behind.invariant c.in_ok-behind.ensures c.in_ok-more.ensures (grind arith)

pub items_end-loop-behind-smaller : goal.items_end-loop-behind-smaller
items_end-loop-behind-smaller t c =
    subst (λ (l : List ℕ). length l < length c.loop-behind.rest.now) (sym c.trimmed-rest-in-loop-behind.ensures)
    (left_shorter (item_at (value_at c.args.levels)) (IsItem (IsValue c.args.levels)) 93 c.loop-behind.rest.now (value_view c.in_ok-behind.field-0-0, c.in_ok-behind.behind.now) (c.in_ok-more.more, c.in_ok-more.behind.now) (item_sound (value_at c.args.levels) (IsValue c.args.levels) (value_sound c.args.levels)) c.in_ok-behind.ensures c.in_ok-more.ensures)

pub items_end-loop-behind-preserved : goal.items_end-loop-behind-preserved
items_end-loop-behind-preserved t c =
    subst (Skipping (item_at (value_at c.args.levels)) 93 (rest_of (elements_at (item_at (value_at c.args.levels)) 93 c.args.bytes.now))) (sym c.trimmed-rest-in-loop-behind.ensures)
    (skip_goes (item_at (value_at c.args.levels)) (IsItem (IsValue c.args.levels)) 93 (rest_of (elements_at (item_at (value_at c.args.levels)) 93 c.args.bytes.now)) c.loop-behind.rest.now (value_view c.in_ok-behind.field-0-0, c.in_ok-behind.behind.now) (c.in_ok-more.more, c.in_ok-more.behind.now) (item_sound (value_at c.args.levels) (IsValue c.args.levels) (value_sound c.args.levels)) c.loop-behind.invariant c.in_ok-behind.ensures c.in_ok-more.ensures (grind arith))

pub members_end-returns-then-next_is : goal.members_end-returns-then-next_is
members_end-returns-then-next_is t c =
    let same = c.trimmed-rest.ensures in
    let here : next_is 125 (trimmed c.args.bytes.now) ≡ true = ap (next_is 125) (sym same) ∙ sym c.next_is.ensures ∙ c.if-next_is.true in
    skip_none (member_at (value_at c.args.levels)) 125 c.args.bytes.now here ∙ ap (λ (l : List ℕ). (let r : Skip = Ok l in r)) (ap behind_first (sym same) ∙ sym c.behind_first.ensures)

pub members_end-loop-behind-init : goal.members_end-loop-behind-init
members_end-loop-behind-init t c =
    let same = c.trimmed-rest.ensures in
    let none : next_is 125 (trimmed c.args.bytes.now) ≡ false = ap (next_is 125) (sym same) ∙ sym c.next_is.ensures ∙ c.if-next_is.false in
    subst (Skipping (member_at (value_at c.args.levels)) 125 (rest_of (elements_at (member_at (value_at c.args.levels)) 125 c.args.bytes.now))) (sym same) (skip_starts (member_at (value_at c.args.levels)) 125 c.args.bytes.now none)

pub members_end-returns-in_err-behind : goal.members_end-returns-in_err-behind
members_end-returns-in_err-behind t c =
    let p = err_from_is_err_and c.from_residual.result c.from_residual.ensures.1 in
    rw (p.1, p.2) (skip_stop (member_at (value_at c.args.levels)) 125 (rest_of (elements_at (member_at (value_at c.args.levels)) 125 c.args.bytes.now)) c.loop-behind.rest.now c.in_err-behind.field-0.0 c.loop-behind.invariant c.in_err-behind.ensures)

pub members_end-returns-in_err-more : goal.members_end-returns-in_err-more
members_end-returns-in_err-more t c =
    let p = err_from_is_err_and c.from_residual-in_err-more.result c.from_residual-in_err-more.ensures.1 in
    rw (p.1, p.2) (skip_parted (member_at (value_at c.args.levels)) 125 (rest_of (elements_at (member_at (value_at c.args.levels)) 125 c.args.bytes.now)) c.loop-behind.rest.now (pair_view c.in_ok-behind.field-0-0, c.in_ok-behind.behind.now) c.in_err-more.field-0.0 c.loop-behind.invariant c.in_ok-behind.ensures c.in_err-more.ensures)

pub members_end-returns-then-not-more : goal.members_end-returns-then-not-more
members_end-returns-then-not-more t c =
    skip_ends (member_at (value_at c.args.levels)) 125 (rest_of (elements_at (member_at (value_at c.args.levels)) 125 c.args.bytes.now)) c.loop-behind.rest.now (pair_view c.in_ok-behind.field-0-0, c.in_ok-behind.behind.now) (c.in_ok-more.more, c.in_ok-more.behind.now) c.loop-behind.invariant c.in_ok-behind.ensures c.in_ok-more.ensures (grind arith)

pub members_end-loop-behind-smaller : goal.members_end-loop-behind-smaller
members_end-loop-behind-smaller t c =
    subst (λ (l : List ℕ). length l < length c.loop-behind.rest.now) (sym c.trimmed-rest-in-loop-behind.ensures)
    (left_shorter (member_at (value_at c.args.levels)) (IsMember (IsValue c.args.levels)) 125 c.loop-behind.rest.now (pair_view c.in_ok-behind.field-0-0, c.in_ok-behind.behind.now) (c.in_ok-more.more, c.in_ok-more.behind.now) (member_sound (value_at c.args.levels) (IsValue c.args.levels) (value_sound c.args.levels)) c.in_ok-behind.ensures c.in_ok-more.ensures)

pub members_end-loop-behind-preserved : goal.members_end-loop-behind-preserved
members_end-loop-behind-preserved t c =
    subst (Skipping (member_at (value_at c.args.levels)) 125 (rest_of (elements_at (member_at (value_at c.args.levels)) 125 c.args.bytes.now))) (sym c.trimmed-rest-in-loop-behind.ensures)
    (skip_goes (member_at (value_at c.args.levels)) (IsMember (IsValue c.args.levels)) 125 (rest_of (elements_at (member_at (value_at c.args.levels)) 125 c.args.bytes.now)) c.loop-behind.rest.now (pair_view c.in_ok-behind.field-0-0, c.in_ok-behind.behind.now) (c.in_ok-more.more, c.in_ok-more.behind.now) (member_sound (value_at c.args.levels) (IsValue c.args.levels) (value_sound c.args.levels)) c.loop-behind.invariant c.in_ok-behind.ensures c.in_ok-more.ensures (grind arith))
