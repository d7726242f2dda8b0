use Rattle.std.proofs.Common.{◌≡◌, ℕ, ◌+◌, ◌-◌, ◌<◌, ◌≤◌, List, Ok, Err, Result, nat_cmp, length, take, drop, remove, length-drop, refl, sym, ap, ◌∙◌, subst, arith}
use Rattle.std.specs.List.Sorted.{IsBinarySearchResult}
use Rattle.std.proofs.lemmas.List.{take_rest}
use Rattle.gl_words.specs.Positions.{AreFrom, without_position}
use Rattle.gl_words.proofs.Rising.{drop_first, drop_remove, found_removed, not_found, rising_without}
use Rattle.gl_words.proofs.positions.take_out.Goals as goal

-- what a part that isn't gone is searched for
searched_in : (all items : List ℕ) (gone position : ℕ) (found : Result ℕ ℕ) → all ≡ items → IsBinarySearchResult (λ y. nat_cmp y position) (take (length all - gone) (drop gone all)) found
    → IsBinarySearchResult (λ y. nat_cmp y position) (drop gone items) found
searched_in all items gone position found is h =
    subst (λ (xs : List ℕ). IsBinarySearchResult (λ y. nat_cmp y position) xs found) (take_rest all gone ∙ ap (drop gone) is) h

pub returns-in-Err-clause-left : goal.returns-in-Err-clause-left
returns-in-Err-clause-left c =
    sym (not_found c.args.position c.in-Err.field-0 (drop c.args.gone c.args.items.now.items) c.requires.rising
    (searched_in c.deref.result.now c.args.items.now.items c.args.gone c.args.position (Err c.in-Err.field-0) c.deref.ensures.value c.in-Err.ensures.position))

first_left : (items new : List ℕ) (gone n position result : ℕ) → drop result new ≡ drop (gone + 1) items → n ≡ 0 → remove (drop gone items) n ≡ without_position position (drop gone items)
    → drop result new ≡ without_position position (drop gone items)
first_left items new gone n position result left first is =
    left ∙ drop_first gone items ∙ ap (λ k. remove (drop gone items) k) (sym first) ∙ is

pub returns-in-Ok-eq0-clause-left : goal.returns-in-Ok-eq0-clause-left
returns-in-Ok-eq0-clause-left c =
    first_left c.args.items.now.items c.packed.new.items.items c.args.gone c.in-Ok-eq0.field-0 c.args.position c.packed.result c.packed.ensures.left c.in-Ok-eq0.field-0-test
    (found_removed c.args.position c.in-Ok-eq0.field-0 (drop c.args.gone c.args.items.now.items) c.requires.rising
    (searched_in c.deref.result.now c.args.items.now.items c.args.gone c.args.position (Ok c.in-Ok-eq0.field-0) c.deref.ensures.value c.in-Ok-eq0.ensures.position))

pub returns-in-Ok-eq0-clause-rising : goal.returns-in-Ok-eq0-clause-rising
returns-in-Ok-eq0-clause-rising c =
    subst (AreFrom 0) (sym (returns-in-Ok-eq0-clause-left c)) (rising_without 0 c.args.position (drop c.args.gone c.args.items.now.items) c.requires.rising)

other_left : (items new : List ℕ) (gone n position : ℕ) → new ≡ remove items (gone + n) → gone + n < length items → remove (drop gone items) n ≡ without_position position (drop gone items)
    → drop gone new ≡ without_position position (drop gone items)
other_left items new gone n position left lt is = ap (drop gone) left ∙ drop_remove gone n (gone + n) items refl lt ∙ is

within : (all items : List ℕ) (gone n : ℕ) → all ≡ items → gone ≤ length items → n < length (take (length all - gone) (drop gone all)) → gone + n < length items
within all items gone n is le lt =
    let len : length (take (length all - gone) (drop gone all)) ≡ length items - gone = ap length (take_rest all gone ∙ ap (drop gone) is) ∙ length-drop gone items in
    omega (arith, len, lt, le)

pub returns-in-Ok-clause-left : goal.returns-in-Ok-clause-left
returns-in-Ok-clause-left c =
    other_left c.args.items.now.items c.remove.new.self.items c.args.gone c.in-Ok.n c.args.position c.remove.ensures.items
    (within c.deref.result.now c.args.items.now.items c.args.gone c.in-Ok.n c.deref.ensures.value (omega (arith, c.requires.gone, c.deref.ensures.len, ap length c.deref.ensures.value)) c.in-Ok.ensures.bound)
    (found_removed c.args.position c.in-Ok.n (drop c.args.gone c.args.items.now.items) c.requires.rising
    (searched_in c.deref.result.now c.args.items.now.items c.args.gone c.args.position (Ok c.in-Ok.n) c.deref.ensures.value c.in-Ok.ensures.position))

pub returns-in-Ok-clause-rising : goal.returns-in-Ok-clause-rising
returns-in-Ok-clause-rising c =
    subst (AreFrom 0) (sym (returns-in-Ok-clause-left c)) (rising_without 0 c.args.position (drop c.args.gone c.args.items.now.items) c.requires.rising)
