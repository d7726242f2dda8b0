-- What is found and then shown is what is found of what is shown.
use Rattle.std.proofs.Common.{◌≡◌, ℕ, Bool, true, false, ◌&&◌, ◌||◌, ◌==◌, cond, List, [], ◌∷◌, length, map, filter, refl, sym, ◌∙◌, ap, subst, arith}
use Rattle.std.specs.List.{list_all, list_any}
use Rattle.std.proofs.lemmas.List.{length-map}
use Rattle.gl_fields.specs.declared.field.Field.{Field}
use Rattle.gl_query.specs.Matching.{holds}
use Rattle.gl_query.specs.Tree.{Tree}
use Rattle.gl_pages.specs.declared.ask.Ask.{Ask}
use Rattle.gl_pages.specs.Pages.{cut, finds, in_order, is_between, is_chosen, one_chosen, time_of}
use Rattle.gl_sight.specs.Finding.{asks_within, found}
use Rattle.gl_sight.specs.Sight.{Seen, is_seen, shown, visible}
use Rattle.gl_sight.proofs.Ordering.{in_order-map, cut_map}

both : (a b : Bool) → (a && b) ≡ true → (a ≡ true) × (b ≡ true)
both true true h = (refl, refl)
both true false h = cc h
both false true h = cc h
both false false h = cc h

same_number : (a b : ℕ) → (a == b) ≡ true → a ≡ b
same_number a b h = grind arith

-- a chosen stream is permitted where all that are chosen are
chosen_permitted : (permitted chosen : List ℕ) (id : ℕ) → list_all (is_chosen permitted) chosen ≡ true → is_chosen chosen id ≡ true → is_chosen permitted id ≡ true
chosen_permitted permitted [] id all one = cc one
chosen_permitted permitted (c ∷ chosen) id all one =
    let parts = both (is_chosen permitted c) (list_all (is_chosen permitted) chosen) all in
    over (c == id) refl one parts.0 (λ h. chosen_permitted permitted chosen id parts.1 h)
  where
    over : (b : Bool) → (c == id) ≡ b → (b || is_chosen chosen id) ≡ true → is_chosen permitted c ≡ true → (is_chosen chosen id ≡ true → is_chosen permitted id ≡ true) → is_chosen permitted id ≡ true
    over true is h here rest = subst (λ (n : ℕ). is_chosen permitted n ≡ true) (same_number c id is) here
    over false is h here rest = rest h

-- one of a list that a second test lets pass, where it lets pass what the first does
one_kept : {A : Type 0} (f g : A → Bool) → ((x : A) → f x ≡ true → g x ≡ true) → (xs : List A) → list_any f (filter g xs) ≡ list_any f xs
one_kept f g h [] = refl
one_kept f g h (x ∷ xs) = over (f x) (g x) refl (h x) (one_kept f g h xs)
  where
    over : (a b : Bool) → f x ≡ a → (a ≡ true → b ≡ true) → list_any f (filter g xs) ≡ list_any f xs → list_any f (cond b (x ∷ filter g xs) (filter g xs)) ≡ (a || list_any f xs)
    over a true is imp rest = ap (λ c. c || list_any f (filter g xs)) is ∙ ap (λ c. a || c) rest
    over true false is imp rest = let never : false ≡ true = imp refl in cc never
    over false false is imp rest = rest

one_more : {A : Type 0} (f g : A → Bool) → ((x : A) → f x ≡ true → g x ≡ true) → (xs : List A) → list_any f xs ≡ true → list_any g xs ≡ true
one_more f g h [] one = one
one_more f g h (x ∷ xs) one = over (f x) (g x) (h x) one (one_more f g h xs)
  where
    over : (a b : Bool) → (a ≡ true → b ≡ true) → (a || list_any f xs) ≡ true → (list_any f xs ≡ true → list_any g xs ≡ true) → (b || list_any g xs) ≡ true
    over a true imp one rest = refl
    over true false imp one rest = let never : false ≡ true = imp refl in cc never
    over false false imp one rest = rest one

abbrev test : Bool → Ask → Tree → List Field → Bool
test b ask query fields = b && is_between ask.from ask.to (time_of fields) && holds query fields

test_first : (b c : Bool) (d : Bool) → (b && c && d) ≡ true → b ≡ true
test_first true c d h = refl
test_first false true true h = cc h
test_first false true false h = cc h
test_first false false true h = cc h
test_first false false false h = cc h

abbrev finding : Ask → Tree → Seen → Bool
finding ask query message = finds ask query message.streams message.fields

finds_shown : (permitted : List ℕ) (ask : Ask) (query : Tree) (message : Seen) → asks_within permitted ask ≡ true
    → finding ask query (shown permitted message) ≡ finding ask query message
finds_shown permitted ask query message all =
    ap (λ b. test b ask query message.fields)
    (one_kept (is_chosen ask.chosen) (is_chosen permitted) (λ id h. chosen_permitted permitted ask.chosen id all h) message.streams)

found_is_seen : (permitted : List ℕ) (ask : Ask) (query : Tree) (message : Seen) → asks_within permitted ask ≡ true
    → finding ask query message ≡ true → is_seen permitted message ≡ true
found_is_seen permitted ask query message all h =
    one_more (is_chosen ask.chosen) (is_chosen permitted) (λ id k. chosen_permitted permitted ask.chosen id all k) message.streams
    (test_first (one_chosen ask.chosen message.streams) (is_between ask.from ask.to (time_of message.fields)) (holds query message.fields) h)

-- what passes a test before and after it is shown, where what passes is shown
kept : {A B : Type 0} (show : A → B) (after : B → Bool) (before is_shown : A → Bool) → ((x : A) → after (show x) ≡ before x) → ((x : A) → before x ≡ true → is_shown x ≡ true)
    → (xs : List A) → filter after (map show (filter is_shown xs)) ≡ map show (filter before xs)
kept show after before is_shown same imp [] = refl
kept show after before is_shown same imp (x ∷ xs) = over (before x) (is_shown x) (same x) (imp x) (kept show after before is_shown same imp xs)
  where
    over : (a b : Bool) → after (show x) ≡ a → (a ≡ true → b ≡ true) → filter after (map show (filter is_shown xs)) ≡ map show (filter before xs)
        → filter after (map show (cond b (x ∷ filter is_shown xs) (filter is_shown xs))) ≡ map show (cond a (x ∷ filter before xs) (filter before xs))
    over true true is h rest = ap (λ c. cond c (show x ∷ filter after (map show (filter is_shown xs))) (filter after (map show (filter is_shown xs)))) is ∙ ap (λ ys. show x ∷ ys) rest
    over false true is h rest = ap (λ c. cond c (show x ∷ filter after (map show (filter is_shown xs))) (filter after (map show (filter is_shown xs)))) is ∙ rest
    over true false is h rest = let never : false ≡ true = h refl in cc never
    over false false is h rest = rest

pub found_shown : (permitted : List ℕ) (ask : Ask) (query : Tree) (live : List Seen) → asks_within permitted ask ≡ true
    → map (shown permitted) (found ask query live) ≡ found ask query (visible permitted live)
found_shown permitted ask query live all =
    sym (in_order-map (shown permitted) (λ (message : Seen). time_of message.fields) (filter (finding ask query) live))
    ∙ ap (in_order (λ (message : Seen). time_of message.fields))
    (sym (kept (shown permitted) (finding ask query) (finding ask query) (is_seen permitted)
    (λ message. finds_shown permitted ask query message all) (λ message h. found_is_seen permitted ask query message all h) live))

pub total_shown : (permitted : List ℕ) (ask : Ask) (query : Tree) (live : List Seen) → asks_within permitted ask ≡ true
    → length (found ask query live) ≡ length (found ask query (visible permitted live))
total_shown permitted ask query live all =
    sym (length-map (found ask query live) (shown permitted)) ∙ ap length (found_shown permitted ask query live all)

pub page_shown : (permitted : List ℕ) (ask : Ask) (query : Tree) (live : List Seen) → asks_within permitted ask ≡ true
    → map (shown permitted) (cut ask (found ask query live)) ≡ cut ask (found ask query (visible permitted live))
page_shown permitted ask query live all =
    sym (cut_map ask (shown permitted) (found ask query live)) ∙ ap (cut ask) (found_shown permitted ask query live all)

filter_twice : {A : Type 0} (test : A → Bool) (xs : List A) → filter test (filter test xs) ≡ filter test xs
filter_twice test [] = refl
filter_twice test (x ∷ xs) = over (test x) refl (filter_twice test xs)
  where
    over : (b : Bool) → test x ≡ b → filter test (filter test xs) ≡ filter test xs → filter test (cond b (x ∷ filter test xs) (filter test xs)) ≡ cond b (x ∷ filter test xs) (filter test xs)
    over true is rest = ap (λ c. cond c (x ∷ filter test (filter test xs)) (filter test (filter test xs))) is ∙ ap (λ ys. x ∷ ys) rest
    over false is rest = rest

pub hidden : (permitted : List ℕ) (live : List Seen) → visible permitted (filter (is_seen permitted) live) ≡ visible permitted live
hidden permitted live = ap (map (shown permitted)) (filter_twice (is_seen permitted) live)
