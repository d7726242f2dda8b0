-- An id that is put among rising ones.
use Rattle.std.proofs.Common.{◌≡◌, ◌⊎◌, inl, inr, ℕ, zero, suc, ◌<◌, ◌≤◌, Bool, true, false, cond, List, [], ◌∷◌, ◌++◌, length, take, drop, get_or, filter, fold, map, nat_lt, not, ◌==◌, lt-ltb, ltb-true, refl, sym, ap, ◌∙◌, arith, length-append}
use Rattle.std.specs.List.{All, insert}
use Rattle.std.proofs.lemmas.Bool.Decides.{nat_tests}
use Rattle.std.proofs.lemmas.List.Elements.{All-get_or, All-head, All-tail, All-weaker, filter_passes}
use Rattle.gl_fields.specs.Fields.{Rises}
use Rattle.gl_fields.proofs.Rising.{Rises-filter, Rises-joined}
use Rattle.gl_streams.specs.declared.stream.Stream.{Stream}
use Rattle.gl_fields.specs.declared.field.Field.{Field}
use Rattle.gl_streams.specs.Ids.{with_id, without_id, ids_of, matching, one_removes, streams_of}

abbrev pub Rising : List ℕ → Type 0
Rising ids = Rises (λ (a b : ℕ). a < b) ids

not_lt : (m n : ℕ) → n ≤ m → nat_lt m n ≡ false
not_lt m n over = grind (arith, nat_tests)

rises_at : (ids : List ℕ) → Rising ids → (i j : ℕ) → i < j → j < length ids → get_or ids i 0 < get_or ids j 0
rises_at [] rises i j lt within = absurd (omega arith)
rises_at (x ∷ xs) rises i zero lt within = absurd (omega arith)
rises_at (x ∷ xs) rises zero (suc j) lt within = All-get_or (λ y. x < y) xs j 0 (omega arith) rises.0
rises_at (x ∷ xs) rises (suc i) (suc j) lt within = rises_at xs rises.1 i j (omega arith) (omega arith)

before_or_same : (i j : ℕ) → i ≤ j → (i ≡ j) ⊎ (i < j)
before_or_same i j h = grind arith

pub in_order : (ids : List ℕ) → Rising ids → (i j : ℕ) → i ≤ j → j < length ids → get_or ids i 0 ≤ get_or ids j 0
in_order ids rises i j le within = pick (before_or_same i j le)
  where
    pick : (i ≡ j) ⊎ (i < j) → get_or ids i 0 ≤ get_or ids j 0
    pick (inl e) = omega (arith, ap (λ n. get_or ids n 0) e)
    pick (inr lt) = omega (arith, rises_at ids rises i j lt within)

front_of : (ids : List ℕ) (id i : ℕ) → i ≤ length ids → ((k : ℕ) → k < i → get_or ids k 0 < id) → ((k : ℕ) → i ≤ k → k < length ids → id < get_or ids k 0) →
    filter (λ other. nat_lt other id) ids ≡ take i ids
front_of [] id zero within before behind = refl
front_of [] id (suc i) within before behind = absurd (omega arith)
front_of (x ∷ xs) id zero within before behind =
    let above : id < x = behind 0 (omega arith) (omega arith) in
    let rest = filter (λ other. nat_lt other id) xs in
    ap (λ b. cond b (x ∷ rest) rest) (not_lt x id (omega arith))
    ∙ front_of xs id zero (omega arith) (λ k less. absurd (omega arith)) (λ k from to. behind (suc k) (omega arith) (omega arith))
front_of (x ∷ xs) id (suc i) within before behind =
    let below : x < id = before 0 (omega arith) in
    let rest = filter (λ other. nat_lt other id) xs in
    ap (λ b. cond b (x ∷ rest) rest) (lt-ltb x id below)
    ∙ ap (λ l. x ∷ l) (front_of xs id i (omega arith) (λ k less. before (suc k) (omega arith)) (λ k from to. behind (suc k) (omega arith) (omega arith)))

back_of : (ids : List ℕ) (id i : ℕ) → i ≤ length ids → ((k : ℕ) → k < i → get_or ids k 0 < id) → ((k : ℕ) → i ≤ k → k < length ids → id < get_or ids k 0) →
    filter (λ other. nat_lt id other) ids ≡ drop i ids
back_of [] id zero within before behind = refl
back_of [] id (suc i) within before behind = absurd (omega arith)
back_of (x ∷ xs) id zero within before behind =
    let above : id < x = behind 0 (omega arith) (omega arith) in
    let rest = filter (λ other. nat_lt id other) xs in
    ap (λ b. cond b (x ∷ rest) rest) (lt-ltb id x above)
    ∙ ap (λ l. x ∷ l) (back_of xs id zero (omega arith) (λ k less. absurd (omega arith)) (λ k from to. behind (suc k) (omega arith) (omega arith)))
back_of (x ∷ xs) id (suc i) within before behind =
    let below : x < id = before 0 (omega arith) in
    let rest = filter (λ other. nat_lt id other) xs in
    ap (λ b. cond b (x ∷ rest) rest) (not_lt id x (omega arith))
    ∙ back_of xs id i (omega arith) (λ k less. before (suc k) (omega arith)) (λ k from to. behind (suc k) (omega arith) (omega arith))

pub inserted : (ids : List ℕ) (id i : ℕ) → i ≤ length ids → ((k : ℕ) → k < i → get_or ids k 0 < id) → ((k : ℕ) → i ≤ k → k < length ids → id < get_or ids k 0) →
    insert ids i id ≡ with_id ids id
inserted ids id i within before behind =
    sym (ap (λ front. front ++ id ∷ filter (λ other. nat_lt id other) ids) (front_of ids id i within before behind)
    ∙ ap (λ back. take i ids ++ id ∷ back) (back_of ids id i within before behind))

filter_all : (p : ℕ → Bool) (xs : List ℕ) → All (λ x. p x ≡ true) xs → filter p xs ≡ xs
filter_all p [] all = refl
filter_all p (x ∷ xs) all =
    ap (λ b. cond b (x ∷ filter p xs) (filter p xs)) (All-head (λ y. p y ≡ true) x xs all)
    ∙ ap (λ l. x ∷ l) (filter_all p xs (All-tail (λ y. p y ≡ true) x xs all))

filter_none : (p : ℕ → Bool) (xs : List ℕ) → All (λ x. p x ≡ false) xs → filter p xs ≡ []
filter_none p [] all = refl
filter_none p (x ∷ xs) all =
    ap (λ b. cond b (x ∷ filter p xs) (filter p xs)) (All-head (λ y. p y ≡ false) x xs all)
    ∙ filter_none p xs (All-tail (λ y. p y ≡ false) x xs all)

pub kept : (ids : List ℕ) (id i : ℕ) → Rising ids → i < length ids → get_or ids i 0 ≡ id → with_id ids id ≡ ids
kept [] id i rises within e = absurd (omega arith)
kept (x ∷ xs) id zero rises within e =
    let same : x ≡ id = e in
    let front = filter (λ other. nat_lt other id) xs in
    let back = filter (λ other. nat_lt id other) xs in
    let none : front ≡ [] = filter_none (λ other. nat_lt other id) xs (All-weaker (λ y. x < y) (λ y. nat_lt y id ≡ false) (λ y less. not_lt y id (omega arith)) xs rises.0) in
    let all : back ≡ xs = filter_all (λ other. nat_lt id other) xs (All-weaker (λ y. x < y) (λ y. nat_lt id y ≡ true) (λ y less. lt-ltb id y (omega arith)) xs rises.0) in
    ap (λ b. cond b (x ∷ front) front ++ id ∷ cond (nat_lt id x) (x ∷ back) back) (not_lt x id (omega arith))
    ∙ ap (λ b. front ++ id ∷ cond b (x ∷ back) back) (not_lt id x (omega arith))
    ∙ ap (λ l. l ++ id ∷ back) none
    ∙ ap (λ l. id ∷ l) all
    ∙ ap (λ n. n ∷ xs) (sym same)
kept (x ∷ xs) id (suc i) rises within e =
    let front = filter (λ other. nat_lt other id) xs in
    let back = filter (λ other. nat_lt id other) xs in
    let at : get_or xs i 0 ≡ id = e in
    let below : x < id = omega (arith, All-get_or (λ y. x < y) xs i 0 (omega arith) rises.0) in
    ap (λ b. cond b (x ∷ front) front ++ id ∷ cond (nat_lt id x) (x ∷ back) back) (lt-ltb x id below)
    ∙ ap (λ b. x ∷ front ++ id ∷ cond b (x ∷ back) back) (not_lt id x (omega arith))
    ∙ ap (λ l. x ∷ l) (kept xs id i rises.1 (omega arith) at)

-- Ids that are put in one after another rise.

pub rises_with : (ids : List ℕ) (id : ℕ) → Rising ids → Rising (with_id ids id)
rises_with ids id rises =
    Rises-joined (λ (a b : ℕ). a < b) (λ a b c h k. omega arith) (filter (λ other. nat_lt other id) ids) id (filter (λ other. nat_lt id other) ids)
    (Rises-filter (λ (a b : ℕ). a < b) (λ other. nat_lt other id) ids rises)
    (All-weaker (λ other. nat_lt other id ≡ true) (λ other. other < id) (λ other h. ltb-true other id h) _ (filter_passes (λ other. nat_lt other id) ids))
    (All-weaker (λ other. nat_lt id other ≡ true) (λ other. id < other) (λ other h. ltb-true id other h) _ (filter_passes (λ other. nat_lt id other) ids))
    (Rises-filter (λ (a b : ℕ). a < b) (λ other. nat_lt id other) ids rises)

rises_along : (ids news : List ℕ) → Rising ids → Rising (fold with_id ids news)
rises_along ids [] rises = rises
rises_along ids (new ∷ news) rises = rises_along (with_id ids new) news (rises_with ids new rises)

pub ids_rise : (streams : List Stream) → Rising (ids_of streams)
ids_rise streams = rises_along [] (map (λ stream. stream.id) streams) tt

pub chosen_rise : (removes : Bool) (ids : List ℕ) → Rising ids → Rising (cond removes ids (with_id ids 1))
chosen_rise true ids rises = rises
chosen_rise false ids rises = rises_with ids 1 rises

-- One stream is always among them.

some_with : (ids : List ℕ) (id : ℕ) → 0 < length (with_id ids id)
some_with ids id =
    let front = filter (λ other. nat_lt other id) ids in
    let back = filter (λ other. nat_lt id other) ids in
    omega (arith, length-append front (id ∷ back))

some_along : (ids news : List ℕ) → 0 < length ids → 0 < length (fold with_id ids news)
some_along ids [] some = some
some_along ids (new ∷ news) some = some_along (with_id ids new) news (some_with ids new)

chosen_some : (streams : List Stream) (removes : Bool) → one_removes streams ≡ removes → 0 < length (cond removes (ids_of streams) (with_id (ids_of streams) 1))
chosen_some streams false e = some_with (ids_of streams) 1
chosen_some [] true e = cc e
chosen_some (stream ∷ streams) true e = some_along (with_id [] stream.id) (map (λ other. other.id) streams) (some_with [] stream.id)

pub given_some : (streams : List Stream) (fields : List Field) → 0 < length (streams_of streams fields)
given_some streams fields = chosen_some (matching streams fields) (one_removes (matching streams fields)) refl

pub rises_without : (ids : List ℕ) (id : ℕ) → Rising ids → Rising (without_id ids id)
rises_without ids id rises = Rises-filter (λ (a b : ℕ). a < b) (λ other. not (other == id)) ids rises
