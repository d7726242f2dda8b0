-- The places of a page's messages.
use Rattle.std.proofs.Common.{◌≡◌, ℕ, zero, suc, ◌+◌, ◌<◌, ◌≤◌, Bool, true, false, cond, ℤ, List, [], ◌∷◌, ◌++◌, length, get_or, map, filter, drop, refl, sym, ◌∙◌, ap, arith}
use Rattle.std.specs.Prelude.{Option, Some, slice_get}
use Rattle.std.proofs.lemmas.List.{length-map, append_assoc, append-nil, drop_more, drop_all}
use Rattle.gl_query.specs.Tree.{Tree}
use Rattle.gl_pages.specs.declared.ask.Ask.{Ask}
use Rattle.gl_pages.specs.declared.hits.Hit.{Hit}
use Rattle.gl_pages.specs.declared.hits.Page.{Page}
use Rattle.gl_pages.specs.Hits.{page_from}
use Rattle.gl_pages.specs.Pages.{cut, finds, in_order, time_of}
use Rattle.gl_sight.specs.Finding.{found}
use Rattle.gl_sight.specs.Sight.{Seen}
use Rattle.gl_sight.proofs.Ordering.{in_order-map, length-in_order, cut_map, map_twice, Each, each_in_order, each_filter, each_cut, map_agree}

-- a message and its place
abbrev pub Placed : Type 0
Placed = ℕ × Seen

-- the messages with their places, from this one on
abbrev pub placed_from : ℕ → List Seen → List Placed
placed_from n [] = []
placed_from n (message ∷ messages) = (n, message) ∷ placed_from (suc n) messages

abbrev pub hit_of : Placed → Hit
hit_of p = record { time = time_of p.1.fields; position = p.0 }

abbrev pub finding : Ask → Tree → Placed → Bool
finding ask t p = finds ask t p.1.streams p.1.fields

-- what a search finds of messages, the first of which has this place
unfoldable pub hits_from : Ask → Tree → ℕ → List Seen → List Hit
hits_from ask t n messages = map hit_of (filter (finding ask t) (placed_from n messages))

-- Where a message stands.

at_drop : {A : Type 0} (n : ℕ) (whole : List A) (x : A) (xs : List A) → drop n whole ≡ x ∷ xs → (slice_get whole n ≡ Some x) × (drop (suc n) whole ≡ xs)
at_drop zero [] x xs h = cc h
at_drop zero (w ∷ whole) x xs h = (cc h, cc h)
at_drop (suc n) [] x xs h = cc h
at_drop (suc n) (w ∷ whole) x xs h = at_drop n whole x xs h

abbrev Stands : List Seen → Placed → Type 0
Stands whole p = slice_get whole p.0 ≡ Some p.1

each_placed : (whole : List Seen) (n : ℕ) (messages : List Seen) → drop n whole ≡ messages → Each (Stands whole) (placed_from n messages)
each_placed whole n [] h = tt
each_placed whole n (message ∷ messages) h =
    let here = at_drop n whole message messages h in
    (here.0, each_placed whole (suc n) messages here.1)

-- without their places
unplaced : (ask : Ask) (t : Tree) (n : ℕ) (messages : List Seen)
    → map (λ (p : Placed). p.1) (filter (finding ask t) (placed_from n messages)) ≡ filter (λ (m : Seen). finds ask t m.streams m.fields) messages
unplaced ask t n [] = refl
unplaced ask t n (m ∷ messages) = over (finds ask t m.streams m.fields) (unplaced ask t (suc n) messages)
  where
    over : (b : Bool) → map (λ (p : Placed). p.1) (filter (finding ask t) (placed_from (suc n) messages)) ≡ filter (λ (k : Seen). finds ask t k.streams k.fields) messages
        → map (λ (p : Placed). p.1) (cond b ((n, m) ∷ filter (finding ask t) (placed_from (suc n) messages)) (filter (finding ask t) (placed_from (suc n) messages)))
        ≡ cond b (m ∷ filter (λ (k : Seen). finds ask t k.streams k.fields) messages) (filter (λ (k : Seen). finds ask t k.streams k.fields) messages)
    over true rest = ap (λ ms. m ∷ ms) rest
    over false rest = rest

abbrev found_placed : Ask → Tree → List Seen → List Placed
found_placed ask t messages = filter (finding ask t) (placed_from 0 messages)

abbrev in_time : Ask → Tree → List Seen → List Placed
in_time ask t messages = in_order (λ (p : Placed). time_of p.1.fields) (found_placed ask t messages)

found_in_time : (ask : Ask) (t : Tree) (messages : List Seen) → map (λ (p : Placed). p.1) (in_time ask t messages) ≡ found ask t messages
found_in_time ask t messages =
    sym (in_order-map (λ (p : Placed). p.1) (λ (m : Seen). time_of m.fields) (found_placed ask t messages))
    ∙ ap (in_order (λ (m : Seen). time_of m.fields)) (unplaced ask t 0 messages)

pub total_is : (ask : Ask) (t : Tree) (messages : List Seen) (hits : List Hit) (page : Page) → hits ≡ hits_from ask t 0 messages → page ≡ page_from ask hits
    → page.total ≡ length (found ask t messages)
unfolding page_from hits_from
total_is ask t messages hits page are is =
    ap (λ (p : Page). p.total) is ∙ ap length are ∙ length-map (found_placed ask t messages) hit_of
    ∙ sym (length-in_order (λ (p : Placed). time_of p.1.fields) (found_placed ask t messages))
    ∙ sym (length-map (in_time ask t messages) (λ (p : Placed). p.1)) ∙ ap length (found_in_time ask t messages)

rows_are : (ask : Ask) (t : Tree) (messages : List Seen)
    → map (λ (hit : Hit). hit.position) (cut ask (in_order (λ (hit : Hit). hit.time) (map hit_of (found_placed ask t messages)))) ≡ map (λ (p : Placed). p.0) (cut ask (in_time ask t messages))
rows_are ask t messages =
    ap (λ hits. map (λ (hit : Hit). hit.position) (cut ask hits)) (in_order-map hit_of (λ (hit : Hit). hit.time) (found_placed ask t messages))
    ∙ ap (map (λ (hit : Hit). hit.position)) (cut_map ask hit_of (in_time ask t messages))
    ∙ map_twice hit_of (λ (hit : Hit). hit.position) (cut ask (in_time ask t messages))

stand : (ask : Ask) (t : Tree) (messages : List Seen) → Each (Stands messages) (cut ask (in_time ask t messages))
stand ask t messages =
    each_cut ask (Stands messages) (in_time ask t messages)
    (each_in_order (λ (p : Placed). time_of p.1.fields) (Stands messages) (found_placed ask t messages)
    (each_filter (finding ask t) (Stands messages) (placed_from 0 messages) (each_placed messages 0 messages refl)))

pub places_are : (ask : Ask) (t : Tree) (messages : List Seen) (hits : List Hit) (page : Page) → hits ≡ hits_from ask t 0 messages → page ≡ page_from ask hits
    → map (slice_get messages) page.rows ≡ map Some (cut ask (found ask t messages))
unfolding page_from hits_from
places_are ask t messages hits page are is =
    ap (λ (p : Page). map (slice_get messages) p.rows) is
    ∙ ap (λ (hs : List Hit). map (slice_get messages) (map (λ (hit : Hit). hit.position) (cut ask (in_order (λ (hit : Hit). hit.time) hs)))) are
    ∙ ap (map (slice_get messages)) (rows_are ask t messages)
    ∙ map_twice (λ (p : Placed). p.0) (slice_get messages) (cut ask (in_time ask t messages))
    ∙ map_agree (λ (p : Placed). slice_get messages p.0) (λ (p : Placed). Some p.1) (cut ask (in_time ask t messages)) (stand ask t messages)
    ∙ sym (map_twice (λ (p : Placed). p.1) (λ (m : Seen). Some m) (cut ask (in_time ask t messages)))
    ∙ ap (map (λ (m : Seen). Some m)) (sym (cut_map ask (λ (p : Placed). p.1) (in_time ask t messages)) ∙ ap (cut ask) (found_in_time ask t messages))

-- One message more.

hits_cons : (ask : Ask) (t : Tree) (n : ℕ) (m : Seen) (messages : List Seen)
    → hits_from ask t n (m ∷ messages) ≡ cond (finds ask t m.streams m.fields) (hit_of (n, m) ∷ []) [] ++ hits_from ask t (suc n) messages
unfolding hits_from
hits_cons ask t n m messages = over (finds ask t m.streams m.fields)
  where
    over : (b : Bool) → map hit_of (cond b ((n, m) ∷ filter (finding ask t) (placed_from (suc n) messages)) (filter (finding ask t) (placed_from (suc n) messages)))
        ≡ cond b (hit_of (n, m) ∷ []) [] ++ map hit_of (filter (finding ask t) (placed_from (suc n) messages))
    over true = refl
    over false = refl

pub one_more : (ask : Ask) (t : Tree) (messages : List Seen) (k next : ℕ) (d : Seen) (hits new all : List Hit) → k < length messages → next ≡ k + 1
    → new ≡ hits ++ cond (finds ask t (get_or messages k d).streams (get_or messages k d).fields) (hit_of (k, get_or messages k d) ∷ []) []
    → hits ++ hits_from ask t k (drop k messages) ≡ all → new ++ hits_from ask t next (drop next messages) ≡ all
one_more ask t messages k next d hits new all lt step is before =
    let m = get_or messages k d in
    let one = cond (finds ask t m.streams m.fields) (hit_of (k, m) ∷ []) [] in
    let same : suc k ≡ k + 1 = omega arith in
    ap (λ n. new ++ hits_from ask t n (drop n messages)) step
    ∙ ap (λ hs. hs ++ hits_from ask t (k + 1) (drop (k + 1) messages)) is
    ∙ append_assoc hits one (hits_from ask t (k + 1) (drop (k + 1) messages))
    ∙ ap (λ rest. hits ++ rest)
    (ap (λ n. one ++ hits_from ask t n (drop (k + 1) messages)) (sym same) ∙ sym (hits_cons ask t k m (drop (k + 1) messages)) ∙ ap (hits_from ask t k) (sym (drop_more messages k d lt)))
    ∙ before

pub none_left : (ask : Ask) (t : Tree) (messages : List Seen) (k : ℕ) (hits all : List Hit) → length messages ≤ k
    → hits ++ hits_from ask t k (drop k messages) ≡ all → hits ≡ all
unfolding hits_from
none_left ask t messages k hits all past is =
    sym (append-nil hits) ∙ ap (λ rest. hits ++ hits_from ask t k rest) (sym (drop_all k messages past)) ∙ is

pub get_or-map : {A B : Type 0} (f : A → B) (xs : List A) (k : ℕ) (d : A) → get_or (map f xs) k (f d) ≡ f (get_or xs k d)
get_or-map f [] k d = refl
get_or-map f (x ∷ xs) zero d = refl
get_or-map f (x ∷ xs) (suc k) d = get_or-map f xs k d
