-- The sets that a fold over datagrams keeps are those that the datagrams tell.
use Rattle.std.proofs.Common.{◌≡◌, ◌≤◌, ◌<◌, ℕ, zero, suc, ◌+◌, Bool, true, false, not, cond, ◌&&◌, ◌||◌, ◌==◌, List, [], ◌∷◌, ◌++◌, map, length, is_some, replicate, Option, Some, None, refl, sym, ap, ap₂, ◌∙◌, arith}
use Rattle.std.specs.Prelude.{nat_le, nat_lt, option_map, slice_set, slice_index_or}
use Rattle.std.specs.List.{list_any, filter, find, flat_map, range_with_len, AllByRecursion, IsDistinct}
use Rattle.std.specs.Ordering.{nat_cmp, eq_by_cmp}
use Rattle.std.specs.Cmp.{nat_cmp_total, unsigned_tied}
use Rattle.std.specs.Map.{keys_of}
use Rattle.std.specs.FinMap as finite
use Rattle.std.specs.FinMap.{nat_cmp-IsAntisymmetric}
use Rattle.std.proofs.lemmas.List.{length-append}
use Rattle.std.proofs.lemmas.Bool.{and_parts, eqb-true, eq-eqb, ne_eqb}
use Rattle.std.proofs.lemmas.Bool.Decides.{nat_tests}
use Rattle.std.proofs.lemmas.Map.Keys.{IsDistinct-cons}
use Rattle.gl_chunks.specs.declared.chunk_set.ChunkSet.{ChunkSet}
use Rattle.gl_chunks.specs.Chunks.{chunk_head, chunk_id, chunk_number, chunk_count, while_live, opened, live_sets, opened_set, with_part}
use Rattle.gl_chunks.specs.Answers.{Datagram, is_of, is_kept, ends, is_held, is_end, is_live, behind, opener_of, members_of, with_id, ids_in, live_ids, has_ended, data_in, size_of, part_of, parts_of}
use Rattle.gl_chunks.proofs.Keeping.{live_kept, len_is}

-- ---- heads

pub record Head (bytes : List ℕ) (head : ℕ × ℕ × ℕ) : Type 0 where
  pub number : chunk_number bytes ≡ head.1
  pub count : chunk_count bytes ≡ head.2
  pub below : head.1 < head.2

head_by : (t : Bool) (h head : ℕ × ℕ × ℕ) → cond t (Some h) None ≡ Some head → (t ≡ true) × (h ≡ head)
head_by true h head e = (refl, cc)
head_by false h head e = absurd cc

below_is : (a b : ℕ) → nat_lt a b ≡ true → a < b
below_is a b h = grind (arith, nat_tests)

pub head_is : (bytes : List ℕ) (head : ℕ × ℕ × ℕ) → chunk_head bytes ≡ Some head → Head bytes head
unfolding chunk_head
head_is bytes head e =
    let p = head_by _ (chunk_id bytes, chunk_number bytes, chunk_count bytes) head e in
    let number : chunk_number bytes ≡ head.1 = ap (λ (h : ℕ × ℕ × ℕ). h.1) p.1 in
    let count : chunk_count bytes ≡ head.2 = ap (λ (h : ℕ × ℕ × ℕ). h.2) p.1 in
    let below : chunk_number bytes < chunk_count bytes = below_is (chunk_number bytes) (chunk_count bytes) (and_parts _ (nat_lt (chunk_number bytes) (chunk_count bytes)) p.0).1 in
    record { number = number; count = count; below = omega (arith, number, count, below) }

-- ---- parts by number

yes_is : {A : Type 0} (t : Bool) (x y : A) → t ≡ true → cond t x y ≡ x
yes_is t x y e = ap (λ b. cond b x y) e

no_is : {A : Type 0} (t : Bool) (x y : A) → t ≡ false → cond t x y ≡ y
no_is t x y e = ap (λ b. cond b x y) e

other_parts : (f g : ℕ → Option (List ℕ)) (c a : ℕ) → ((n : ℕ) → a ≤ n → f n ≡ g n) → map f (range_with_len a c) ≡ map g (range_with_len a c)
other_parts f g zero a h = refl
other_parts f g (suc c) a h =
    ap₂ (λ (x : Option (List ℕ)) (xs : List (Option (List ℕ))). x ∷ xs) (h a (omega arith)) (other_parts f g c (a + 1) (λ n le. h n (omega (arith, le))))

slots_set : (f : ℕ → Option (List ℕ)) (x : Option (List ℕ)) (c a i : ℕ) → i < c → map (λ n. cond (a + i == n) x (f n)) (range_with_len a c) ≡ slice_set (map f (range_with_len a c)) i x
slots_set f x zero a i lt = absurd (omega arith)
slots_set f x (suc c) a zero lt =
    let same : a + 0 ≡ a = omega arith in
    ap₂ (λ (y : Option (List ℕ)) (ys : List (Option (List ℕ))). y ∷ ys) (yes_is (a + 0 == a) x (f a) (eq-eqb (a + 0) a same))
    (other_parts (λ n. cond (a + 0 == n) x (f n)) f c (a + 1) (λ n le. no_is (a + 0 == n) x (f n) (ne_eqb (a + 0) n (λ e. absurd (omega (arith, le, e))))))
slots_set f x (suc c) a (suc i) lt =
    let same : a + suc i ≡ (a + 1) + i = omega arith in
    ap₂ (λ (y : Option (List ℕ)) (ys : List (Option (List ℕ))). y ∷ ys) (no_is (a + suc i == a) x (f a) (ne_eqb (a + suc i) a (λ e. absurd (omega (arith, e)))))
    (ap (λ (m : ℕ). map (λ n. cond (m == n) x (f n)) (range_with_len (a + 1) c)) same ∙ slots_set f x c (a + 1) i (omega arith))

parts_none : (c a : ℕ) → map (part_of []) (range_with_len a c) ≡ replicate c None
parts_none zero a = refl
parts_none (suc c) a = ap (λ (xs : List (Option (List ℕ))). None ∷ xs) (parts_none c (a + 1))

pub index_parts : (f : ℕ → Option (List ℕ)) (c a i : ℕ) → i < c → slice_index_or (map f (range_with_len a c)) i None ≡ f (a + i)
index_parts f zero a i lt = absurd (omega arith)
index_parts f (suc c) a zero lt = let same : a ≡ a + 0 = omega arith in ap f same
index_parts f (suc c) a (suc i) lt = let same : (a + 1) + i ≡ a + suc i = omega arith in index_parts f c (a + 1) i (omega arith) ∙ ap f same

pub length_parts : (f : ℕ → Option (List ℕ)) (c a : ℕ) → length (map f (range_with_len a c)) ≡ c
length_parts f zero a = refl
length_parts f (suc c) a = ap suc (length_parts f c (a + 1))

map_by : (t : Bool) (b : List ℕ) (o : Option (List ℕ)) → option_map data_in (cond t (Some b) o) ≡ cond t (Some (data_in b)) (option_map data_in o)
map_by true b o = refl
map_by false b o = refl

part_more : (b : List ℕ) (ts : List (List ℕ)) (n : ℕ) → part_of (b ∷ ts) n ≡ cond (chunk_number b == n) (Some (data_in b)) (part_of ts n)
part_more b ts n = map_by (chunk_number b == n) b (find (λ t. chunk_number t == n) ts)

some_by : (t : Bool) (x : List ℕ) (o : Option (List ℕ)) → is_some (cond t (Some x) o) ≡ (t || is_some o)
some_by true x o = refl
some_by false x o = refl

pub has_part : (ts : List (List ℕ)) (n : ℕ) → is_some (part_of ts n) ≡ list_any (λ t. chunk_number t == n) ts
has_part [] n = refl
has_part (b ∷ ts) n =
    ap is_some (part_more b ts n) ∙ some_by (chunk_number b == n) (data_in b) (part_of ts n) ∙ ap (λ (r : Bool). (chunk_number b == n) || r) (has_part ts n)

-- ---- sets

abbrev pub made : ℕ → ℕ → List (List ℕ) → ChunkSet
made opened count chunks = record { opened = opened; len = size_of chunks; parts = parts_of count chunks }

pub made_none : (at count : ℕ) → made at count [] ≡ opened_set at count
made_none at count = ap (λ (ps : List (Option (List ℕ))). (let set : ChunkSet = record { opened = at; len = 0; parts = ps } in set)) (parts_none count 0)

pub made_more : (at count number : ℕ) (b part : List ℕ) (ts : List (List ℕ)) → chunk_number b ≡ number → part ≡ data_in b → number < count
    → made at count (b ∷ ts) ≡ with_part (made at count ts) number part
made_more at count number b part ts number_is part_is lt =
    let zero_is : number ≡ 0 + number = omega arith in
    let len_is : size_of (b ∷ ts) ≡ size_of ts + length part = omega (arith, length-append (data_in b) (flat_map data_in ts), ap length part_is) in
    let each : (n : ℕ) → 0 ≤ n → part_of (b ∷ ts) n ≡ cond (0 + number == n) (Some part) (part_of ts n) = λ n le.
    part_more b ts n ∙ ap (λ (m : ℕ). cond (m == n) (Some (data_in b)) (part_of ts n)) (number_is ∙ zero_is) ∙ ap (λ (p : List ℕ). cond (0 + number == n) (Some p) (part_of ts n)) (sym part_is) in
    let parts_is : parts_of count (b ∷ ts) ≡ slice_set (parts_of count ts) number (Some part) =
    other_parts (part_of (b ∷ ts)) (λ n. cond (0 + number == n) (Some part) (part_of ts n)) count 0 each ∙ slots_set (part_of ts) (Some part) count 0 number lt in
    ap₂ (λ (len : ℕ) (ps : List (Option (List ℕ))). (let set : ChunkSet = record { opened = at; len = len; parts = ps } in set)) len_is parts_is

abbrev pub Run : Type 0
Run = Datagram × List Datagram

abbrev pub set_of : ℕ → Run → ChunkSet
set_of id run = made run.0.moment (chunk_count run.0.bytes) (members_of id run)

abbrev pub seen : ℕ → ℕ → Option Run → Option ChunkSet
seen id moment None = None
seen id moment (Some run) = cond (is_live id moment (Some run)) (Some (set_of id run)) None

-- ---- a datagram that is nothing to an id

abbrev with_ends : ℕ → ℕ → Run → Datagram → Bool → Bool → Option ChunkSet
with_ends q k run d held ended =
    cond (nat_le k (run.0.moment + 5000) && not (ended || list_any (is_end q) run.1))
    (Some (made run.0.moment (chunk_count run.0.bytes) (map (λ e. e.bytes) (cond held (d ∷ filter (is_held q) run.1) (filter (is_held q) run.1)) ++ run.0.bytes ∷ []))) None

behind_seen : (q k : ℕ) (d : Datagram) (o : Option Run) → is_held q d ≡ false → is_end q d ≡ false → seen q k (behind d o) ≡ seen q k o
behind_seen q k d None held ended = refl
behind_seen q k d (Some run) held ended = ap₂ (with_ends q k run d) held ended

pub quiet_seen : (q k : ℕ) (d : Datagram) (es : List Datagram) → is_held q d ≡ false → is_end q d ≡ false → seen q k (opener_of q (d ∷ es)) ≡ seen q k (opener_of q es)
unfolding opener_of
quiet_seen q k d es held ended =
    ap (λ (h : Bool). seen q k (cond (h && not (is_live q d.moment (opener_of q es))) (Some (d, [])) (behind d (opener_of q es)))) held
    ∙ behind_seen q k d (opener_of q es) held ended

pub quiet_ended : (q k : ℕ) (d : Datagram) (es : List Datagram) → is_end q d ≡ false → has_ended q k (d ∷ es) ≡ has_ended q k es
quiet_ended q k d es ended = ap (λ (b : Bool). (b && nat_le k (d.moment + 5000)) || has_ended q k es) ended

and_false : (b : Bool) → (b && false) ≡ false
and_false true = refl
and_false false = refl

pub not_held : (q : ℕ) (d : Datagram) → is_kept d.answer ≡ false → is_held q d ≡ false
not_held q d e = ap (λ (b : Bool). is_of q (chunk_head d.bytes) && b) e ∙ and_false (is_of q (chunk_head d.bytes))

pub not_ended : (q : ℕ) (d : Datagram) → ends d.answer ≡ false → is_end q d ≡ false
not_ended q d e = ap (λ (b : Bool). is_of q (chunk_head d.bytes) && b) e ∙ and_false (is_of q (chunk_head d.bytes))

pub other_id : (q : ℕ) (bytes : List ℕ) (head : ℕ × ℕ × ℕ) → chunk_head bytes ≡ Some head → (q == head.0) ≡ false → is_of q (chunk_head bytes) ≡ false
other_id q bytes head e apart = ap (is_of q) e ∙ apart

pub own_id : (bytes : List ℕ) (head : ℕ × ℕ × ℕ) → chunk_head bytes ≡ Some head → is_of head.0 (chunk_head bytes) ≡ true
own_id bytes head e = ap (is_of head.0) e ∙ eq-eqb head.0 head.0 refl

-- ---- how many sets are live

with_entry : ℕ → Option ChunkSet → List (ℕ × ChunkSet) → List (ℕ × ChunkSet)
with_entry q None es = es
with_entry q (Some x) es = (q, x) ∷ es

entries_of : (ℕ → Option ChunkSet) → List ℕ → List (ℕ × ChunkSet)
entries_of f [] = []
entries_of f (q ∷ ids) = with_entry q (f q) (entries_of f ids)

found : (f : ℕ → Option ChunkSet) (q i : ℕ) (o : Option ChunkSet) (es : List (ℕ × ChunkSet)) (t u : Bool) → f i ≡ o → (q == i) ≡ t → finite.find nat_cmp q es ≡ cond u (f q) None
    → finite.find nat_cmp q (with_entry i o es) ≡ cond (t || u) (f q) None
unfolding with_entry
found f q i None es true true of_i same rest = rest
found f q i None es true false of_i same rest = rest ∙ sym (ap f (eqb-true q i same) ∙ of_i)
found f q i None es false u of_i same rest = rest
found f q i (Some x) es true u of_i same rest =
    ap (λ (b : Bool). cond b (Some x) (finite.find nat_cmp q es)) (unsigned_tied q i ∙ same) ∙ sym (ap f (eqb-true q i same) ∙ of_i)
found f q i (Some x) es false u of_i same rest =
    ap (λ (b : Bool). cond b (Some x) (finite.find nat_cmp q es)) (unsigned_tied q i ∙ same) ∙ rest

find_entries : (f : ℕ → Option ChunkSet) (ids : List ℕ) (q : ℕ) → finite.find nat_cmp q (entries_of f ids) ≡ cond (list_any (λ i. q == i) ids) (f q) None
unfolding entries_of
find_entries f [] q = refl
find_entries f (i ∷ ids) q = found f q i (f i) (entries_of f ids) (q == i) (list_any (λ i. q == i) ids) refl refl (find_entries f ids q)

length_with : (q : ℕ) (o : Option ChunkSet) (es : List (ℕ × ChunkSet)) (ids : List ℕ) → length es ≡ length ids → length (with_entry q o es) ≡ length (cond (is_some o) (q ∷ ids) ids)
unfolding with_entry
length_with q None es ids e = e
length_with q (Some x) es ids e = ap suc e

length_entries : (f : ℕ → Option ChunkSet) (ids : List ℕ) → length (entries_of f ids) ≡ length (filter (λ q. is_some (f q)) ids)
unfolding entries_of
length_entries f [] = refl
length_entries f (q ∷ ids) = length_with q (f q) (entries_of f ids) (filter (λ q. is_some (f q)) ids) (length_entries f ids)

abbrev Apart : ℕ → List ℕ → Type 0
Apart q ids = AllByRecursion (λ (y : ℕ). eq_by_cmp nat_cmp q y ≡ false) ids

apart_with : (q i : ℕ) (o : Option ChunkSet) (es : List (ℕ × ChunkSet)) → eq_by_cmp nat_cmp q i ≡ false → Apart q (keys_of es) → Apart q (keys_of (with_entry i o es))
unfolding with_entry
apart_with q i None es e rest = rest
apart_with q i (Some x) es e rest = (e, rest)

apart_entries : (f : ℕ → Option ChunkSet) (q : ℕ) (ids : List ℕ) → Apart q ids → Apart q (keys_of (entries_of f ids))
unfolding entries_of
apart_entries f q [] h = tt
apart_entries f q (i ∷ ids) h = apart_with q i (f i) (entries_of f ids) h.0 (apart_entries f q ids h.1)

distinct_with : (i : ℕ) (o : Option ChunkSet) (es : List (ℕ × ChunkSet)) → Apart i (keys_of es) → IsDistinct (eq_by_cmp nat_cmp) (keys_of es) → IsDistinct (eq_by_cmp nat_cmp) (keys_of (with_entry i o es))
unfolding with_entry
distinct_with i None es h d = d
distinct_with i (Some x) es h d = IsDistinct-cons (eq_by_cmp nat_cmp) i (keys_of es) h d

-- each id once, as a recursion
abbrev AreOnce : List ℕ → Type 0
AreOnce [] = Unit {0}
AreOnce (q ∷ ids) = Apart q ids × AreOnce ids

distinct_entries : (f : ℕ → Option ChunkSet) (ids : List ℕ) → AreOnce ids → IsDistinct (eq_by_cmp nat_cmp) (keys_of (entries_of f ids))
unfolding entries_of IsDistinct
distinct_entries f [] h = tt
distinct_entries f (i ∷ ids) h = distinct_with i (f i) (entries_of f ids) (apart_entries f i ids h.0) (distinct_entries f ids h.1)

or_both : (a b : Bool) → (a || b) ≡ false → (a ≡ false) × (b ≡ false)
or_both true b h = absurd cc
or_both false b h = (refl, h)

apart_from : (q : ℕ) (ids : List ℕ) → list_any (λ i. q == i) ids ≡ false → Apart q ids
apart_from q [] h = tt
apart_from q (i ∷ ids) h = let p = or_both (q == i) (list_any (λ i. q == i) ids) h in (unsigned_tied q i ∙ p.0, apart_from q ids p.1)

once_by : (q : ℕ) (ids : List ℕ) (t : Bool) → list_any (λ i. q == i) ids ≡ t → AreOnce ids → AreOnce (cond t ids (q ∷ ids))
once_by q ids true e once = once
once_by q ids false e once = (apart_from q ids e, once)

once_with : (head : Option (ℕ × ℕ × ℕ)) (ids : List ℕ) → AreOnce ids → AreOnce (with_id head ids)
once_with None ids once = once
once_with (Some head) ids once = once_by head.0 ids (list_any (λ i. head.0 == i) ids) refl once

ids_once : (es : List Datagram) → AreOnce (ids_in es)
unfolding ids_in
ids_once [] = tt
ids_once (d ∷ es) = once_with (chunk_head d.bytes) (ids_in es) (ids_once es)

-- an id that stands in no chunk has no opener
in_by : (q i : ℕ) (ids : List ℕ) (t : Bool) → list_any (λ j. i == j) ids ≡ t → list_any (λ j. q == j) (cond t ids (i ∷ ids)) ≡ false → ((q == i) ≡ false) × (list_any (λ j. q == j) ids ≡ false)
in_by q i ids false e none = or_both (q == i) (list_any (λ j. q == j) ids) none
in_by q i ids true e none = (ne_eqb q i (λ same. absurd (let one : true ≡ false = sym e ∙ ap (λ (n : ℕ). list_any (λ j. n == j) ids) (sym same) ∙ none in cc)), none)

in_with : (q : ℕ) (head : Option (ℕ × ℕ × ℕ)) (ids : List ℕ) → list_any (λ j. q == j) (with_id head ids) ≡ false → (is_of q head ≡ false) × (list_any (λ j. q == j) ids ≡ false)
in_with q None ids none = (refl, none)
in_with q (Some head) ids none = in_by q head.0 ids (list_any (λ j. head.0 == j) ids) refl none

no_opener : (q : ℕ) (es : List Datagram) → list_any (λ j. q == j) (ids_in es) ≡ false → opener_of q es ≡ None
unfolding ids_in opener_of
no_opener q [] none = refl
no_opener q (d ∷ es) none =
    let p = in_with q (chunk_head d.bytes) (ids_in es) none in
    let held : is_held q d ≡ false = ap (λ (b : Bool). b && is_kept d.answer) p.0 in
    ap (λ (h : Bool). cond (h && not (is_live q d.moment (opener_of q es))) (Some (d, [])) (behind d (opener_of q es))) held
    ∙ ap (behind d) (no_opener q es p.1)

some_seen : (q k : ℕ) (o : Option Run) → is_some (seen q k o) ≡ is_live q k o
some_seen q k None = refl
some_seen q k (Some run) = by (is_live q k (Some run)) (set_of q run)
  where
    by : (t : Bool) (x : ChunkSet) → is_some (cond t (Some x) None) ≡ t
    by true x = refl
    by false x = refl

same_filter : (p r : ℕ → Bool) (ids : List ℕ) → ((q : ℕ) → p q ≡ r q) → filter p ids ≡ filter r ids
same_filter p r [] h = refl
same_filter p r (q ∷ ids) h = ap₂ (λ (b : Bool) (l : List ℕ). cond b (q ∷ l) l) (h q) (same_filter p r ids h)

only_in : (f : ℕ → Option ChunkSet) (q : ℕ) (t : Bool) → (t ≡ false → f q ≡ None) → cond t (f q) None ≡ f q
only_in f q true h = refl
only_in f q false h = sym (h refl)

pub live_count : (m : ℕ) (sets : finite.FinMap nat_cmp ChunkSet) (es : List Datagram) → ((q : ℕ) → while_live opened m (finite.get sets q) ≡ seen q m (opener_of q es))
    → finite.len (live_sets m sets) ≡ length (live_ids m es)
live_count m sets es are =
    let same : live_sets m sets ≡ finite.from_entries {R = nat_cmp} (entries_of (λ q. seen q m (opener_of q es)) (ids_in es)) = finite.same_map nat_cmp_total nat_cmp-IsAntisymmetric (live_sets m sets) (finite.from_entries (entries_of (λ q. seen q m (opener_of q es)) (ids_in es))) (λ q.
    finite.get-retain_keys sets (λ id. is_some (while_live opened m (finite.get sets id))) q (λ x e. ap (λ (id : ℕ). is_some (while_live opened m (finite.get sets id))) (sym (nat_cmp-IsAntisymmetric q x e)))
    ∙ live_kept opened m (finite.get sets q) ∙ are q
    ∙ sym (only_in (λ q. seen q m (opener_of q es)) q (list_any (λ i. q == i) (ids_in es)) (λ none. ap (seen q m) (no_opener q es none)))
    ∙ sym (find_entries (λ q. seen q m (opener_of q es)) (ids_in es) q)
    ∙ sym (finite.get-from_entries nat_cmp_total (entries_of (λ q. seen q m (opener_of q es)) (ids_in es)) q)) in
    ap finite.len same ∙ len_is (entries_of (λ q. seen q m (opener_of q es)) (ids_in es)) (distinct_entries (λ q. seen q m (opener_of q es)) (ids_in es) (ids_once es))
    ∙ length_entries (λ q. seen q m (opener_of q es)) (ids_in es)
    ∙ ap (λ (l : List ℕ). length l) (same_filter (λ q. is_some (seen q m (opener_of q es))) (λ q. is_live q m (opener_of q es)) (ids_in es) (λ q. some_seen q m (opener_of q es)))
