-- The pairs of a map of texts.
use Rattle.std.proofs.Common.{◌≡◌, ℕ, Bool, true, false, cond, List, [], ◌∷◌, map, ◌&&◌, Some, refl, sym, ap, ◌∙◌, String, Global}
use Rattle.std.specs.Prelude.{option_map}
use Rattle.std.specs.String.{string_bytes, string_eq, string_cmp}
use Rattle.std.specs.Str.{bytes_eq}
use Rattle.std.specs.Map.{lookup}
use Rattle.std.specs.List.{AllByRecursion}
use Rattle.std.specs.List.Sorted.{IsStrictlySortedBy}
use Rattle.std.specs.BTreeMap.{insert_entry}
use Rattle.std.specs.Ordering.{nat_cmp, is_eq, match_ordering}
use Rattle.std.specs.Cmp.Lexicographic.{slice_cmp, pointwise}
use Rattle.std.specs.declared.cmp.Ordering.{Ordering}
use Rattle.std.specs.declared.cmp.Ordering.TheVariants.{Less, Equal, Greater}
use Rattle.std.proofs.lemmas.Bool.{and_parts, and_from}
use Rattle.std.proofs.lemmas.Map.Text.{is_eq-slice_cmp}
use Rattle.std.proofs.lemmas.Slice.Eq.{bytes_eq-Decides}
use Rattle.gl_lookup.specs.Tables.{Pair, IsTable, with_pair}

abbrev Entry : Type 0
Entry = String Global × String Global

abbrev pub pair : Entry → Pair
pair entry = (string_bytes entry.0, string_bytes entry.1)

pub value_found : (key : List ℕ) (xs : List Entry) → lookup (λ k. bytes_eq key k) (map pair xs) ≡ option_map string_bytes (lookup (λ k. is_eq (slice_cmp nat_cmp key (string_bytes k))) xs)
value_found key [] = refl
value_found key (x ∷ xs) =
    ap (λ (b : Bool). cond b (Some (string_bytes x.1)) (lookup (λ k. bytes_eq key k) (map pair xs))) (sym (is_eq-slice_cmp key (string_bytes x.0)))
    ∙ by (is_eq (slice_cmp nat_cmp key (string_bytes x.0))) (value_found key xs)
  where
    by : (b : Bool) → lookup (λ k. bytes_eq key k) (map pair xs) ≡ option_map string_bytes (lookup (λ k. is_eq (slice_cmp nat_cmp key (string_bytes k))) xs)
        → cond b (Some (string_bytes x.1)) (lookup (λ k. bytes_eq key k) (map pair xs)) ≡ option_map string_bytes (cond b (Some x.1) (lookup (λ k. is_eq (slice_cmp nat_cmp key (string_bytes k))) xs))
    by true rest = refl
    by false rest = rest

pub pairs_put : (xs : List Entry) (key value : String Global) → map pair (insert_entry string_cmp xs key value) ≡ with_pair (map pair xs) (string_bytes key, string_bytes value)
pairs_put [] key value = refl
pairs_put (x ∷ xs) key value = by (string_cmp key x.0) refl (pairs_put xs key value)
  where
    by : (o : Ordering) → string_cmp key x.0 ≡ o → map pair (insert_entry string_cmp xs key value) ≡ with_pair (map pair xs) (string_bytes key, string_bytes value)
        → map pair (match_ordering o ((key, value) ∷ x ∷ xs) ((x.0, value) ∷ xs) (x ∷ insert_entry string_cmp xs key value))
        ≡ match_ordering (slice_cmp nat_cmp (string_bytes key) (string_bytes x.0)) ((string_bytes key, string_bytes value) ∷ map pair (x ∷ xs)) ((string_bytes x.0, string_bytes value) ∷ map pair xs) (pair x ∷ insert_entry (slice_cmp nat_cmp) (map pair xs) (string_bytes key) (string_bytes value))
    by Less e rest = rw e refl
    by Equal e rest = rw e refl
    by Greater e rest = rw e (ap (λ (l : List Pair). pair x ∷ l) rest)

abbrev pub same_entry : Entry → Entry → Bool
same_entry p q = string_eq p.0 q.0 && string_eq p.1 q.1

pub pairs_same : (xs ys : List Entry) → pointwise same_entry xs ys ≡ true → map pair xs ≡ map pair ys
pairs_same [] [] e = refl
pairs_same [] (y ∷ ys) e = cc
pairs_same (x ∷ xs) [] e = cc
pairs_same (x ∷ xs) (y ∷ ys) e =
    let all = and_parts (same_entry x y) (pointwise same_entry xs ys) e in
    let one = and_parts (string_eq x.0 y.0) (string_eq x.1 y.1) all.0 in
    λ i. ((bytes_eq-Decides (string_bytes x.0) (string_bytes y.0)).0 one.0 i, (bytes_eq-Decides (string_bytes x.1) (string_bytes y.1)).0 one.1 i) ∷ pairs_same xs ys all.1 i

first : List Pair → Pair
first [] = ([], [])
first (p ∷ ps) = p

others : List Pair → List Pair
others [] = []
others (p ∷ ps) = ps

pub same_pairs : (xs ys : List Entry) → map pair xs ≡ map pair ys → pointwise same_entry xs ys ≡ true
unfolding first others
same_pairs [] [] e = refl
same_pairs [] (y ∷ ys) e = absurd cc
same_pairs (x ∷ xs) [] e = absurd cc
same_pairs (x ∷ xs) (y ∷ ys) e =
    let one : pair x ≡ pair y = ap first e in
    let key : string_eq x.0 y.0 ≡ true = (bytes_eq-Decides (string_bytes x.0) (string_bytes y.0)).1 (ap (λ (p : Pair). p.0) one) in
    let value : string_eq x.1 y.1 ≡ true = (bytes_eq-Decides (string_bytes x.1) (string_bytes y.1)).1 (ap (λ (p : Pair). p.1) one) in
    and_from (same_entry x y) (pointwise same_entry xs ys) (and_from (string_eq x.0 y.0) (string_eq x.1 y.1) key value) (same_pairs xs ys (ap others e))

-- the keys' bytes rise as the keys do

below : (key : String Global) (entries : List Entry) → AllByRecursion (λ other. string_cmp key other ≡ Less) (map (λ entry. entry.0) entries)
    → AllByRecursion (λ other. slice_cmp nat_cmp (string_bytes key) other ≡ Less) (map (λ p. p.0) (map pair entries))
below key [] h = tt
below key (x ∷ xs) h = (h.0, below key xs h.1)

pub is_table : (entries : List Entry) → IsStrictlySortedBy string_cmp (map (λ entry. entry.0) entries) → IsTable (map pair entries)
unfolding IsStrictlySortedBy
is_table [] h = tt
is_table (x ∷ xs) h = (below x.0 xs h.0, is_table xs h.1)
