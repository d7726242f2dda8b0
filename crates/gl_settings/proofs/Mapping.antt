-- Maps of lookup tables, as the lists of their names and tables.
use Rattle.std.proofs.Common.{◌≡◌, ℕ, Bool, true, false, cond, List, [], ◌∷◌, ◌++◌, map, Option, Some, None, refl, sym, ap, ◌∙◌, subst, String, Global}
use Rattle.std.specs.Prelude.{is_some}
use Rattle.std.specs.String.{string_bytes, string_cmp, string_eq}
use Rattle.std.specs.Str.{bytes_eq}
use Rattle.std.specs.Map.{lookup}
use Rattle.std.specs.List.{AllByRecursion, AllZip}
use Rattle.std.specs.List.Sorted.{IsStrictlySortedBy}
use Rattle.std.specs.Cmp.{IsTotalOrder}
use Rattle.std.specs.BTreeMap.{insert_entry}
use Rattle.std.specs.Ordering.{nat_cmp, is_eq, match_ordering, ordering_reverse}
use Rattle.std.specs.Cmp.Lexicographic.{slice_cmp}
use Rattle.std.specs.declared.cmp.Ordering.{Ordering}
use Rattle.std.specs.declared.cmp.Ordering.TheVariants.{Less, Equal, Greater}
use Rattle.std.proofs.lemmas.List.{map-append}
use Rattle.std.proofs.lemmas.Cmp.{nat_list_cmp_total}
use Rattle.std.proofs.lemmas.Map.Text.{is_eq-slice_cmp}

-- what is found under a name, whatever is seen of it

seen : {X Y : Type 0} (f : X → Y) (key : List ℕ) (xs : List (String Global × X))
    → is_some (lookup (λ k. is_eq (slice_cmp nat_cmp key (string_bytes k))) xs) ≡ is_some (lookup (λ k. bytes_eq key k) (map {B = List ℕ × Y} (λ (e : String Global × X). (string_bytes e.0, f e.1)) xs))
seen f key [] = refl
seen f key (x ∷ xs) =
    by (is_eq (slice_cmp nat_cmp key (string_bytes x.0))) (seen f key xs)
    ∙ ap (λ (b : Bool). is_some (cond b (Some (f x.1)) (lookup (λ k. bytes_eq key k) (map {B = List ℕ × _} (λ (e : String Global × _). (string_bytes e.0, f e.1)) xs)))) (is_eq-slice_cmp key (string_bytes x.0))
  where
    by : (b : Bool) → is_some (lookup (λ k. is_eq (slice_cmp nat_cmp key (string_bytes k))) xs) ≡ is_some (lookup (λ k. bytes_eq key k) (map {B = List ℕ × _} (λ (e : String Global × _). (string_bytes e.0, f e.1)) xs))
        → is_some (cond b (Some x.1) (lookup (λ k. is_eq (slice_cmp nat_cmp key (string_bytes k))) xs)) ≡ is_some (cond b (Some (f x.1)) (lookup (λ k. bytes_eq key k) (map {B = List ℕ × _} (λ (e : String Global × _). (string_bytes e.0, f e.1)) xs)))
    by true rest = refl
    by false rest = rest

pub is_found : {X Y : Type 0} (f : X → Y) (key : List ℕ) (xs : List (String Global × X)) (o : Option X) → o ≡ lookup (λ k. is_eq (slice_cmp nat_cmp key (string_bytes k))) xs
    → is_some o ≡ is_some (lookup (λ k. bytes_eq key k) (map {B = List ℕ × Y} (λ (e : String Global × X). (string_bytes e.0, f e.1)) xs))
is_found f key xs o is = ap is_some is ∙ seen f key xs

abbrev pub Entry : Type 0 → Type 0
Entry X = String Global × X

abbrev pub entry : {X : Type 0} → Entry X → List ℕ × X
entry e = (string_bytes e.0, e.1)

pub tables_put : {X : Type 0} (xs : List (Entry X)) (key : String Global) (value : X) → map entry (insert_entry string_cmp xs key value) ≡ insert_entry (slice_cmp nat_cmp) (map entry xs) (string_bytes key) value
tables_put {X} [] key value = refl
tables_put {X} (x ∷ xs) key value = by (string_cmp key x.0) refl (tables_put xs key value)
  where
    by : (o : Ordering) → string_cmp key x.0 ≡ o → map entry (insert_entry string_cmp xs key value) ≡ insert_entry (slice_cmp nat_cmp) (map entry xs) (string_bytes key) value
        → map entry (match_ordering o ((key, value) ∷ x ∷ xs) ((x.0, value) ∷ xs) (x ∷ insert_entry string_cmp xs key value))
        ≡ match_ordering (slice_cmp nat_cmp (string_bytes key) (string_bytes x.0)) ((string_bytes key, value) ∷ map entry (x ∷ xs)) ((string_bytes x.0, value) ∷ map entry xs) (entry x ∷ insert_entry (slice_cmp nat_cmp) (map entry xs) (string_bytes key) value)
    by Less e rest = rw e refl
    by Equal e rest = rw e refl
    by Greater e rest = rw e (ap (λ (l : List (List ℕ × X)). entry x ∷ l) rest)

-- an entry behind all others

last_of : {X : Type 0} (xs : List (Entry X)) (x : Entry X) (rest : List (Entry X)) → IsStrictlySortedBy string_cmp (map (λ (e : Entry X). e.0) (xs ++ x ∷ rest)) → AllByRecursion (λ (e : Entry X). string_cmp x.0 e.0 ≡ Greater) xs
unfolding IsStrictlySortedBy
last_of {X} [] x rest s = tt
last_of {X} (y ∷ ys) x rest s = (nat_list_cmp_total.antisymm (string_bytes x.0) (string_bytes y.0) ∙ ap ordering_reverse (at ys s.0), last_of ys x rest s.1)
  where
    at : (zs : List (Entry X)) → AllByRecursion (λ k. string_cmp y.0 k ≡ Less) (map (λ (e : Entry X). e.0) (zs ++ x ∷ rest)) → string_cmp y.0 x.0 ≡ Less
    at [] h = h.0
    at (z ∷ zs) h = at zs h.1

put_last : {X : Type 0} (xs : List (Entry X)) (x : Entry X) → AllByRecursion (λ (e : Entry X). string_cmp x.0 e.0 ≡ Greater) xs → insert_entry (slice_cmp nat_cmp) (map entry xs) (string_bytes x.0) x.1 ≡ map entry (xs ++ x ∷ [])
put_last {X} [] x h = refl
put_last {X} (y ∷ ys) x h =
    ap (λ o. match_ordering o ((string_bytes x.0, x.1) ∷ map entry (y ∷ ys)) ((string_bytes y.0, x.1) ∷ map entry ys) (entry y ∷ insert_entry (slice_cmp nat_cmp) (map entry ys) (string_bytes x.0) x.1)) h.0
    ∙ ap (λ (l : List (List ℕ × X)). entry y ∷ l) (put_last ys x h.1)

pub copied_more : {X : Type 0} (all xs : List (Entry X)) (x : Entry X) (rest : List (Entry X)) → all ≡ xs ++ x ∷ rest → IsStrictlySortedBy string_cmp (map (λ (e : Entry X). e.0) all)
    → insert_entry (slice_cmp nat_cmp) (map entry xs) (string_bytes x.0) x.1 ≡ map entry (xs ++ x ∷ [])
copied_more {X} all xs x rest is s = put_last xs x (last_of xs x rest (subst (λ (es : List (Entry X)). IsStrictlySortedBy string_cmp (map (λ (e : Entry X). e.0) es)) is s))

-- patterns under the same names

abbrev pub pair : String Global × String Global → List ℕ × List ℕ
pair e = (string_bytes e.0, string_bytes e.1)

pub cloned : (xs ys : List (String Global × String Global)) → AllZip (λ p q. (string_bytes q.0 ≡ string_bytes p.0) × (string_bytes q.1 ≡ string_bytes p.1)) xs ys → map pair ys ≡ map pair xs
cloned [] [] h = refl
cloned [] (y ∷ ys) h = absurd h
cloned (x ∷ xs) [] h = absurd h
cloned (x ∷ xs) (y ∷ ys) h = λ i. (h.0.0 i, h.0.1 i) ∷ cloned xs ys h.1 i
