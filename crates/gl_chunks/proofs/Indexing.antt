-- The openings stay exactly those of the sets, and the first of them tells whether all sets are live.
use Rattle.std.proofs.Common.{◌≡◌, ◌≤◌, ◌<◌, ℕ, ◌+◌, Bool, true, false, cond, T, ◌&&◌, List, [], ◌∷◌, length, is_some, IfSome, Option, Some, None, refl, sym, ap, subst, ◌∙◌, ⊎_elim, arith}
use Rattle.std.specs.Prelude.{nat_le, ◌==◌}
use Rattle.std.specs.List.{filter, All}
use Rattle.std.specs.declared.cmp.Ordering.{Ordering}
use Rattle.std.specs.declared.cmp.Ordering.TheVariants.{Less, Equal, Greater}
use Rattle.std.specs.Ordering.{nat_cmp, ordering_then, eq_by_cmp, is_eq, is_gt}
use Rattle.std.specs.Cmp.{nat_cmp_total, eq_by_cmp_equiv}
use Rattle.std.specs.FinMap as finite
use Rattle.std.specs.Map.{lookup, keys_of, values_of}
use Rattle.std.specs.BTreeMap as tree
use Rattle.std.specs.BTreeMap.{is_at}
use Rattle.std.specs.BTreeSet as sorted
use Rattle.std.proofs.lemmas.List.Elements.{All-head, All-tail}
use Rattle.std.proofs.lemmas.Bool.{cases_eq}
use Rattle.std.proofs.lemmas.Map.Keys.{IsDistinct-from_sorted}
use Rattle.std.proofs.lemmas.Map.Entries.{length-values_of}
use Rattle.std.proofs.lemmas.Map.Views.{All-values_from_lookup}
use Rattle.std.proofs.lemmas.Bool.Decides.{nat_tests}
use Rattle.gl_chunks.specs.declared.chunk_set.ChunkSet.{ChunkSet}
use Rattle.gl_chunks.specs.declared.sets.Opening.{Opening}
use Rattle.gl_chunks.specs.Chunks.{opened, with_part, live_sets, Tells}
use Rattle.gl_chunks.specs.Openings.{opening_cmp, is_opened_at, IsIndexed, HasStale}
use Rattle.gl_chunks.proofs.Keeping.{few_pass, live_len_is}

filter-all : {X : Type 0} (p : X → Bool) (xs : List X) → All (λ (x : X). p x ≡ true) xs → filter p xs ≡ xs
filter-all p [] all = refl
filter-all {X} p (x ∷ xs) all =
    let first : p x ≡ true = All-head (λ (x : X). p x ≡ true) x xs all in
    let rest : filter p xs ≡ xs = filter-all p xs (All-tail (λ (x : X). p x ≡ true) x xs all) in
    rw first (ap (λ (l : List X). x ∷ l) rest)

-- ---- equal openings
then_is_eq : (o p : Ordering) → is_eq (ordering_then o p) ≡ (is_eq o && is_eq p)
then_is_eq Less p = refl
then_is_eq Equal p = refl
then_is_eq Greater p = refl

is_eq_nat : (a b : ℕ) → is_eq (nat_cmp a b) ≡ (a == b)
is_eq_nat a b = grind (arith, nat_tests)

same_nat : (a b : ℕ) → a ≡ b → (a == b) ≡ true
same_nat a b e = grind (arith, nat_tests, e)

other_nat : (a b : ℕ) → (a ≡ b → ⊥) → (a == b) ≡ false
other_nat a b ne = grind (arith, nat_tests, ne)

and_true : (b : Bool) → (b && true) ≡ b
and_true true = refl
and_true false = refl

and_false : (b : Bool) → (b && false) ≡ false
and_false true = refl
and_false false = refl

abbrev pub opening_of : ℕ → ℕ → Opening
opening_of moment id = record { opened = moment; id = id }

same_opening : (a o : Opening) → is_eq (opening_cmp a o) ≡ ((a.opened == o.opened) && (a.id == o.id))
same_opening a o =
    then_is_eq (nat_cmp a.opened o.opened) (nat_cmp a.id o.id)
    ∙ ap (λ (b : Bool). b && is_eq (nat_cmp a.id o.id)) (is_eq_nat a.opened o.opened) ∙ ap (λ (b : Bool). (a.opened == o.opened) && b) (is_eq_nat a.id o.id)

-- ---- one opening more or less
abbrev pub Puts : Opening → Bool → (Opening → Bool) → (Opening → Bool) → Type 0
Puts a b c d = (o : Opening) → d o ≡ cond (is_eq (opening_cmp a o)) b (c o)

-- at the openings of its own id, and at others
at_own_id : (moment id : ℕ) (b : Bool) (c d : Opening → Bool) → Puts (opening_of moment id) b c d → (m : ℕ) → d (opening_of m id) ≡ cond (moment == m) b (c (opening_of m id))
at_own_id moment id b c d put m =
    put (opening_of m id)
    ∙ ap (λ (same : Bool). cond same b (c (opening_of m id))) (same_opening (opening_of moment id) (opening_of m id) ∙ ap (λ (same : Bool). (moment == m) && same) (same_nat id id refl) ∙ and_true (moment == m))

at_others : (moment id : ℕ) (b : Bool) (c d : Opening → Bool) → Puts (opening_of moment id) b c d → (o : Opening) → (id ≡ o.id → ⊥) → d o ≡ c o
at_others moment id b c d put o ne =
    put o ∙ ap (λ (same : Bool). cond same b (c o)) (same_opening (opening_of moment id) o ∙ ap (λ (same : Bool). (moment == o.opened) && same) (other_nat id o.id ne) ∙ and_false (moment == o.opened))

-- the openings as a function, and the sets as one
abbrev pub Exact : (Opening → Bool) → (ℕ → Option ChunkSet) → Type 0
Exact c f = (o : Opening) → c o ≡ is_opened_at o.opened (f o.id)

abbrev pub Sets : ℕ → Option ChunkSet → (ℕ → Option ChunkSet) → (ℕ → Option ChunkSet) → Type 0
Sets id w f g = (q : ℕ) → g q ≡ cond (eq_by_cmp nat_cmp id q) w (f q)

set_here : (id : ℕ) (w : Option ChunkSet) (f g : ℕ → Option ChunkSet) → Sets id w f g → g id ≡ w
set_here id w f g set = set id ∙ ap (λ (b : Bool). cond b w (f id)) (is_eq_nat id id ∙ same_nat id id refl)

set_there : (id : ℕ) (w : Option ChunkSet) (f g : ℕ → Option ChunkSet) → Sets id w f g → (q : ℕ) → (id ≡ q → ⊥) → g q ≡ f q
set_there id w f g set q ne = set q ∙ ap (λ (b : Bool). cond b w (f q)) (is_eq_nat id q ∙ other_nat id q ne)

exact_by : (id : ℕ) (w : Option ChunkSet) (f g : ℕ → Option ChunkSet) (c d : Opening → Bool) → Sets id w f g → ((m : ℕ) → d (opening_of m id) ≡ is_opened_at m w) → ((o : Opening) → (id ≡ o.id → ⊥) → d o ≡ c o)
    → Exact c f → Exact d g
exact_by id w f g c d set own others exact = λ o. ⊎_elim
    (λ e. subst (λ (q : ℕ). d (opening_of o.opened q) ≡ is_opened_at o.opened (g q)) e (own o.opened ∙ sym (ap (is_opened_at o.opened) (set_here id w f g set))))
    (λ ne. others o ne ∙ exact o ∙ sym (ap (is_opened_at o.opened) (set_there id w f g set o.id ne)))
    (cases_eq id o.id)

cond_same : (b : Bool) → cond b false b ≡ false
cond_same true = refl
cond_same false = refl

cond_itself : (b : Bool) → cond b true false ≡ b
cond_itself true = refl
cond_itself false = refl

-- an opening is put in and taken out again
exact_back : (id moment : ℕ) (f : ℕ → Option ChunkSet) (c d e : Opening → Bool) → f id ≡ None → Puts (opening_of moment id) true c d → Puts (opening_of moment id) false d e → Exact c f → Exact e f
exact_back id moment f c d e none put out exact = exact_by id None f f c e
    (λ q. ⊎_elim (λ is. subst (λ (q : ℕ). f q ≡ cond (eq_by_cmp nat_cmp id q) None (f q)) is (elim (eq_by_cmp nat_cmp id id) as (λ b. f id ≡ cond b None (f id)) [ true ↦ none | false ↦ refl ]))
    (λ ne. sym (ap (λ (b : Bool). cond b None (f q)) (is_eq_nat id q ∙ other_nat id q ne))) (cases_eq id q))
    (λ m. at_own_id moment id false d e out m
    ∙ ap (λ (b : Bool). cond (moment == m) false b) (at_own_id moment id true c d put m ∙ ap (λ (b : Bool). cond (moment == m) true b) (exact (opening_of m id) ∙ ap (is_opened_at m) none) ∙ cond_itself (moment == m))
    ∙ cond_same (moment == m))
    (λ o ne. at_others moment id false d e out o ne ∙ at_others moment id true c d put o ne) exact

-- a chunk joins a set
exact_part : (id number : ℕ) (part : List ℕ) (set : ChunkSet) (f g : ℕ → Option ChunkSet) (c : Opening → Bool) → f id ≡ Some set → Sets id (Some (with_part set number part)) f g → Exact c f → Exact c g
exact_part id number part set f g c kept put exact = exact_by id (Some (with_part set number part)) f g c c put
    (λ m. exact (opening_of m id) ∙ ap (is_opened_at m) kept) (λ o ne. refl) exact

-- ---- the oldest
then_le : (a b : ℕ) (p : Ordering) → is_gt (ordering_then (nat_cmp a b) p) ≡ false → a ≤ b
then_le a b p h = grind (arith, nat_tests, h)

pub opened_le : (a b : Opening) → is_gt (opening_cmp a b) ≡ false → a.opened ≤ b.opened
opened_le a b h = then_le a.opened b.opened (nat_cmp a.id b.id) h

-- the opening of a set that is kept
pub has_opening : (openings : sorted.BTreeSet Opening) (sets : tree.BTreeMap ℕ ChunkSet) (id : ℕ) (set : ChunkSet) → IsIndexed openings sets → tree.get nat_cmp sets id ≡ Some set → sorted.contains opening_cmp openings (opening_of set.opened id) ≡ true
has_opening openings sets id set indexed kept = indexed.exact (opening_of set.opened id) ∙ ap (is_opened_at set.opened) kept ∙ same_nat set.opened set.opened refl

-- the set of an opening
found_at : (moment : ℕ) (o : Option ChunkSet) → is_opened_at moment o ≡ true → (set : ChunkSet) × (o ≡ Some set) × (set.opened ≡ moment)
found_at moment None e = absurd (subst T (sym e) tt)
found_at moment (Some set) e = let is : set.opened ≡ moment = grind (arith, nat_tests, e) in (set, refl, is)

of_opening : (openings : sorted.BTreeSet Opening) (sets : tree.BTreeMap ℕ ChunkSet) (o : Opening) → IsIndexed openings sets → sorted.contains opening_cmp openings o ≡ true
    → (set : ChunkSet) × (tree.get nat_cmp sets o.id ≡ Some set) × (set.opened ≡ o.opened)
of_opening openings sets o indexed has = found_at o.opened (tree.get nat_cmp sets o.id) (sym (indexed.exact o) ∙ has)

later_past : (now m a b : ℕ) → now ≤ m → a ≤ b → nat_le now (b + 5000) ≡ false → nat_le m (a + 5000) ≡ false
later_past now m a b le older past = grind (arith, nat_tests, le, older, past)

-- where the oldest is live, no set isn't
pub none_stale : (now : ℕ) (openings : sorted.BTreeSet Opening) (sets : tree.BTreeMap ℕ ChunkSet) (o : Opening) → IsIndexed openings sets → ((q : Opening) → sorted.contains opening_cmp openings q ≡ true → o.opened ≤ q.opened)
    → nat_le now (o.opened + 5000) ≡ true → HasStale now sets → ⊥
none_stale now openings sets o indexed least live stale =
    let older : o.opened ≤ stale.set.opened = least (opening_of stale.set.opened stale.id) (has_opening openings sets stale.id stale.set indexed stale.kept) in
    let past : nat_le now (o.opened + 5000) ≡ false = later_past now now o.opened stale.set.opened (omega arith) older stale.past in
    absurd (subst T (sym live ∙ past) tt)

-- where the oldest isn't live, its set isn't
oldest_stale : (now : ℕ) (openings : sorted.BTreeSet Opening) (sets : tree.BTreeMap ℕ ChunkSet) (o : Opening) → IsIndexed openings sets → sorted.contains opening_cmp openings o ≡ true → nat_le now (o.opened + 5000) ≡ false → HasStale now sets
oldest_stale now openings sets o indexed has past =
    let found = of_opening openings sets o indexed has in
    record { id = o.id; set = found.0; kept = found.1; past = ap (λ (n : ℕ). nat_le now (n + 5000)) found.2 ∙ past }

-- ---- how many are live
few_pass_where : (p : ChunkSet → Bool) (test : ℕ → Bool) (es : List (ℕ × ChunkSet)) (set : ChunkSet) → lookup test es ≡ Some set → p set ≡ false → length (filter p (values_of es)) < length es
few_pass_where p test [] set found past = absurd (subst T (ap is_some (sym found)) tt)
few_pass_where p test (e ∷ es) set found past =
    let rest = few_pass p (values_of es) in
    let as_many : length (values_of es) ≡ length es = length-values_of es in
    elim (test e.0) as (λ b. ◌≡◌ {A = Option ChunkSet} (cond b (Some e.1) (lookup test es)) (Some set) → length (cond (p e.1) (e.1 ∷ filter p (values_of es)) (filter p (values_of es))) < length (e ∷ es)) [
      | true ↦ λ h.
          let is_set : e.1 ≡ set = cc in
          subst (λ (b : Bool). length (cond b (e.1 ∷ filter p (values_of es)) (filter p (values_of es))) < length (e ∷ es)) (sym (ap p is_set ∙ past)) (omega (arith, rest, as_many))
      | false ↦ λ h.
          let fewer = few_pass_where p test es set h past in
          elim (p e.1) as (λ b. length (cond b (e.1 ∷ filter p (values_of es)) (filter p (values_of es))) < length (e ∷ es)) [ true ↦ omega (arith, fewer) | false ↦ omega (arith, fewer) ]
    ] found

if_some : {X : Type 0} (P : X → Type 0) (o : Option X) → ((x : X) → o ≡ Some x → P x) → IfSome o P
if_some P None h = tt
if_some P (Some x) h = h x refl

full_by_oldest : (now : ℕ) (openings : sorted.BTreeSet Opening) (sets : tree.BTreeMap ℕ ChunkSet) (o : Opening) (all : finite.FinMap nat_cmp ChunkSet) → tree.IsOrdered nat_cmp sets → IsIndexed openings sets
    → ((q : Opening) → sorted.contains opening_cmp openings q ≡ true → o.opened ≤ q.opened) → nat_le now (o.opened + 5000) ≡ true → 1024 ≤ length sets.entries → Tells opened now (tree.get nat_cmp sets) (finite.get all)
    → true ≡ nat_le 1024 (finite.len (live_sets now all))
full_by_oldest now openings sets o all ordered indexed least live many tells =
    let distinct = IsDistinct-from_sorted nat_cmp (keys_of sets.entries) ordered in
    let each : All (λ (set : ChunkSet). nat_le now (set.opened + 5000) ≡ true) (values_of sets.entries) = All-values_from_lookup (eq_by_cmp_equiv nat_cmp_total) (λ (set : ChunkSet). nat_le now (set.opened + 5000) ≡ true) sets.entries distinct
    (λ q. if_some (λ (set : ChunkSet). nat_le now (set.opened + 5000) ≡ true) (tree.get nat_cmp sets q) (λ set kept. elim (nat_le now (set.opened + 5000)) as (λ b. nat_le now (set.opened + 5000) ≡ b → b ≡ true) [
      | true ↦ λ e. refl
      | false ↦ λ e. absurd (none_stale now openings sets o indexed least live (record { id = q; set = set; kept = kept; past = e }))
    ] refl)) in
    let all_pass : length (filter (λ (set : ChunkSet). nat_le now (set.opened + 5000)) (tree.values sets)) ≡ length (tree.values sets) =
    ap (λ (sets : List ChunkSet). length sets) (filter-all (λ (set : ChunkSet). nat_le now (set.opened + 5000)) (values_of sets.entries) each) in
    let as_many : length (tree.values sets) ≡ length sets.entries = length-values_of sets.entries in
    let is = live_len_is now sets all ordered tells in
    let enough : 1024 ≤ finite.len (live_sets now all) = omega (arith, is, all_pass, as_many, many) in
    grind (arith, nat_tests, enough)

room_by_stale : (now : ℕ) (sets : tree.BTreeMap ℕ ChunkSet) (all : finite.FinMap nat_cmp ChunkSet) → tree.IsOrdered nat_cmp sets → length sets.entries ≤ 1024 → HasStale now sets → Tells opened now (tree.get nat_cmp sets) (finite.get all)
    → false ≡ nat_le 1024 (finite.len (live_sets now all))
room_by_stale now sets all ordered few stale tells =
    let fewer = few_pass_where (λ (set : ChunkSet). nat_le now (set.opened + 5000)) (is_at (nat_cmp stale.id)) sets.entries stale.set stale.kept stale.past in
    let is = live_len_is now sets all ordered tells in
    let below : finite.len (live_sets now all) < 1024 = omega (arith, is, fewer, few) in
    grind (arith, nat_tests, below)

-- ---- each change
pub indexed_part : (id number : ℕ) (part : List ℕ) (openings : sorted.BTreeSet Opening) (a b : tree.BTreeMap ℕ ChunkSet) → ((set : ChunkSet) → tree.get nat_cmp a id ≡ Some set → Sets id (Some (with_part set number part)) (tree.get nat_cmp a) (tree.get nat_cmp b))
    → (tree.get nat_cmp a id ≡ None → tree.IsUnchanged a b) → IsIndexed openings a → IsIndexed openings b
indexed_part id number part openings a b put none indexed = elim (tree.get nat_cmp a id) as (λ o. tree.get nat_cmp a id ≡ o → IsIndexed openings b) [
  | None ↦ λ e. record { exact = λ o. indexed.exact o ∙ ap (λ (es : List (ℕ × ChunkSet)). is_opened_at o.opened (lookup (is_at (nat_cmp o.id)) es)) (sym (none e)) }
  | Some set ↦ λ e. record { exact = exact_part id number part set (tree.get nat_cmp a) (tree.get nat_cmp b) (sorted.contains opening_cmp openings) e (put set e) indexed.exact }
] refl

pub indexed_back : (id moment : ℕ) (x y z : sorted.BTreeSet Opening) (a b : tree.BTreeMap ℕ ChunkSet) → tree.get nat_cmp a id ≡ None → Puts (opening_of moment id) true (sorted.contains opening_cmp x) (sorted.contains opening_cmp y)
    → Puts (opening_of moment id) false (sorted.contains opening_cmp y) (sorted.contains opening_cmp z) → tree.IsUnchanged a b → IsIndexed x a → IsIndexed z b
indexed_back id moment x y z a b none put out same indexed = record {
  exact = λ o.
      exact_back id moment (tree.get nat_cmp a) (sorted.contains opening_cmp x) (sorted.contains opening_cmp y) (sorted.contains opening_cmp z) none put out indexed.exact o
      ∙ ap (λ (es : List (ℕ × ChunkSet)). is_opened_at o.opened (lookup (is_at (nat_cmp o.id)) es)) (sym same);
}

-- ---- whether the table is full
first_kept : (es : List (ℕ × ChunkSet)) → 0 < length es → (id : ℕ) × (set : ChunkSet) × (lookup (is_at (nat_cmp id)) es ≡ Some set)
first_kept [] some = absurd (omega (arith, some))
first_kept (e ∷ es) some = (e.0, e.1, ap (λ (b : Bool). cond b (Some e.1) (lookup (is_at (nat_cmp e.0)) es)) (is_eq_nat e.0 e.0 ∙ same_nat e.0 e.0 refl))

pub none_without_oldest : (openings : sorted.BTreeSet Opening) (sets : tree.BTreeMap ℕ ChunkSet) → IsIndexed openings sets → ((q : Opening) → sorted.contains opening_cmp openings q ≡ true → ⊥) → 1024 ≤ length sets.entries → ⊥
none_without_oldest openings sets indexed none many =
    let first = first_kept sets.entries (omega (arith, many)) in
    none (opening_of first.1.opened first.0) (has_opening openings sets first.0 first.1 indexed first.2)

pub full_is_oldest : (now : ℕ) (b : Bool) (openings : sorted.BTreeSet Opening) (sets : tree.BTreeMap ℕ ChunkSet) (o : Opening) → tree.IsOrdered nat_cmp sets → IsIndexed openings sets → length sets.entries ≤ 1024 → 1024 ≤ length sets.entries
    → sorted.contains opening_cmp openings o ≡ true → ((q : Opening) → sorted.contains opening_cmp openings q ≡ true → o.opened ≤ q.opened) → b ≡ nat_le now (o.opened + 5000)
    → (all : finite.FinMap nat_cmp ChunkSet) → Tells opened now (tree.get nat_cmp sets) (finite.get all) → b ≡ nat_le 1024 (finite.len (live_sets now all))
full_is_oldest now true openings sets o ordered indexed few many has least is all tells = full_by_oldest now openings sets o all ordered indexed least (sym is) many tells
full_is_oldest now false openings sets o ordered indexed few many has least is all tells = room_by_stale now sets all ordered few (oldest_stale now openings sets o indexed has (sym is)) tells
