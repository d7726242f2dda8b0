-- Which names a list has, and how much of a table is left to be gone into.
use Rattle.std.proofs.Common.{◌≡◌, ◌⊎◌, ⊎_elim, inl, inr, ℕ, ◌+◌, ◌≤◌, Bool, true, false, cond, List, [], ◌∷◌, ◌++◌, length, Some, refl, sym, ap, subst, ◌∙◌, arith}
use Rattle.std.specs.Str.{bytes_eq}
use Rattle.std.proofs.lemmas.Bool.{cases_Bool, cond-true, cond-false, or_cases, or_left, or_right}
use Rattle.std.proofs.lemmas.List.Folds.{list_any-append}
use Rattle.std.proofs.lemmas.Slice.Eq.{bytes_eq-Decides}
use Rattle.gl_grok.specs.Names.{contains}
use Rattle.gl_grok.specs.Tables.{Table, pattern_in}

abbrev pub Names : Type 0
Names = List (List ℕ)

pub same_name : (a b : List ℕ) → bytes_eq a b ≡ true → a ≡ b
same_name a b e = (bytes_eq-Decides a b).0 e

pub itself : (a : List ℕ) → bytes_eq a a ≡ true
itself a = (bytes_eq-Decides a a).1 refl

pub has-left : (xs ys : Names) (q : List ℕ) → contains xs q ≡ true → contains (xs ++ ys) q ≡ true
has-left xs ys q h = list_any-append (λ other. bytes_eq q other) xs ys ∙ or_left (contains xs q) (contains ys q) h

pub has-right : (xs ys : Names) (q : List ℕ) → contains ys q ≡ true → contains (xs ++ ys) q ≡ true
has-right xs ys q h = list_any-append (λ other. bytes_eq q other) xs ys ∙ or_right (contains xs q) (contains ys q) h

pub has-either : (xs ys : Names) (q : List ℕ) → contains (xs ++ ys) q ≡ true → (contains xs q ≡ true) ⊎ (contains ys q ≡ true)
has-either xs ys q h = or_cases (contains xs q) (contains ys q) (sym (list_any-append (λ other. bytes_eq q other) xs ys) ∙ h)

pub has-one : (x q : List ℕ) → contains (x ∷ []) q ≡ true → q ≡ x
has-one x q h = ⊎_elim (λ e. same_name q x e) (λ e. absurd cc) (or_cases (bytes_eq q x) false h)

pub is-one : (x : List ℕ) → contains (x ∷ []) x ≡ true
is-one x = or_left (bytes_eq x x) false (itself x)

pub has-first : (x : List ℕ) (xs : Names) (q : List ℕ) → contains (x ∷ xs) q ≡ true → (q ≡ x) ⊎ (contains xs q ≡ true)
has-first x xs q h = ⊎_elim (λ e. inl (same_name q x e)) (λ e. inr e) (or_cases (bytes_eq q x) (contains xs q) h)

-- the weights of a table's patterns whose names are not among these

abbrev pub room : (List ℕ → ℕ) → Table → Names → ℕ
room w [] names = 0
room w (entry ∷ table) names = cond (contains names entry.0) 0 (w entry.1) + room w table names

abbrev pub one : List ℕ → ℕ
one pattern = 1

abbrev pub Grows : Names → Names → Type 0
Grows a b = (q : List ℕ) → contains a q ≡ true → contains b q ≡ true

weigh-less : (b c : Bool) (n : ℕ) → (b ≡ true → c ≡ true) → cond c 0 n ≤ cond b 0 n
weigh-less true c n h = let e : c ≡ true = h refl in rw e (omega arith)
weigh-less false true n h = omega arith
weigh-less false false n h = omega arith

pub room-less : (w : List ℕ → ℕ) (table : Table) (a b : Names) → Grows a b → room w table b ≤ room w table a
room-less w [] a b h = omega arith
room-less w (entry ∷ table) a b h =
    let first = weigh-less (contains a entry.0) (contains b entry.0) (w entry.1) (h entry.0) in
    let others = room-less w table a b h in
    omega arith

pub room-new : (w : List ℕ → ℕ) (table : Table) (names : Names) (name pattern : List ℕ) → contains names name ≡ false → pattern_in table name ≡ Some pattern → room w table (names ++ name ∷ []) + w pattern ≤ room w table names
room-new w [] names name pattern new e = absurd cc
room-new w (entry ∷ table) names name pattern new e = ⊎_elim
    (λ t.
    let same = same_name name entry.0 t in
    let found : Some entry.1 ≡ Some pattern = sym (cond-true (bytes_eq name entry.0) (Some entry.1) (pattern_in table name) t) ∙ e in
    let p : entry.1 ≡ pattern = cc in
    let before : contains names entry.0 ≡ false = subst (λ (n : List ℕ). contains names n ≡ false) same new in
    let after : contains (names ++ name ∷ []) entry.0 ≡ true = subst (λ (n : List ℕ). contains (names ++ name ∷ []) n ≡ true) same (has-right names (name ∷ []) name (is-one name)) in
    let others = room-less w table names (names ++ name ∷ []) (λ q. has-left names (name ∷ []) q) in
    let more : cond (contains names entry.0) 0 (w entry.1) ≡ w entry.1 = cond-false (contains names entry.0) 0 (w entry.1) before in
    let none : cond (contains (names ++ name ∷ []) entry.0) 0 (w entry.1) ≡ 0 = cond-true (contains (names ++ name ∷ []) entry.0) 0 (w entry.1) after in
    let weight : w entry.1 ≡ w pattern = ap w p in
    omega arith)
    (λ t.
    let found : pattern_in table name ≡ Some pattern = sym (cond-false (bytes_eq name entry.0) (Some entry.1) (pattern_in table name) t) ∙ e in
    let first = weigh-less (contains names entry.0) (contains (names ++ name ∷ []) entry.0) (w entry.1) (has-left names (name ∷ []) entry.0) in
    let others = room-new w table names name pattern new found in
    omega arith)
    (cases_Bool (bytes_eq name entry.0))

pub room-all : (table : Table) (names : Names) → room one table names ≤ length table
room-all [] names = omega arith
room-all (entry ∷ table) names =
    let others = room-all table names in
    let first : cond (contains names entry.0) 0 1 ≤ 1 = by (contains names entry.0) in
    omega arith
  where
    by : (b : Bool) → cond b 0 1 ≤ 1
    by true = omega arith
    by false = omega arith
