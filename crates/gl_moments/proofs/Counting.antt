-- How many of the positions of rows pass a test, where the rows are chosen by two tests of which no row passes both.
use Rattle.std.proofs.Common.{◌≡◌, ◌⊎◌, ⊎_elim, inl, inr, ℕ, ◌+◌, ◌==◌, Bool, true, false, cond, List, [], ◌∷◌, filter, length, refl, ap, ◌∙◌, arith}
use Rattle.std.specs.List.{count_by}
use Rattle.std.proofs.lemmas.Bool.Decides.{nat_tests}
use Rattle.std.proofs.lemmas.List.Sums.{sum_by-cons}
use Rattle.gl_indexset.specs.declared.row.Row.{Row}
use Rattle.gl_moments.specs.Minutes.{minute_of, rows_of}
use Rattle.gl_words.specs.Candidates.{positions}

abbrev pub one : Bool → ℕ
one b = cond b 1 0

-- how many of the positions of the rows that pass a test pass another
abbrev pub counted : (ℕ → Bool) → (Row → Bool) → List Row → ℕ
counted test chosen rows = count_by test (positions (filter chosen rows))

pub count_more : (test : ℕ → Bool) (n : ℕ) (ns : List ℕ) → count_by test (n ∷ ns) ≡ one (test n) + count_by test ns
count_more test n ns = sum_by-cons (λ x. cond (test x) 1 0) n ns

pub count_all : (ns : List ℕ) → count_by (λ _. true) ns ≡ length ns
count_all [] = refl
count_all (n ∷ ns) = count_more (λ _. true) n ns ∙ ap (λ (k : ℕ). 1 + k) (count_all ns) ∙ omega arith

counted_more : (test : ℕ → Bool) (r : Row) (rows : List Row) (b : Bool) → count_by test (positions (cond b (r ∷ rows) rows)) ≡ cond b (one (test r.position)) 0 + count_by test (positions rows)
counted_more test r rows true = count_more test r.position (positions rows)
counted_more test r rows false = omega arith

pub counted_both : (test : ℕ → Bool) (a b c : Row → Bool) (rows : List Row) → ((row : Row) → one (a row) + one (b row) ≡ one (c row)) → counted test a rows + counted test b rows ≡ counted test c rows
counted_both test a b c [] h = refl
counted_both test a b c (r ∷ rows) h = over (a r) (b r) (c r) (h r) (one (test r.position)) (counted test a rows) (counted test b rows) (counted test c rows)
    (counted_both test a b c rows h)
    (counted_more test r (filter a rows) (a r)) (counted_more test r (filter b rows) (b r)) (counted_more test r (filter c rows) (c r))
  where
    over : (s t u : Bool) → one s + one t ≡ one u → (more x y z : ℕ) → x + y ≡ z → {x' y' z' : ℕ} → x' ≡ cond s more 0 + x → y' ≡ cond t more 0 + y → z' ≡ cond u more 0 + z → x' + y' ≡ z'
    over true true true e more x y z h i j k = absurd (omega (arith, e))
    over true true false e more x y z h i j k = absurd (omega (arith, e))
    over true false true e more x y z h i j k = omega (arith, h, i, j, k)
    over true false false e more x y z h i j k = absurd (omega (arith, e))
    over false true true e more x y z h i j k = omega (arith, h, i, j, k)
    over false true false e more x y z h i j k = absurd (omega (arith, e))
    over false false true e more x y z h i j k = absurd (omega (arith, e))
    over false false false e more x y z h i j k = omega (arith, h, i, j, k)

-- ---- rows whose minute has none aren't there
has_itself : (r : Row) (rows : List Row) → positions (rows_of (minute_of r) (r ∷ rows)) ≡ [] → ⊥
has_itself r rows none = over (minute_of r == minute_of r) (grind (arith, nat_tests)) none
  where
    over : (b : Bool) → b ≡ true → positions (cond b (r ∷ rows_of (minute_of r) rows) (rows_of (minute_of r) rows)) ≡ [] → ⊥
    over true e h = cc h
    over false e h = cc e

none_behind : (m : ℕ) (r : Row) (rows : List Row) → positions (rows_of m (r ∷ rows)) ≡ [] → positions (rows_of m rows) ≡ []
none_behind m r rows none = over (minute_of r == m) none
  where
    over : (b : Bool) → positions (cond b (r ∷ rows_of m rows) (rows_of m rows)) ≡ [] → positions (rows_of m rows) ≡ []
    over true h = cc h
    over false h = h

-- two tests choose the same rows where they answer alike for each minute that has rows
pub same_rows : (a b : Row → Bool) (rows : List Row) → ((row : Row) → (a row ≡ b row) ⊎ (positions (rows_of (minute_of row) rows) ≡ [])) → filter a rows ≡ filter b rows
same_rows a b [] h = refl
same_rows a b (r ∷ rows) h =
    let alike : a r ≡ b r = ⊎_elim (λ (e : a r ≡ b r). e) (λ (none : positions (rows_of (minute_of r) (r ∷ rows)) ≡ []). absurd (has_itself r rows none)) (h r) in
    let rest : filter a rows ≡ filter b rows = same_rows a b rows (λ row.
    ⊎_elim (λ (e : a row ≡ b row). inl e) (λ (none : positions (rows_of (minute_of row) (r ∷ rows)) ≡ []). inr (none_behind (minute_of row) r rows none)) (h row)) in
    ap (λ (x : Bool). cond x (r ∷ filter a rows) (filter a rows)) alike ∙ ap (λ (l : List Row). cond (b r) (r ∷ l) l) rest
