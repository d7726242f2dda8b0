-- Rows come and go: what is kept of the rows afterwards.
use Rattle.std.proofs.Common.{◌≡◌, ◌⊎◌, ⊎_elim, ℕ, zero, suc, ◌<◌, ◌==◌, Bool, true, false, cond, not, nat_lt, List, [], ◌∷◌, ◌++◌, filter, length, get_or, Contains, refl, sym, ap, ◌∙◌, subst, arith}
use Rattle.std.specs.List.{list_all}
use Rattle.std.proofs.lemmas.Bool.{and_from, cases_order, cond-true, cond-false}
use Rattle.std.proofs.lemmas.Bool.Decides.{nat_tests}
use Rattle.std.proofs.lemmas.List.{append-nil, map-append, get_or_default}
use Rattle.std.proofs.lemmas.List.Elements.{All-head, All-tail, filter-append}
use Rattle.std.proofs.lemmas.List.Kept.{AllPairs-filter}
use Rattle.std.proofs.lemmas.List.Quantifiers.{all_pairs_push}
use Rattle.gl_indexset.specs.declared.row.Row.{Row}
use Rattle.gl_indexset.specs.Leaving.{without}
use Rattle.gl_indexset.specs.Rising.{AreBelow, AreRising}
use Rattle.gl_moments.specs.Inside.{AreKept, Changes}
use Rattle.gl_moments.specs.Minutes.{minute_of, rows_of}
use Rattle.gl_words.specs.Candidates.{positions}
use Rattle.gl_words.specs.Positions.{with_position, without_position}
use Rattle.gl_moments.proofs.Meeting.{tests_below}

abbrev is_of : ℕ → Row → Bool
is_of minute row = minute_of row == minute

differs : (a b : ℕ) → (a ≡ b → ⊥) → (a == b) ≡ false
differs a b h = grind (arith, nat_tests)

all_below : (test : Row → Bool) (position : ℕ) (rows : List Row) → AreBelow position rows → list_all (λ p. nat_lt p position) (positions (filter test rows)) ≡ true
all_below test position [] below = refl
all_below test position (r ∷ rows) below = over (test r) (all_below test position rows (All-tail (λ (row : Row). row.position < position) r rows below))
  where
    over : (b : Bool) → list_all (λ p. nat_lt p position) (positions (filter test rows)) ≡ true → list_all (λ p. nat_lt p position) (positions (cond b (r ∷ filter test rows) (filter test rows))) ≡ true
    over true rest = and_from (nat_lt r.position position) (list_all (λ p. nat_lt p position) (positions (filter test rows))) (tests_below r.position position (All-head (λ (row : Row). row.position < position) r rows below)) rest
    over false rest = rest

-- ---- a row comes
pub comes : (kept after : ℕ → List ℕ) (rows : List Row) (row : Row) → AreKept kept rows → AreBelow row.position rows → Changes (with_position row.position) (minute_of row) kept after → AreKept after (rows ++ row ∷ [])
comes kept after rows row h below change = record {
  rising = all_pairs_push (λ (a b : Row). a.position < b.position) rows row h.rising (λ k d lt. below k d lt);
  minutes = λ m.
      change m
      ∙ ap (λ (ps : List ℕ). cond (is_of m row) (with_position row.position ps) ps) (h.minutes m)
      ∙ one_more (is_of m) (is_of m row)
      ∙ sym (map-append (λ (r : Row). r.position) (rows_of m rows) (cond (is_of m row) (row ∷ []) []))
      ∙ sym (ap positions (filter-append (is_of m) rows (row ∷ [])));
}
  where
    one_more : (test : Row → Bool) (b : Bool) → cond b (with_position row.position (positions (filter test rows))) (positions (filter test rows)) ≡ positions (filter test rows) ++ positions (cond b (row ∷ []) [])
    one_more test true = cond-true (list_all (λ p. nat_lt p row.position) (positions (filter test rows))) (positions (filter test rows) ++ row.position ∷ []) (positions (filter test rows)) (all_below test row.position rows below)
    one_more test false = sym (append-nil (positions (filter test rows)))

-- ---- a row goes
filters_swap : (test : Row → Bool) (position : ℕ) (rows : List Row) → positions (filter test (without position rows)) ≡ without_position position (positions (filter test rows))
filters_swap test position [] = refl
filters_swap test position (r ∷ rows) = over (r.position == position) refl (test r) refl (filters_swap test position rows)
  where
    over : (a : Bool) → (r.position == position) ≡ a → (b : Bool) → test r ≡ b → positions (filter test (without position rows)) ≡ without_position position (positions (filter test rows))
        → positions (filter test (cond (not a) (r ∷ without position rows) (without position rows))) ≡ without_position position (positions (cond b (r ∷ filter test rows) (filter test rows)))
    over true at true is rest =
        rest ∙ sym (ap (λ (x : Bool). cond (not x) (r.position ∷ without_position position (positions (filter test rows))) (without_position position (positions (filter test rows)))) at)
    over true at false is rest = rest
    over false at true is rest =
        ap positions (cond-true (test r) (r ∷ filter test (without position rows)) (filter test (without position rows)) is)
        ∙ ap (λ (l : List ℕ). r.position ∷ l) rest
        ∙ sym (ap (λ (x : Bool). cond (not x) (r.position ∷ without_position position (positions (filter test rows))) (without_position position (positions (filter test rows)))) at)
    over false at false is rest =
        ap positions (cond-false (test r) (r ∷ filter test (without position rows)) (filter test (without position rows)) is)
        ∙ rest

not_there : (test : Row → Bool) (position : ℕ) (rows : List Row) → ((k : ℕ) (d : Row) → k < length rows → test (get_or rows k d) ≡ true → (get_or rows k d).position ≡ position → ⊥)
    → without_position position (positions (filter test rows)) ≡ positions (filter test rows)
not_there test position [] away = refl
not_there test position (r ∷ rows) away = over (test r) refl (not_there test position rows (λ k d lt. away (suc k) d (omega (arith, lt))))
  where
    over : (b : Bool) → test r ≡ b → without_position position (positions (filter test rows)) ≡ positions (filter test rows)
        → without_position position (positions (cond b (r ∷ filter test rows) (filter test rows))) ≡ positions (cond b (r ∷ filter test rows) (filter test rows))
    over true is rest =
        ap (λ (x : Bool). cond (not x) (r.position ∷ without_position position (positions (filter test rows))) (without_position position (positions (filter test rows)))) (differs r.position position (away zero r (omega arith) is))
        ∙ ap (λ (l : List ℕ). r.position ∷ l) rest
    over false is rest = rest

-- of rows in order only the row itself has its position
only_row : (rows : List Row) (row : Row) → AreRising rows → Contains rows row → (k : ℕ) (d : Row) → k < length rows → (get_or rows k d).position ≡ row.position → get_or rows k d ≡ row
only_row rows row rising held k d lt same = ⊎_elim
    (λ (e : k ≡ held.0). ap (λ j. get_or rows j d) e ∙ get_or_default rows held.0 d row held.1 ∙ held.2)
    (λ (apart : (k < held.0) ⊎ (held.0 < k)). ⊎_elim
    (λ (less : k < held.0).
    let it : get_or rows held.0 d ≡ row = get_or_default rows held.0 d row held.1 ∙ held.2 in
    let low : (get_or rows k d).position < row.position = subst (λ (r : Row). (get_or rows k d).position < r.position) it (rising k held.0 d less held.1) in
    absurd (omega (arith, low, same)))
    (λ (more : held.0 < k).
    let it : get_or rows held.0 d ≡ row = get_or_default rows held.0 d row held.1 ∙ held.2 in
    let high : row.position < (get_or rows k d).position = subst (λ (r : Row). r.position < (get_or rows k d).position) it (rising held.0 k d more lt) in
    absurd (omega (arith, high, same))) apart)
    (cases_order k held.0)

pub goes : (kept after : ℕ → List ℕ) (rows : List Row) (row : Row) → AreKept kept rows → Contains rows row → Changes (without_position row.position) (minute_of row) kept after → AreKept after (without row.position rows)
goes kept after rows row h held change = record {
  rising = AllPairs-filter (λ (a b : Row). a.position < b.position) (λ (r : Row). not (r.position == row.position)) rows h.rising;
  minutes = λ m.
      change m
      ∙ ap (λ (ps : List ℕ). cond (is_of m row) (without_position row.position ps) ps) (h.minutes m)
      ∙ one_less (is_of m) (is_of m row) refl
      ∙ sym (filters_swap (is_of m) row.position rows);
}
  where
    one_less : (test : Row → Bool) (b : Bool) → test row ≡ b → cond b (without_position row.position (positions (filter test rows))) (positions (filter test rows)) ≡ without_position row.position (positions (filter test rows))
    one_less test true is = refl
    one_less test false is = sym (not_there test row.position rows (λ k d lt has same.
        let it : test row ≡ true = sym (ap test (only_row rows row h.rising held k d lt same)) ∙ has in
        cc (it, is)))

-- ---- nothing is kept differently
pub stays : (kept after : ℕ → List ℕ) (rows : List Row) → AreKept kept rows → ((m : ℕ) → after m ≡ kept m) → AreKept after rows
stays kept after rows h same = record { rising = h.rising; minutes = λ m. same m ∙ h.minutes m }
