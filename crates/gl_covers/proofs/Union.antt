-- Two lists of positions are merged into those of the rows that have a term of one cover or of the other.
use Rattle.std.proofs.Common.{◌≡◌, ℕ, zero, suc, ◌+◌, ◌<◌, ◌≤◌, Bool, true, false, cond, nat_lt, ◌==◌, ◌||◌, List, [], ◌∷◌, ◌++◌, map, filter, length, get_or, Option, Some, None, refl, sym, ap, ◌∙◌, subst, arith, append_assoc}
use Rattle.std.proofs.lemmas.Bool.Decides.{nat_tests}
use Rattle.std.proofs.lemmas.List.{append-nil, length-map}
use Rattle.gl_indexset.specs.declared.row.Row.{Row}
use Rattle.gl_indexset.specs.Rising.{AreRising}
use Rattle.gl_words.specs.Candidates.{positions}
use Rattle.gl_words.specs.Texts.{shorter}
use Rattle.gl_covers.specs.Covers.{Terms, covered, has_one, joined, narrower, narrower_known}
use Rattle.gl_covers.specs.Suspects.{behind, found_by, least_of}
use Rattle.gl_covers.proofs.Covering.{one_of_both}

-- ---- the least at the front, and what stands behind it
pub least_none : (one other : List ℕ) → length one ≡ 0 → length other ≡ 0 → None ≡ least_of one other
least_none [] [] h k = refl
least_none [] (q ∷ qs) h k = absurd (omega arith)
least_none (p ∷ ps) other h k = absurd (omega arith)

pub least_second : (one other more : List ℕ) (q : ℕ) → length one ≡ 0 → other ≡ q ∷ more → Some q ≡ least_of one other
least_second [] other more q h is = sym (ap (least_of []) is)
least_second (p ∷ ps) other more q h is = absurd (omega arith)

pub least_first : (one other more : List ℕ) (p : ℕ) → one ≡ p ∷ more → length other ≡ 0 → Some p ≡ least_of one other
least_first one [] more p is h = sym (ap (λ ps. least_of ps []) is)
least_first one (q ∷ qs) more p is h = absurd (omega arith)

pub least_both : (one other more rest : List ℕ) (p q : ℕ) → one ≡ p ∷ more → other ≡ q ∷ rest → Some (cond (nat_lt q p) q p) ≡ least_of one other
least_both one other more rest p q is are = sym (ap (least_of one) are ∙ ap (λ ps. least_of ps (q ∷ rest)) is)

pub behind_none : (positions : List ℕ) (n : ℕ) → length positions ≡ 0 → positions ≡ behind n positions
behind_none [] n h = refl
behind_none (p ∷ ps) n h = absurd (omega arith)

pub behind_first : (positions rest : List ℕ) (p n : ℕ) → positions ≡ p ∷ rest → p ≡ n → rest ≡ behind n positions
behind_first positions rest p n is same = sym (ap (behind n) is ∙ over (p == n) (itself p n same))
  where
    itself : (a b : ℕ) → a ≡ b → (a == b) ≡ true
    itself a b h = grind (arith, nat_tests)

    over : (b : Bool) → b ≡ true → cond b rest (p ∷ rest) ≡ rest
    over true e = refl
    over false e = cc e

differs : (a b : ℕ) → (a ≡ b → ⊥) → (a == b) ≡ false
differs a b h = grind (arith, nat_tests)

pub behind_other : (positions rest : List ℕ) (p n : ℕ) → positions ≡ p ∷ rest → (p ≡ n → ⊥) → positions ≡ behind n positions
behind_other positions rest p n is apart = is ∙ sym (ap (behind n) is ∙ over (p == n) (differs p n apart))
  where
    over : (b : Bool) → b ≡ false → cond b rest (p ∷ rest) ≡ p ∷ rest
    over true e = cc e
    over false e = refl

-- ---- fewer are left
behind_less : (n : ℕ) (ps : List ℕ) → length (behind n ps) ≤ length ps
behind_less n [] = omega arith
behind_less n (p ∷ ps) = over (p == n)
  where
    over : (b : Bool) → length (cond b ps (p ∷ ps)) ≤ length (p ∷ ps)
    over true = omega arith
    over false = omega arith

behind_gone : (n p : ℕ) (ps : List ℕ) → p ≡ n → length (behind n (p ∷ ps)) < length (p ∷ ps)
behind_gone n p ps same = subst (λ (l : List ℕ). length l < length (p ∷ ps)) (behind_first (p ∷ ps) ps p n refl same) (omega arith)

pub fewer_left : (one other : List ℕ) (n : ℕ) → least_of one other ≡ Some n → length (behind n one) + length (behind n other) < length one + length other
fewer_left [] [] n is = cc is
fewer_left [] (q ∷ qs) n is =
    let same : q ≡ n = cc is in
    omega (arith, behind_gone n q qs same)
fewer_left (p ∷ ps) [] n is =
    let same : p ≡ n = cc is in
    omega (arith, behind_gone n p ps same)
fewer_left (p ∷ ps) (q ∷ qs) n is = over (nat_lt q p) is
  where
    over : (b : Bool) → Some (cond b q p) ≡ Some n → length (behind n (p ∷ ps)) + length (behind n (q ∷ qs)) < length (p ∷ ps) + length (q ∷ qs)
    over true is =
        let same : q ≡ n = cc is in
        omega (arith, behind_gone n q qs same, behind_less n (p ∷ ps))
    over false is =
        let same : p ≡ n = cc is in
        omega (arith, behind_gone n p ps same, behind_less n (q ∷ qs))

-- ---- rows in order
abbrev IsAbove : ℕ → List Row → Type 0
IsAbove n [] = Unit {0}
IsAbove n (row ∷ rows) = (n < row.position) × IsAbove n rows

above_from : (n : ℕ) (rows : List Row) → ((k : ℕ) (d : Row) → k < length rows → n < (get_or rows k d).position) → IsAbove n rows
above_from n [] h = tt
above_from n (row ∷ rows) h = (h zero row (omega arith), above_from n rows (λ k d lt. h (suc k) d (omega (arith, lt))))

above_first : (row : Row) (rows : List Row) → AreRising (row ∷ rows) → IsAbove row.position rows
above_first row rows rising = above_from row.position rows (λ k d lt. rising zero (suc k) d (omega arith) (omega (arith, lt)))

rising_rest : (row : Row) (rows : List Row) → AreRising (row ∷ rows) → AreRising rows
rising_rest row rows rising = λ i j d less lt. rising (suc i) (suc j) d (omega (arith, less)) (omega (arith, lt))

module _ (test : Row → Bool) where
  behind_stays : (n : ℕ) (rows : List Row) → IsAbove n rows → behind n (positions (filter test rows)) ≡ positions (filter test rows)
  behind_stays n [] above = refl
  behind_stays n (row ∷ rows) above = over (test row) (behind_stays n rows above.1)
    where
      over : (b : Bool) → behind n (positions (filter test rows)) ≡ positions (filter test rows)
          → behind n (positions (cond b (row ∷ filter test rows) (filter test rows))) ≡ positions (cond b (row ∷ filter test rows) (filter test rows))
      over true rest = sym (behind_other (row.position ∷ positions (filter test rows)) (positions (filter test rows)) row.position n refl (λ e. absurd (omega (arith, e, above.0))))
      over false rest = rest

  least_stays : (n : ℕ) (ps : List ℕ) (rows : List Row) → IsAbove n rows → least_of (n ∷ ps) (positions (filter test rows)) ≡ Some n
  least_stays n ps [] above = refl
  least_stays n ps (row ∷ rows) above = over (test row) (least_stays n ps rows above.1)
    where
      not_less : (a b : ℕ) → a < b → nat_lt b a ≡ false
      not_less a b h = grind (arith, nat_tests)

      pick : (b : Bool) → b ≡ false → Some (cond b row.position n) ≡ Some n
      pick true e = cc e
      pick false e = refl

      over : (b : Bool) → least_of (n ∷ ps) (positions (filter test rows)) ≡ Some n → least_of (n ∷ ps) (positions (cond b (row ∷ filter test rows) (filter test rows))) ≡ Some n
      over true rest = pick (nat_lt row.position n) (not_less n row.position above.0)
      over false rest = rest

  least_stays_second : (n : ℕ) (qs : List ℕ) (rows : List Row) → IsAbove n rows → least_of (positions (filter test rows)) (n ∷ qs) ≡ Some n
  least_stays_second n qs [] above = refl
  least_stays_second n qs (row ∷ rows) above = over (test row) (least_stays_second n qs rows above.1)
    where
      less : (a b : ℕ) → a < b → nat_lt a b ≡ true
      less a b h = grind (arith, nat_tests)

      pick : (b : Bool) → b ≡ true → Some (cond b n row.position) ≡ Some n
      pick true e = refl
      pick false e = cc e

      over : (b : Bool) → least_of (positions (filter test rows)) (n ∷ qs) ≡ Some n → least_of (positions (cond b (row ∷ filter test rows) (filter test rows))) (n ∷ qs) ≡ Some n
      over true rest = pick (nat_lt n row.position) (less n row.position above.0)
      over false rest = rest

-- ---- what is merged so far, and what is left
module _ (rows : List Row) (a b : Terms) where
  pub record IsMerging (found one other : List ℕ) : Type 0 where
    pub rest : List Row
    pub rising : AreRising rest
    pub one_is : one ≡ positions (covered rest a)
    pub other_is : other ≡ positions (covered rest b)
    pub so_far : found ++ positions (covered rest (a ++ b)) ≡ positions (covered rows (a ++ b))

  abbrev at_row : Bool → Row → Terms → List Row → List ℕ
  at_row here row terms rest = positions (cond here (row ∷ covered rest terms) (covered rest terms))

  joined_row : (x y : Bool) (row : Row) (rest : List Row) → has_one a row.fields ≡ x → has_one b row.fields ≡ y → positions (covered (row ∷ rest) (a ++ b)) ≡ at_row (x || y) row (a ++ b) rest
  joined_row x y row rest at is = ap (λ t. at_row t row (a ++ b) rest) (one_of_both a b row.fields ∙ ap (λ t. t || has_one b row.fields) at ∙ ap (λ t. x || t) is)

  pub more_merged : (found one other : List ℕ) (n : ℕ) → least_of one other ≡ Some n → IsMerging found one other → IsMerging (found ++ n ∷ []) (behind n one) (behind n other)
  more_merged found one other n least v = go v.rest v.rising v.one_is v.other_is v.so_far
    where
      moved : (row : Row) (rest : List Row) → row.position ≡ n → found ++ row.position ∷ positions (covered rest (a ++ b)) ≡ positions (covered rows (a ++ b))
          → (found ++ n ∷ []) ++ positions (covered rest (a ++ b)) ≡ positions (covered rows (a ++ b))
      moved row rest same all = append_assoc found (n ∷ []) (positions (covered rest (a ++ b))) ∙ ap (λ p. found ++ p ∷ positions (covered rest (a ++ b))) (sym same) ∙ all

      at_least : (o : Option ℕ) (p : ℕ) → o ≡ Some n → o ≡ Some p → p ≡ n
      at_least o p h k = cc (h, k)

      go : (rest : List Row) → AreRising rest → one ≡ positions (covered rest a) → other ≡ positions (covered rest b) → found ++ positions (covered rest (a ++ b)) ≡ positions (covered rows (a ++ b))
          → IsMerging (found ++ n ∷ []) (behind n one) (behind n other)
      go [] rising one_is other_is all = absurd (never (sym least ∙ ap (least_of one) other_is ∙ ap (λ ps. least_of ps []) one_is))
        where
          never : Some n ≡ None → ⊥
          never e = cc e
      go (row ∷ rest) rising one_is other_is all = over (has_one a row.fields) refl (has_one b row.fields) refl one_is other_is (λ h k e. go rest on h k e)
        where
          above : IsAbove row.position rest
          above = above_first row rest rising

          on : AreRising rest
          on = rising_rest row rest rising

          over : (x : Bool) → has_one a row.fields ≡ x → (y : Bool) → has_one b row.fields ≡ y → one ≡ at_row x row a rest → other ≡ at_row y row b rest
              → (one ≡ positions (covered rest a) → other ≡ positions (covered rest b) → found ++ positions (covered rest (a ++ b)) ≡ positions (covered rows (a ++ b)) → IsMerging (found ++ n ∷ []) (behind n one) (behind n other))
              → IsMerging (found ++ n ∷ []) (behind n one) (behind n other)
          over true at true is one_is other_is later =
              let here : least_of one other ≡ Some row.position = ap (least_of one) other_is ∙ ap (λ ps. least_of ps (row.position ∷ positions (covered rest b))) one_is ∙ same_twice (nat_lt row.position row.position) in
              let same : row.position ≡ n = at_least (least_of one other) row.position least here in
              record {
                rest = rest;
                rising = on;
                one_is = sym (behind_first one (positions (covered rest a)) row.position n one_is same);
                other_is = sym (behind_first other (positions (covered rest b)) row.position n other_is same);
                so_far = moved row rest same (ap (λ ps. found ++ ps) (sym (joined_row true true row rest at is)) ∙ all);
              }
            where
              same_twice : (t : Bool) → Some (cond t row.position row.position) ≡ Some row.position
              same_twice true = refl
              same_twice false = refl
          over true at false is one_is other_is later =
              let here : least_of one other ≡ Some row.position = ap (least_of one) other_is ∙ ap (λ ps. least_of ps (positions (covered rest b))) one_is ∙ least_stays (λ (r : Row). has_one b r.fields) row.position (positions (covered rest a)) rest above in
              let same : row.position ≡ n = at_least (least_of one other) row.position least here in
              record {
                rest = rest;
                rising = on;
                one_is = sym (behind_first one (positions (covered rest a)) row.position n one_is same);
                other_is = ap (behind n) other_is ∙ subst (λ m. behind m (positions (covered rest b)) ≡ positions (covered rest b)) same (behind_stays (λ (r : Row). has_one b r.fields) row.position rest above);
                so_far = moved row rest same (ap (λ ps. found ++ ps) (sym (joined_row true false row rest at is)) ∙ all);
              }
          over false at true is one_is other_is later =
              let here : least_of one other ≡ Some row.position = ap (least_of one) other_is ∙ ap (λ ps. least_of ps (row.position ∷ positions (covered rest b))) one_is ∙ least_stays_second (λ (r : Row). has_one a r.fields) row.position (positions (covered rest b)) rest above in
              let same : row.position ≡ n = at_least (least_of one other) row.position least here in
              record {
                rest = rest;
                rising = on;
                one_is = ap (behind n) one_is ∙ subst (λ m. behind m (positions (covered rest a)) ≡ positions (covered rest a)) same (behind_stays (λ (r : Row). has_one a r.fields) row.position rest above);
                other_is = sym (behind_first other (positions (covered rest b)) row.position n other_is same);
                so_far = moved row rest same (ap (λ ps. found ++ ps) (sym (joined_row false true row rest at is)) ∙ all);
              }
          over false at false is one_is other_is later =
              later one_is other_is (ap (λ ps. found ++ ps) (sym (joined_row false false row rest at is)) ∙ all)

  pub all_merged : (found one other : List ℕ) → least_of one other ≡ None → IsMerging found one other → found ≡ positions (covered rows (a ++ b))
  all_merged found one other least v = go v.rest v.one_is v.other_is v.so_far
    where
      never : (p : ℕ) (ps qs : List ℕ) → least_of (p ∷ ps) qs ≡ None → ⊥
      never p ps [] e = cc e
      never p ps (q ∷ qs) e = cc e

      never_second : (q : ℕ) (ps qs : List ℕ) → least_of ps (q ∷ qs) ≡ None → ⊥
      never_second q [] qs e = cc e
      never_second q (p ∷ ps) qs e = cc e

      go : (rest : List Row) → one ≡ positions (covered rest a) → other ≡ positions (covered rest b) → found ++ positions (covered rest (a ++ b)) ≡ positions (covered rows (a ++ b)) → found ≡ positions (covered rows (a ++ b))
      go [] one_is other_is all = sym (append-nil found) ∙ all
      go (row ∷ rest) one_is other_is all = over (has_one a row.fields) refl (has_one b row.fields) refl one_is other_is (λ h k e. go rest h k e)
        where
          over : (x : Bool) → has_one a row.fields ≡ x → (y : Bool) → has_one b row.fields ≡ y → one ≡ at_row x row a rest → other ≡ at_row y row b rest
              → (one ≡ positions (covered rest a) → other ≡ positions (covered rest b) → found ++ positions (covered rest (a ++ b)) ≡ positions (covered rows (a ++ b)) → found ≡ positions (covered rows (a ++ b)))
              → found ≡ positions (covered rows (a ++ b))
          over true at y is one_is other_is later = absurd (never row.position (positions (covered rest a)) other (ap (λ ps. least_of ps other) (sym one_is) ∙ least))
          over false at true is one_is other_is later = absurd (never_second row.position one (positions (covered rest b)) (ap (least_of one) (sym other_is) ∙ least))
          over false at false is one_is other_is later = later one_is other_is (ap (λ ps. found ++ ps) (sym (joined_row false false row rest at is)) ∙ all)

-- ---- where there are both
module _ (rows : List Row) where
  abbrev pub held : Terms → List ℕ
  held terms = positions (covered rows terms)

  shorter_is : (one other : Terms) → shorter (held one) (held other) ≡ held (narrower rows one other)
  shorter_is one other =
      ap (λ n. cond (nat_lt n (length (held one))) (held other) (held one)) (length-map (covered rows other) (λ (r : Row). r.position))
      ∙ ap (λ n. cond (nat_lt (length (covered rows other)) n) (held other) (held one)) (length-map (covered rows one) (λ (r : Row). r.position))
      ∙ over (nat_lt (length (covered rows other)) (length (covered rows one)))
    where
      over : (b : Bool) → cond b (held other) (held one) ≡ held (cond {A = Terms} b other one)
      over true = refl
      over false = refl

  pub narrower_none : (a b : Option Terms) (o other : Option (List ℕ)) → o ≡ None → o ≡ found_by rows a → other ≡ found_by rows b → other ≡ found_by rows (narrower_known rows a b)
  narrower_none None b o other none is are = are
  narrower_none (Some one) b o other none is are = cc (none, is)

  pub narrower_one : (a b : Option Terms) (one : List ℕ) (o other : Option (List ℕ)) → o ≡ Some one → other ≡ None → o ≡ found_by rows a → other ≡ found_by rows b → Some one ≡ found_by rows (narrower_known rows a b)
  narrower_one None b one o other some none is are = cc (some, is)
  narrower_one (Some x) None one o other some none is are = sym some ∙ is
  narrower_one (Some x) (Some y) one o other some none is are = cc (none, are)

  pub narrower_both : (a b : Option Terms) (one two found : List ℕ) (o other : Option (List ℕ)) → found ≡ shorter one two → o ≡ Some one → other ≡ Some two → o ≡ found_by rows a → other ≡ found_by rows b
      → Some found ≡ found_by rows (narrower_known rows a b)
  narrower_both None b one two found o other made some also_some is are = cc (some, is)
  narrower_both (Some x) None one two found o other made some also_some is are = cc (also_some, are)
  narrower_both (Some x) (Some y) one two found o other made some also_some is are =
      let e : one ≡ held x = cc (some, is) in
      let f : two ≡ held y = cc (also_some, are) in
      ap Some (made ∙ ap (λ ps. shorter ps two) e ∙ ap (shorter (held x)) f ∙ shorter_is x y)

  pub joined_none : (a b : Option Terms) (o : Option (List ℕ)) → o ≡ None → o ≡ found_by rows a → None ≡ found_by rows (joined a b)
  joined_none None b o none is = refl
  joined_none (Some x) b o none is = cc (none, is)

  pub joined_one : (a b : Option Terms) (o : Option (List ℕ)) → o ≡ None → o ≡ found_by rows b → None ≡ found_by rows (joined a b)
  joined_one None b o none is = refl
  joined_one (Some x) None o none is = refl
  joined_one (Some x) (Some y) o none is = cc (none, is)

  pub joined_both : (a b : Option Terms) (one two found : List ℕ) (o other : Option (List ℕ)) → o ≡ Some one → other ≡ Some two → o ≡ found_by rows a → other ≡ found_by rows b
      → ((x y : Terms) → one ≡ held x → two ≡ held y → found ≡ held (x ++ y)) → Some found ≡ found_by rows (joined a b)
  joined_both None b one two found o other some also_some is are made = cc (some, is)
  joined_both (Some x) None one two found o other some also_some is are made = cc (also_some, are)
  joined_both (Some x) (Some y) one two found o other some also_some is are made =
      let e : one ≡ held x = cc (some, is) in
      let f : two ≡ held y = cc (also_some, are) in
      ap Some (made x y e f)
