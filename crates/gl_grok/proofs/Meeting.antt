-- Names met from the left, and names reached.
use Rattle.std.proofs.Common.{◌≡◌, ◌⊎◌, ⊎_elim, inl, inr, ℕ, zero, suc, ◌+◌, ◌<◌, Bool, true, false, cond, List, [], ◌∷◌, ◌++◌, length, fold, Option, Some, None, refl, sym, ap, subst, ◌∙◌, arith}
use Rattle.std.specs.Prelude.{unwrap_or}
use Rattle.std.proofs.lemmas.Bool.{cases_Bool, cases_lt, cond-true, cond-false}
use Rattle.gl_grok.specs.Names.{contains, Reaches, refers, through, met, names_met}
use Rattle.gl_grok.specs.Pieces.{names_in}
use Rattle.gl_grok.specs.Tables.{Table, pattern_in, pattern_of}
use Rattle.gl_grok.proofs.Rooms.{Names, Grows, has-left, has-right, has-either, has-one, is-one, has-first, room, one, room-less, room-new, room-all}

either : (P : Names → Type 0) (t : Bool) (x y : Names) → (t ≡ true → P x) → (t ≡ false → P y) → P (cond t x y)
either P true x y p q = p refl
either P false x y p q = q refl

unless : (t : Bool) (x y z : Names) → (t ≡ false → y ≡ z) → cond t x y ≡ cond t x z
unless true x y z h = refl
unless false x y z h = h refl

fold-keeps : (f : Names → List ℕ → Names) → ((names : Names) (name : List ℕ) → Grows names (f names name)) → (xs names : Names) → Grows names (fold f names xs)
fold-keeps f keeps [] names q h = h
fold-keeps f keeps (x ∷ xs) names q h = fold-keeps f keeps xs (f names x) q (keeps names x q h)

module _ (table : Table) where
  pub met-keeps : (d : ℕ) (names : Names) (name : List ℕ) → Grows names (met table d names name)
  met-keeps zero names name q h = h
  met-keeps (suc d) names name q h = either (λ (r : Names). contains r q ≡ true) (contains names name) names (fold (met table d) (names ++ name ∷ []) (names_in (pattern_of table name)))
      (λ t. h) (λ t. fold-keeps (met table d) (met-keeps d) (names_in (pattern_of table name)) (names ++ name ∷ []) q (has-left names (name ∷ []) q h))

  fold-more : (d : ℕ) → ((names : Names) (name : List ℕ) → room one table names < d → met table d names name ≡ met table (suc d) names name)
      → (xs names : Names) → room one table names < d → fold (met table d) names xs ≡ fold (met table (suc d)) names xs
  fold-more d more [] names lt = refl
  fold-more d more (x ∷ xs) names lt =
      let less = room-less one table names (met table (suc d) names x) (met-keeps (suc d) names x) in
      ap (λ (r : Names). fold (met table d) r xs) (more names x lt) ∙ fold-more d more xs (met table (suc d) names x) (omega arith)

  met-more : (d : ℕ) (names : Names) (name : List ℕ) → room one table names < d → met table d names name ≡ met table (suc d) names name
  met-more zero names name lt = absurd (omega arith)
  met-more (suc d) names name lt = unless (contains names name) names (fold (met table d) (names ++ name ∷ []) (names_in (pattern_of table name))) (fold (met table (suc d)) (names ++ name ∷ []) (names_in (pattern_of table name)))
      (λ new. by new (met-more d) (pattern_in table name) refl)
    where
      by : contains names name ≡ false → ((ns : Names) (n : List ℕ) → room one table ns < d → met table d ns n ≡ met table (suc d) ns n)
          → (o : Option (List ℕ)) → pattern_in table name ≡ o → fold (met table d) (names ++ name ∷ []) (names_in (unwrap_or o [])) ≡ fold (met table (suc d)) (names ++ name ∷ []) (names_in (unwrap_or o []))
      by new more None e = refl
      by new more (Some pattern) e =
          let less = room-new one table names name pattern new e in
          fold-more d more (names_in pattern) (names ++ name ∷ []) (omega arith)

  -- any depth that is enough gives the same names
  pub names-deeper : (d : ℕ) (xs : Names) → length table < d → fold (met table d) [] xs ≡ fold (met table (length table + 1)) [] xs
  names-deeper zero xs lt = absurd (omega arith)
  names-deeper (suc d) xs lt = ⊎_elim
      (λ more. let all = room-all table [] in sym (fold-more d (met-more d) xs [] (omega arith)) ∙ names-deeper d xs more)
      (λ least. let e : suc d ≡ length table + 1 = omega arith in ap (λ (n : ℕ). fold (met table n) [] xs) e)
      (cases_lt (length table) d)

  abbrev pub visit : Names → List ℕ → Names
  visit names name = met table (length table + 1) names name

  pub visit-turn : (names : Names) (name : List ℕ) → visit names name ≡ cond (contains names name) names (fold visit (names ++ name ∷ []) (names_in (pattern_of table name)))
  visit-turn names name = let all = room-all table names in met-more (length table + 1) names name (omega arith)

  pub visit-old : (names : Names) (name : List ℕ) → contains names name ≡ true → visit names name ≡ names
  visit-old names name h = visit-turn names name ∙ cond-true (contains names name) names (fold visit (names ++ name ∷ []) (names_in (pattern_of table name))) h

  pub visit-new : (names : Names) (name : List ℕ) → contains names name ≡ false → visit names name ≡ fold visit (names ++ name ∷ []) (names_in (pattern_of table name))
  visit-new names name h = visit-turn names name ∙ cond-false (contains names name) names (fold visit (names ++ name ∷ []) (names_in (pattern_of table name))) h

  -- each name met is reached

  abbrev AllReached : List ℕ → Names → Type 0
  AllReached text names = (q : List ℕ) → contains names q ≡ true → Reaches table text q

  one_more : (text : List ℕ) (names : Names) (name : List ℕ) → AllReached text names → Reaches table text name → AllReached text (names ++ name ∷ [])
  one_more text names name h r q e = ⊎_elim (λ l. h q l) (λ l. subst (λ (n : List ℕ). Reaches table text n) (sym (has-one name q l)) r) (has-either names (name ∷ []) q e)

  fold-reached : (text : List ℕ) (d : ℕ) → ((names : Names) (name : List ℕ) → AllReached text names → Reaches table text name → AllReached text (met table d names name))
      → (xs names : Names) → AllReached text names → AllReached text xs → AllReached text (fold (met table d) names xs)
  fold-reached text d each [] names h g = h
  fold-reached text d each (x ∷ xs) names h g =
      fold-reached text d each xs (met table d names x) (each names x h (g x (has-left (x ∷ []) xs x (is-one x)))) (λ q e. g q (has-right (x ∷ []) xs q e))

  met-reached : (text : List ℕ) (d : ℕ) (names : Names) (name : List ℕ) → AllReached text names → Reaches table text name → AllReached text (met table d names name)
  met-reached text zero names name h r = h
  met-reached text (suc d) names name h r = either (AllReached text) (contains names name) names (fold (met table d) (names ++ name ∷ []) (names_in (pattern_of table name)))
      (λ t. h) (λ t. fold-reached text d (met-reached text d) (names_in (pattern_of table name)) (names ++ name ∷ []) (one_more text names name h r) (λ q e. through r e))

  pub met_is_reached : (text q : List ℕ) → contains (names_met table text) q ≡ true → Reaches table text q
  met_is_reached text = fold-reached text (length table + 1) (met-reached text (length table + 1)) (names_in text) [] (λ q e. absurd cc) (λ q e. refers e)

  -- each name reached is met

  abbrev Closed : Names → Names → Type 0
  Closed names ahead = (m q : List ℕ) → contains names m ≡ true → contains (names_in (pattern_of table m)) q ≡ true → (contains names q ≡ true) ⊎ (contains ahead q ≡ true)

  fold-closed : (d : ℕ) → ((names : Names) (name : List ℕ) (ahead : Names) → room one table names < d → Closed names (name ∷ ahead) → Closed (met table d names name) ahead)
      → (xs names ahead : Names) → room one table names < d → Closed names (xs ++ ahead) → Closed (fold (met table d) names xs) ahead
  fold-closed d each [] names ahead lt h = h
  fold-closed d each (x ∷ xs) names ahead lt h =
      let less = room-less one table names (met table d names x) (met-keeps d names x) in
      fold-closed d each xs (met table d names x) ahead (omega arith) (each names x (xs ++ ahead) lt h)

  closed-old : (names : Names) (name : List ℕ) (ahead : Names) → contains names name ≡ true → Closed names (name ∷ ahead) → Closed names ahead
  closed-old names name ahead old h m q a b = ⊎_elim (λ l. inl l)
      (λ l. ⊎_elim (λ e. inl (subst (λ (n : List ℕ). contains names n ≡ true) (sym e) old)) (λ r. inr r) (has-first name ahead q l))
      (h m q a b)

  closed-new : (names : Names) (name : List ℕ) (ahead : Names) → Closed names (name ∷ ahead) → Closed (names ++ name ∷ []) (names_in (pattern_of table name) ++ ahead)
  closed-new names name ahead h m q a b = ⊎_elim
      (λ l. ⊎_elim
      (λ g. inl (has-left names (name ∷ []) q g))
      (λ g. ⊎_elim
      (λ e. inl (subst (λ (n : List ℕ). contains (names ++ name ∷ []) n ≡ true) (sym e) (has-right names (name ∷ []) name (is-one name))))
      (λ r. inr (has-right (names_in (pattern_of table name)) ahead q r))
      (has-first name ahead q g))
      (h m q l b))
      (λ l. inr (has-left (names_in (pattern_of table name)) ahead q (subst (λ (n : List ℕ). contains (names_in (pattern_of table n)) q ≡ true) (has-one name m l) b)))
      (has-either names (name ∷ []) m a)

  met-closed : (d : ℕ) (names : Names) (name : List ℕ) (ahead : Names) → room one table names < d → Closed names (name ∷ ahead) → Closed (met table d names name) ahead
  met-closed zero names name ahead lt h = absurd (omega arith)
  met-closed (suc d) names name ahead lt h = either (λ (r : Names). Closed r ahead) (contains names name) names (fold (met table d) (names ++ name ∷ []) (names_in (pattern_of table name)))
      (λ old. closed-old names name ahead old h) (λ new. by new (met-closed d) (pattern_in table name) refl (closed-new names name ahead h))
    where
      by : contains names name ≡ false → ((ns : Names) (n : List ℕ) (later : Names) → room one table ns < d → Closed ns (n ∷ later) → Closed (met table d ns n) later)
          → (o : Option (List ℕ)) → pattern_in table name ≡ o → Closed (names ++ name ∷ []) (names_in (unwrap_or o []) ++ ahead) → Closed (fold (met table d) (names ++ name ∷ []) (names_in (unwrap_or o []))) ahead
      by new each None e g = g
      by new each (Some pattern) e g =
          let less = room-new one table names name pattern new e in
          fold-closed d each (names_in pattern) (names ++ name ∷ []) ahead (omega arith) g

  visit-has : (names : Names) (name : List ℕ) → contains (visit names name) name ≡ true
  visit-has names name = ⊎_elim
      (λ old. subst (λ (r : Names). contains r name ≡ true) (sym (visit-old names name old)) old)
      (λ new. subst (λ (r : Names). contains r name ≡ true) (sym (visit-new names name new))
      (fold-keeps visit (met-keeps (length table + 1)) (names_in (pattern_of table name)) (names ++ name ∷ []) name (has-right names (name ∷ []) name (is-one name))))
      (cases_Bool (contains names name))

  fold-has : (xs names : Names) (q : List ℕ) → contains xs q ≡ true → contains (fold visit names xs) q ≡ true
  fold-has [] names q h = absurd cc
  fold-has (x ∷ xs) names q h = ⊎_elim
      (λ e. fold-keeps visit (met-keeps (length table + 1)) xs (visit names x) q (subst (λ (n : List ℕ). contains (visit names x) n ≡ true) (sym e) (visit-has names x)))
      (λ l. fold-has xs (visit names x) q l)
      (has-first x xs q h)

  all-closed : (text : List ℕ) → Closed (names_met table text) []
  all-closed text =
      let all = room-all table [] in
      fold-closed (length table + 1) (met-closed (length table + 1)) (names_in text) [] [] (omega arith) (λ m q a b. absurd cc)

  pub reached_is_met : (text : List ℕ) {q : List ℕ} → Reaches table text q → contains (names_met table text) q ≡ true
  reached_is_met text (refers h) = fold-has (names_in text) [] _ h
  reached_is_met text (through r h) = ⊎_elim (λ l. l) (λ l. absurd cc) (all-closed text _ _ (reached_is_met text r) h)
