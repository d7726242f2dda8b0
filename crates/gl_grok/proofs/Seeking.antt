-- Names met, with those that are met again while their own patterns are gone into: the first name that reaches itself
-- is among these.
use Rattle.std.proofs.Common.{◌≡◌, ◌⊎◌, ⊎_elim, inl, inr, ℕ, zero, suc, ◌+◌, ◌<◌, Bool, true, false, cond, List, [], ◌∷◌, ◌++◌, length, fold, find, Option, Some, None, refl, sym, ap, subst, ◌∙◌, arith, append_assoc}
use Rattle.std.specs.Prelude.{unwrap_or}
use Rattle.std.specs.Option.{option_or}
use Rattle.std.proofs.lemmas.Bool.{cases_Bool, cond-true, cond-false, both_ways, false_from_ne_true}
use Rattle.std.proofs.lemmas.List.{append-nil}
use Rattle.std.proofs.lemmas.List.Folds.{find-append}
use Rattle.gl_grok.specs.Names.{contains, Reaches, refers, through, met, names_met, reaches_itself}
use Rattle.gl_grok.specs.Pieces.{names_in}
use Rattle.gl_grok.specs.Tables.{Table, pattern_in, pattern_of}
use Rattle.gl_grok.proofs.Expandable.{none-passes}
use Rattle.gl_grok.proofs.Meeting.{met-keeps, met_is_reached, reached_is_met}
use Rattle.gl_grok.proofs.Rooms.{Names, Grows, has-left, has-right, has-either, has-one, is-one, has-first, room, one, room-less, room-new, room-all}
use Rattle.gl_grok.proofs.Spelling.{further}

pub record Sought : Type 0 where
  pub names : Names
  pub marks : Names

abbrev pub marked : Sought → List ℕ → Sought
marked s name = record { names = s.names; marks = s.marks ++ name ∷ [] }

abbrev pub entered : Sought → List ℕ → Sought
entered s name = record { names = s.names ++ name ∷ []; marks = s.marks }

-- a name is met that was met before; `path` are the names whose patterns are gone into
abbrev pub again : Names → Sought → List ℕ → Sought
again path s name = cond (contains path name) (marked s name) s

abbrev pub seek : Table → ℕ → Names → Sought → List ℕ → Sought
seek table zero path s name = s
seek table (suc d) path s name = cond (contains s.names name) (again path s name) (fold (seek table d (path ++ name ∷ [])) (entered s name) (names_in (pattern_of table name)))

either : (P : Sought → Type 0) (t : Bool) (x y : Sought) → (t ≡ true → P x) → (t ≡ false → P y) → P (cond t x y)
either P true x y p q = p refl
either P false x y p q = q refl

unless : (t : Bool) (x y z : Sought) → (t ≡ false → y ≡ z) → cond t x y ≡ cond t x z
unless true x y z h = refl
unless false x y z h = h refl

same_names : (t : Bool) (x y : Sought) (a b : Names) → x.names ≡ a → (t ≡ false → y.names ≡ b) → (cond t x y).names ≡ cond t a b
same_names true x y a b e f = e
same_names false x y a b e f = f refl

again-names : (path : Names) (s : Sought) (name : List ℕ) → (again path s name).names ≡ s.names
again-names path s name = either (λ (r : Sought). r.names ≡ s.names) (contains path name) (marked s name) s (λ t. refl) (λ t. refl)

again-marks : (path : Names) (s : Sought) (name : List ℕ) → Grows s.marks (again path s name).marks
again-marks path s name = either (λ (r : Sought). Grows s.marks r.marks) (contains path name) (marked s name) s (λ t q h. has-left s.marks (name ∷ []) q h) (λ t q h. h)

find-none : (p : List ℕ → Bool) (xs : Names) (x : List ℕ) (ys : Names) → find p xs ≡ None → p x ≡ true → find p ((xs ++ x ∷ []) ++ ys) ≡ Some x
find-none p xs x ys none passes =
    ap (find p) (append_assoc xs (x ∷ []) ys) ∙ find-append p xs (x ∷ ys) ∙ ap (λ (o : Option (List ℕ)). option_or o (find p (x ∷ ys))) none
    ∙ cond-true (p x) (Some x) (find p ys) passes

find-some : (p : List ℕ → Bool) (xs ys : Names) (x : List ℕ) → find p xs ≡ Some x → find p (xs ++ ys) ≡ Some x
find-some p xs ys x some = find-append p xs ys ∙ ap (λ (o : Option (List ℕ)). option_or o (find p ys)) some

find-neither : (p : List ℕ → Bool) (xs : Names) (x : List ℕ) → find p xs ≡ None → p x ≡ false → find p (xs ++ x ∷ []) ≡ None
find-neither p xs x none fails =
    find-append p xs (x ∷ []) ∙ ap (λ (o : Option (List ℕ)). option_or o (find p (x ∷ []))) none ∙ cond-false (p x) (Some x) None fails

same_find : (p r : List ℕ → Bool) (xs : Names) → ((q : List ℕ) → p q ≡ true → r q ≡ true) → ((q : List ℕ) → find r xs ≡ Some q → p q ≡ true) → find p xs ≡ find r xs
same_find p r [] sound first = refl
same_find p r (x ∷ xs) sound first = ⊎_elim
    (λ t. let here = cond-true (r x) (Some x) (find r xs) t in cond-true (p x) (Some x) (find p xs) (first x here) ∙ sym here)
    (λ t.
    let later = cond-false (r x) (Some x) (find r xs) t in
    let fails : p x ≡ false = false_from_ne_true (p x) (λ e. both_ways (r x) t (sound x e)) in
    cond-false (p x) (Some x) (find p xs) fails ∙ same_find p r xs sound (λ q e. first q (later ∙ e)) ∙ sym later)
    (cases_Bool (r x))

abbrev pub inside : Table → List ℕ → Names
inside table name = names_in (pattern_of table name)

module _ (table : Table) where
  -- the names are those that are met

  fold-names : (d : ℕ) (path : Names) → ((s : Sought) (name : List ℕ) → (seek table d path s name).names ≡ met table d s.names name)
      → (xs : Names) (s : Sought) → (fold (seek table d path) s xs).names ≡ fold (met table d) s.names xs
  fold-names d path each [] s = refl
  fold-names d path each (x ∷ xs) s = fold-names d path each xs (seek table d path s x) ∙ ap (λ (ns : Names). fold (met table d) ns xs) (each s x)

  pub seek-names : (d : ℕ) (path : Names) (s : Sought) (name : List ℕ) → (seek table d path s name).names ≡ met table d s.names name
  seek-names zero path s name = refl
  seek-names (suc d) path s name = same_names (contains s.names name) (again path s name) (fold (seek table d (path ++ name ∷ [])) (entered s name) (inside table name))
      s.names (fold (met table d) (s.names ++ name ∷ []) (inside table name))
      (again-names path s name) (λ t. fold-names d (path ++ name ∷ []) (seek-names d (path ++ name ∷ [])) (inside table name) (entered s name))

  pub seek-keeps : (d : ℕ) (path : Names) (s : Sought) (name : List ℕ) → Grows s.names (seek table d path s name).names
  seek-keeps d path s name q h = subst (λ (ns : Names). contains ns q ≡ true) (sym (seek-names d path s name)) (met-keeps table d s.names name q h)

  seek-less : (d e : ℕ) (path : Names) (s : Sought) (name : List ℕ) → room one table s.names < e → room one table (seek table d path s name).names < e
  seek-less d e path s name lt = let less = room-less one table s.names (seek table d path s name).names (seek-keeps d path s name) in omega arith

  -- what was met and marked stays so

  fold-grows : (f : Sought → List ℕ → Sought) → ((s : Sought) (name : List ℕ) → Grows s.marks (f s name).marks) → (xs : Names) (s : Sought) → Grows s.marks (fold f s xs).marks
  fold-grows f each [] s q h = h
  fold-grows f each (x ∷ xs) s q h = fold-grows f each xs (f s x) q (each s x q h)

  pub seek-marks : (d : ℕ) (path : Names) (s : Sought) (name : List ℕ) → Grows s.marks (seek table d path s name).marks
  seek-marks zero path s name = λ q h. h
  seek-marks (suc d) path s name = either (λ (r : Sought). Grows s.marks r.marks) (contains s.names name) (again path s name) (fold (seek table d (path ++ name ∷ [])) (entered s name) (inside table name))
      (λ t. again-marks path s name) (λ t. fold-grows (seek table d (path ++ name ∷ [])) (seek-marks d (path ++ name ∷ [])) (inside table name) (entered s name))

  fold-keeps : (d : ℕ) (path : Names) (xs : Names) (s : Sought) → Grows s.names (fold (seek table d path) s xs).names
  fold-keeps d path [] s q h = h
  fold-keeps d path (x ∷ xs) s q h = fold-keeps d path xs (seek table d path s x) q (seek-keeps d path s x q h)

  -- any depth that is enough gives the same

  fold-more : (d : ℕ) (path : Names) → ((s : Sought) (name : List ℕ) → room one table s.names < d → seek table d path s name ≡ seek table (suc d) path s name)
      → (xs : Names) (s : Sought) → room one table s.names < d → fold (seek table d path) s xs ≡ fold (seek table (suc d) path) s xs
  fold-more d path each [] s lt = refl
  fold-more d path each (x ∷ xs) s lt =
      ap (λ (r : Sought). fold (seek table d path) r xs) (each s x lt) ∙ fold-more d path each xs (seek table (suc d) path s x) (seek-less (suc d) d path s x lt)

  seek-more : (d : ℕ) (path : Names) (s : Sought) (name : List ℕ) → room one table s.names < d → seek table d path s name ≡ seek table (suc d) path s name
  seek-more zero path s name lt = absurd (omega arith)
  seek-more (suc d) path s name lt = unless (contains s.names name) (again path s name) (fold (seek table d (path ++ name ∷ [])) (entered s name) (inside table name)) (fold (seek table (suc d) (path ++ name ∷ [])) (entered s name) (inside table name))
      (λ new. by new (seek-more d (path ++ name ∷ [])) (pattern_in table name) refl)
    where
      by : contains s.names name ≡ false → ((r : Sought) (n : List ℕ) → room one table r.names < d → seek table d (path ++ name ∷ []) r n ≡ seek table (suc d) (path ++ name ∷ []) r n)
          → (o : Option (List ℕ)) → pattern_in table name ≡ o → fold (seek table d (path ++ name ∷ [])) (entered s name) (names_in (unwrap_or o [])) ≡ fold (seek table (suc d) (path ++ name ∷ [])) (entered s name) (names_in (unwrap_or o []))
      by new each None e = refl
      by new each (Some pattern) e =
          let less = room-new one table s.names name pattern new e in
          fold-more d (path ++ name ∷ []) each (names_in pattern) (entered s name) (omega arith)

  abbrev pub search_on : Names → Sought → List ℕ → Sought
  search_on path s name = seek table (length table + 1) path s name

  seek-turn : (path : Names) (s : Sought) (name : List ℕ) → search_on path s name ≡ cond (contains s.names name) (again path s name) (fold (search_on (path ++ name ∷ [])) (entered s name) (inside table name))
  seek-turn path s name = let all = room-all table s.names in seek-more (length table + 1) path s name (omega arith)

  pub seek-old : (path : Names) (s : Sought) (name : List ℕ) → contains s.names name ≡ true → search_on path s name ≡ again path s name
  seek-old path s name h = seek-turn path s name ∙ cond-true (contains s.names name) (again path s name) (fold (search_on (path ++ name ∷ [])) (entered s name) (inside table name)) h

  pub seek-new : (path : Names) (s : Sought) (name : List ℕ) → contains s.names name ≡ false → search_on path s name ≡ fold (search_on (path ++ name ∷ [])) (entered s name) (inside table name)
  seek-new path s name h = seek-turn path s name ∙ cond-false (contains s.names name) (again path s name) (fold (search_on (path ++ name ∷ [])) (entered s name) (inside table name)) h

  -- as deep as the rest of the table, or nothing to go into
  abbrev Enough : ℕ → Names → Names → Type 0
  Enough d xs names = (room one table names < d) ⊎ (xs ≡ [])

  enough-inside : (d : ℕ) (names : Names) (name : List ℕ) → contains names name ≡ false → room one table names < suc d → Enough d (inside table name) (names ++ name ∷ [])
  enough-inside d names name new lt = by (pattern_in table name) refl
    where
      by : (o : Option (List ℕ)) → pattern_in table name ≡ o → Enough d (names_in (unwrap_or o [])) (names ++ name ∷ [])
      by None e = inr refl
      by (Some pattern) e = let less = room-new one table names name pattern new e in inl (omega arith)

  room-of : (d : ℕ) (x : List ℕ) (xs names : Names) → Enough d (x ∷ xs) names → room one table names < d
  room-of d x xs names e = ⊎_elim (λ lt. lt) (λ none. absurd cc) e

  -- the names that a new one leads to are met with it

  seek-has : (d : ℕ) (path : Names) (s : Sought) (name : List ℕ) → room one table s.names < d → contains (seek table d path s name).names name ≡ true
  seek-has zero path s name lt = absurd (omega arith)
  seek-has (suc d) path s name lt = either (λ (r : Sought). contains r.names name ≡ true) (contains s.names name) (again path s name) (fold (seek table d (path ++ name ∷ [])) (entered s name) (inside table name))
      (λ old. subst (λ (ns : Names). contains ns name ≡ true) (sym (again-names path s name)) old)
      (λ new. fold-keeps d (path ++ name ∷ []) (inside table name) (entered s name) name (has-right s.names (name ∷ []) name (is-one name)))

  fold-has : (d : ℕ) (path xs : Names) (s : Sought) (q : List ℕ) → Enough d xs s.names → contains xs q ≡ true → contains (fold (seek table d path) s xs).names q ≡ true
  fold-has d path [] s q enough h = absurd cc
  fold-has d path (x ∷ xs) s q enough h =
      let lt = room-of d x xs s.names enough in
      ⊎_elim
      (λ e. fold-keeps d path xs (seek table d path s x) q (subst (λ (n : List ℕ). contains (seek table d path s x).names n ≡ true) (sym e) (seek-has d path s x lt)))
      (λ l. fold-has d path xs (seek table d path s x) q (inl (seek-less d d path s x lt)) l)
      (has-first x xs q h)

  abbrev NewClosed : Names → Names → Type 0
  NewClosed a b = (x y : List ℕ) → contains b x ≡ true → contains a x ≡ false → contains (inside table x) y ≡ true → contains b y ≡ true

  fold-closed : (d : ℕ) (path : Names) → ((s : Sought) (name : List ℕ) → room one table s.names < d → NewClosed s.names (seek table d path s name).names)
      → (xs : Names) (s : Sought) → Enough d xs s.names → NewClosed s.names (fold (seek table d path) s xs).names
  fold-closed d path each [] s enough x y a b e = absurd (both_ways (contains s.names x) b a)
  fold-closed d path each (w ∷ ws) s enough x y a b e =
      let lt = room-of d w ws s.names enough in
      let r = seek table d path s w in
      ⊎_elim
      (λ t. fold-keeps d path ws r y (each s w lt x y t b e))
      (λ t. fold-closed d path each ws r (inl (seek-less d d path s w lt)) x y a t e)
      (cases_Bool (contains r.names x))

  inner-closed : (d : ℕ) (path : Names) (s : Sought) (name : List ℕ) → ((r : Sought) (n : List ℕ) → room one table r.names < d → NewClosed r.names (seek table d path r n).names)
      → Enough d (inside table name) (s.names ++ name ∷ []) → NewClosed s.names (fold (seek table d path) (entered s name) (inside table name)).names
  inner-closed d path s name each enough x y a b e = ⊎_elim
      (λ t. ⊎_elim
      (λ l. absurd (both_ways (contains s.names x) b l))
      (λ l. fold-has d path (inside table name) (entered s name) y enough (subst (λ (n : List ℕ). contains (inside table n) y ≡ true) (has-one name x l) e))
      (has-either s.names (name ∷ []) x t))
      (λ t. fold-closed d path each (inside table name) (entered s name) enough x y a t e)
      (cases_Bool (contains (s.names ++ name ∷ []) x))

  seek-closed : (d : ℕ) (path : Names) (s : Sought) (name : List ℕ) → room one table s.names < d → NewClosed s.names (seek table d path s name).names
  seek-closed zero path s name lt = absurd (omega arith)
  seek-closed (suc d) path s name lt = either (λ (r : Sought). NewClosed s.names r.names) (contains s.names name) (again path s name) (fold (seek table d (path ++ name ∷ [])) (entered s name) (inside table name))
      (λ old x y a b e. absurd (both_ways (contains s.names x) b (subst (λ (ns : Names). contains ns x ≡ true) (again-names path s name) a)))
      (λ new. inner-closed d (path ++ name ∷ []) s name (seek-closed d (path ++ name ∷ [])) (enough-inside d s.names name new lt))

  -- a name that a new one refers to is marked where its own pattern is gone into

  seek-mark : (d : ℕ) (path : Names) (s : Sought) (name : List ℕ) → room one table s.names < d → contains s.names name ≡ true → contains path name ≡ true → contains (seek table d path s name).marks name ≡ true
  seek-mark zero path s name lt old on = absurd (omega arith)
  seek-mark (suc d) path s name lt old on =
      subst (λ (r : Sought). contains r.marks name ≡ true)
      (sym (cond-true (contains s.names name) (again path s name) (fold (seek table d (path ++ name ∷ [])) (entered s name) (inside table name)) old ∙ cond-true (contains path name) (marked s name) s on))
      (has-right s.marks (name ∷ []) name (is-one name))

  fold-mark : (d : ℕ) (path xs : Names) (s : Sought) (y : List ℕ) → Enough d xs s.names → Grows path s.names → contains xs y ≡ true → contains path y ≡ true → contains (fold (seek table d path) s xs).marks y ≡ true
  fold-mark d path [] s y enough within h on = absurd cc
  fold-mark d path (x ∷ xs) s y enough within h on =
      let lt = room-of d x xs s.names enough in
      let r = seek table d path s x in
      ⊎_elim
      (λ e.
      let on_x : contains path x ≡ true = subst (λ (n : List ℕ). contains path n ≡ true) e on in
      fold-grows (seek table d path) (seek-marks d path) xs r y (subst (λ (n : List ℕ). contains r.marks n ≡ true) (sym e) (seek-mark d path s x lt (within x on_x) on_x)))
      (λ l. fold-mark d path xs r y (inl (seek-less d d path s x lt)) (λ q g. seek-keeps d path s x q (within q g)) l on)
      (has-first x xs y h)

  abbrev EdgesMarked : Names → Names → Sought → Type 0
  EdgesMarked path before s = (x y : List ℕ) → contains s.names x ≡ true → contains before x ≡ false → contains path y ≡ true → contains (inside table x) y ≡ true → contains s.marks y ≡ true

  fold-edges : (d : ℕ) (path : Names) → ((s : Sought) (name : List ℕ) → room one table s.names < d → Grows path s.names → EdgesMarked (path ++ name ∷ []) s.names (seek table d path s name))
      → (xs : Names) (s : Sought) → Enough d xs s.names → Grows path s.names → EdgesMarked path s.names (fold (seek table d path) s xs)
  fold-edges d path each [] s enough within x y a b on e = absurd (both_ways (contains s.names x) b a)
  fold-edges d path each (w ∷ ws) s enough within x y a b on e =
      let lt = room-of d w ws s.names enough in
      let r = seek table d path s w in
      ⊎_elim
      (λ t. fold-grows (seek table d path) (seek-marks d path) ws r y (each s w lt within x y t b (has-left path (w ∷ []) y on) e))
      (λ t. fold-edges d path each ws r (inl (seek-less d d path s w lt)) (λ q g. seek-keeps d path s w q (within q g)) x y a t on e)
      (cases_Bool (contains r.names x))

  within-more : (path names : Names) (name : List ℕ) → Grows path names → Grows (path ++ name ∷ []) (names ++ name ∷ [])
  within-more path names name within q h = ⊎_elim (λ l. has-left names (name ∷ []) q (within q l)) (λ l. has-right names (name ∷ []) q l) (has-either path (name ∷ []) q h)

  inner-edges : (d : ℕ) (path : Names) (s : Sought) (name : List ℕ) → ((r : Sought) (n : List ℕ) → room one table r.names < d → Grows path r.names → EdgesMarked (path ++ n ∷ []) r.names (seek table d path r n))
      → Enough d (inside table name) (s.names ++ name ∷ []) → Grows path (s.names ++ name ∷ []) → EdgesMarked path s.names (fold (seek table d path) (entered s name) (inside table name))
  inner-edges d path s name each enough within x y a b on e = ⊎_elim
      (λ t. ⊎_elim
      (λ l. absurd (both_ways (contains s.names x) b l))
      (λ l. fold-mark d path (inside table name) (entered s name) y enough within (subst (λ (n : List ℕ). contains (inside table n) y ≡ true) (has-one name x l) e) on)
      (has-either s.names (name ∷ []) x t))
      (λ t. fold-edges d path each (inside table name) (entered s name) enough within x y a t on e)
      (cases_Bool (contains (s.names ++ name ∷ []) x))

  seek-edges : (d : ℕ) (path : Names) (s : Sought) (name : List ℕ) → room one table s.names < d → Grows path s.names → EdgesMarked (path ++ name ∷ []) s.names (seek table d path s name)
  seek-edges zero path s name lt within = absurd (omega arith)
  seek-edges (suc d) path s name lt within = either (EdgesMarked (path ++ name ∷ []) s.names) (contains s.names name) (again path s name) (fold (seek table d (path ++ name ∷ [])) (entered s name) (inside table name))
      (λ old x y a b on e. absurd (both_ways (contains s.names x) b (subst (λ (ns : Names). contains ns x ≡ true) (again-names path s name) a)))
      (λ new. inner-edges d (path ++ name ∷ []) s name (seek-edges d (path ++ name ∷ [])) (enough-inside d s.names name new lt) (within-more path s.names name within))

  -- what is marked reaches itself

  abbrev PathReaches : Names → List ℕ → Type 0
  PathReaches path name = (p : List ℕ) → contains path p ≡ true → Reaches table (pattern_of table p) name

  abbrev AllCircular : Names → Type 0
  AllCircular marks = (q : List ℕ) → contains marks q ≡ true → Reaches table (pattern_of table q) q

  fold-sound : (d : ℕ) (path : Names) → ((s : Sought) (name : List ℕ) → PathReaches path name → AllCircular s.marks → AllCircular (seek table d path s name).marks)
      → (xs : Names) (s : Sought) → ((x : List ℕ) → contains xs x ≡ true → PathReaches path x) → AllCircular s.marks → AllCircular (fold (seek table d path) s xs).marks
  fold-sound d path each [] s reach all = all
  fold-sound d path each (x ∷ xs) s reach all =
      fold-sound d path each xs (seek table d path s x) (λ w h. reach w (has-right (x ∷ []) xs w h)) (each s x (reach x (has-left (x ∷ []) xs x (is-one x))) all)

  seek-sound : (d : ℕ) (path : Names) (s : Sought) (name : List ℕ) → PathReaches path name → AllCircular s.marks → AllCircular (seek table d path s name).marks
  seek-sound zero path s name reach all = all
  seek-sound (suc d) path s name reach all = either (λ (r : Sought). AllCircular r.marks) (contains s.names name) (again path s name) (fold (seek table d (path ++ name ∷ [])) (entered s name) (inside table name))
      (λ old. either (λ (r : Sought). AllCircular r.marks) (contains path name) (marked s name) s
      (λ on q h. ⊎_elim (λ l. all q l) (λ l. subst (λ (n : List ℕ). Reaches table (pattern_of table n) n) (sym (has-one name q l)) (reach name on)) (has-either s.marks (name ∷ []) q h))
      (λ off. all))
      (λ new. fold-sound d (path ++ name ∷ []) (seek-sound d (path ++ name ∷ [])) (inside table name) (entered s name)
      (λ x e p h. ⊎_elim (λ l. through (reach p l) e) (λ l. subst (λ (n : List ℕ). Reaches table (pattern_of table n) x) (sym (has-one name p l)) (refers e)) (has-either path (name ∷ []) p h))
      all)

  -- the first name that reaches itself is marked

  abbrev Extends : Names → Names → Type 0
  Extends a b = (ys : Names) × (b ≡ a ++ ys)

  extends-on : (a b c : Names) → Extends a b → Extends b c → Extends a c
  extends-on a b c x y = (x.0 ++ y.0, y.1 ∙ ap (λ (ns : Names). ns ++ y.0) x.1 ∙ append_assoc a x.0 y.0)

  fold-extends : (d : ℕ) (path : Names) → ((s : Sought) (name : List ℕ) → Extends s.names (seek table d path s name).names) → (xs : Names) (s : Sought) → Extends s.names (fold (seek table d path) s xs).names
  fold-extends d path each [] s = ([], sym (append-nil s.names))
  fold-extends d path each (x ∷ xs) s = extends-on s.names (seek table d path s x).names (fold (seek table d path) (seek table d path s x) xs).names (each s x) (fold-extends d path each xs (seek table d path s x))

  seek-extends : (d : ℕ) (path : Names) (s : Sought) (name : List ℕ) → Extends s.names (seek table d path s name).names
  seek-extends zero path s name = ([], sym (append-nil s.names))
  seek-extends (suc d) path s name = either (λ (r : Sought). Extends s.names r.names) (contains s.names name) (again path s name) (fold (seek table d (path ++ name ∷ [])) (entered s name) (inside table name))
      (λ old. ([], again-names path s name ∙ sym (append-nil s.names)))
      (λ new. extends-on s.names (s.names ++ name ∷ []) (fold (seek table d (path ++ name ∷ [])) (entered s name) (inside table name)).names (name ∷ [], refl)
      (fold-extends d (path ++ name ∷ []) (seek-extends d (path ++ name ∷ [])) (inside table name) (entered s name)))

  abbrev First : Sought → Type 0
  First s = (u : List ℕ) → find (reaches_itself table) s.names ≡ Some u → contains s.marks u ≡ true

  abbrev entered_whole : ℕ → Names → Sought → List ℕ → Sought
  entered_whole d path s name = fold (seek table d path) (entered s name) (inside table name)

  not-met : (s : Sought) (q : List ℕ) → find (reaches_itself table) s.names ≡ None → Reaches table (pattern_of table q) q → contains s.names q ≡ false
  not-met s q clean r = false_from_ne_true (contains s.names q) (λ h.
      both_ways (reaches_itself table q) (none-passes (reaches_itself table) s.names clean q h) (reached_is_met table (pattern_of table q) r))

  -- a name between a new one and itself is met with it
  between : (d : ℕ) (path : Names) (s : Sought) (name : List ℕ) → contains s.names name ≡ false → NewClosed s.names (entered_whole d path s name).names → find (reaches_itself table) s.names ≡ None
      → {q : List ℕ} → Reaches table (pattern_of table name) q → Reaches table (pattern_of table q) name → contains (entered_whole d path s name).names q ≡ true
  between d path s name new closed clean (refers e) back =
      closed name _ (fold-keeps d path (inside table name) (entered s name) name (has-right s.names (name ∷ []) name (is-one name))) new e
  between d path s name new closed clean (through {other = other} r e) back =
      let back_other = further table (pattern_of table other) (refers e) back in
      closed other _ (between d path s name new closed clean r back_other) (not-met s other clean (further table (pattern_of table other) back_other r)) e

  circle-marked : (d : ℕ) (path : Names) (s : Sought) (name : List ℕ) → contains s.names name ≡ false → NewClosed s.names (entered_whole d path s name).names → EdgesMarked path s.names (entered_whole d path s name)
      → contains path name ≡ true → find (reaches_itself table) s.names ≡ None → {q : List ℕ} → q ≡ name → Reaches table (pattern_of table name) q → contains (entered_whole d path s name).marks q ≡ true
  circle-marked d path s name new closed edges on clean {q} same (refers e) =
      edges name q (fold-keeps d path (inside table name) (entered s name) name (has-right s.names (name ∷ []) name (is-one name))) new (subst (λ (n : List ℕ). contains path n ≡ true) (sym same) on) e
  circle-marked d path s name new closed edges on clean {q} same (through {other = other} r e) =
      let back : Reaches table (pattern_of table other) name = subst (λ (n : List ℕ). Reaches table (pattern_of table other) n) same (refers e) in
      edges other q (between d path s name new closed clean r back) (not-met s other clean (further table (pattern_of table other) back r))
      (subst (λ (n : List ℕ). contains path n ≡ true) (sym same) on) e

  fold-first : (d : ℕ) (path : Names) → ((s : Sought) (name : List ℕ) → room one table s.names < d → Grows path s.names → First s → First (seek table d path s name))
      → (xs : Names) (s : Sought) → Enough d xs s.names → Grows path s.names → First s → First (fold (seek table d path) s xs)
  fold-first d path each [] s enough within first = first
  fold-first d path each (x ∷ xs) s enough within first =
      let lt = room-of d x xs s.names enough in
      fold-first d path each xs (seek table d path s x) (inl (seek-less d d path s x lt)) (λ q g. seek-keeps d path s x q (within q g)) (each s x lt within first)

  seek-first : (d : ℕ) (path : Names) (s : Sought) (name : List ℕ) → room one table s.names < d → Grows path s.names → First s → First (seek table d path s name)
  seek-first zero path s name lt within first = absurd (omega arith)
  seek-first (suc d) path s name lt within first = either First (contains s.names name) (again path s name) (entered_whole d (path ++ name ∷ []) s name)
      (λ old u e. again-marks path s name u (first u (sym (ap (find (reaches_itself table)) (again-names path s name)) ∙ e)))
      (λ new. by new (enough-inside d s.names name new lt) (find (reaches_itself table) s.names) refl (seek-first d (path ++ name ∷ [])))
    where
      by : contains s.names name ≡ false → Enough d (inside table name) (s.names ++ name ∷ []) → (o : Option (List ℕ)) → find (reaches_itself table) s.names ≡ o
          → ((r : Sought) (n : List ℕ) → room one table r.names < d → Grows (path ++ name ∷ []) r.names → First r → First (seek table d (path ++ name ∷ []) r n))
          → First (entered_whole d (path ++ name ∷ []) s name)
      by new enough (Some v) e each u found =
          let more = extends-on s.names (s.names ++ name ∷ []) (entered_whole d (path ++ name ∷ []) s name).names (name ∷ [], refl)
          (fold-extends d (path ++ name ∷ []) (seek-extends d (path ++ name ∷ [])) (inside table name) (entered s name)) in
          let still = ap (find (reaches_itself table)) more.1 ∙ find-some (reaches_itself table) s.names more.0 v e in
          let same : Some v ≡ Some u = sym still ∙ found in
          let is_u : v ≡ u = cc in
          fold-grows (seek table d (path ++ name ∷ [])) (seek-marks d (path ++ name ∷ [])) (inside table name) (entered s name) u (first u (e ∙ ap (λ (n : List ℕ). Some n) is_u))
      by new enough None e each u found = ⊎_elim
          (λ t.
          let more = fold-extends d (path ++ name ∷ []) (seek-extends d (path ++ name ∷ [])) (inside table name) (entered s name) in
          let is_first = ap (find (reaches_itself table)) more.1 ∙ find-none (reaches_itself table) s.names name more.0 e t in
          let same : Some u ≡ Some name = sym found ∙ is_first in
          let is_name : u ≡ name = cc in
          circle-marked d (path ++ name ∷ []) s name new
          (inner-closed d (path ++ name ∷ []) s name (seek-closed d (path ++ name ∷ [])) enough)
          (inner-edges d (path ++ name ∷ []) s name (seek-edges d (path ++ name ∷ [])) enough (within-more path s.names name within))
          (has-right path (name ∷ []) name (is-one name)) e is_name
          (subst (λ (n : List ℕ). Reaches table (pattern_of table name) n) (sym is_name) (met_is_reached table (pattern_of table name) name t)))
          (λ t.
          let none = find-neither (reaches_itself table) s.names name e t in
          fold-first d (path ++ name ∷ []) each (inside table name) (entered s name) enough (within-more path s.names name within)
          (λ w f. let wrong : None ≡ Some w = sym none ∙ f in absurd cc) u found)
          (cases_Bool (reaches_itself table name))

  abbrev pub start : Sought
  start = record { names = []; marks = [] }

  -- all names that are reached from a text, and those of them that are marked
  abbrev pub sought : List ℕ → Sought
  sought text = fold (search_on []) start (names_in text)

  pub sought-names : (text : List ℕ) → (sought text).names ≡ names_met table text
  sought-names text = fold-names (length table + 1) [] (seek-names (length table + 1) []) (names_in text) start

  pub sought-circular : (text : List ℕ) → find (contains (sought text).marks) (sought text).names ≡ find (reaches_itself table) (names_met table text)
  sought-circular text =
      let all = room-all table [] in
      let D = length table + 1 in
      same_find (contains (sought text).marks) (reaches_itself table) (sought text).names
      (λ q h. reached_is_met table (pattern_of table q) (fold-sound D [] (seek-sound D []) (names_in text) start (λ x e p on. absurd cc) (λ x e. absurd cc) q h))
      (fold-first D [] (seek-first D []) (names_in text) start (inl (omega arith)) (λ q h. h) (λ u e. absurd cc))
      ∙ ap (find (reaches_itself table)) (sought-names text)
