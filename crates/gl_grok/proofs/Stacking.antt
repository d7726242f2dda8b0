-- Names sought with a stack of rests of texts, the innermost last, and of the names whose patterns they are of.
use Rattle.std.proofs.Common.{◌≡◌, ℕ, ◌+◌, ◌<◌, ◌≤◌, Bool, true, false, cond, List, [], ◌∷◌, ◌++◌, length, fold, find, Option, Some, None, refl, sym, ap, ◌∙◌, arith, append_assoc, length-append, Bor}
use Rattle.std.specs.Prelude.{unwrap_or, is_some}
use Rattle.std.specs.Option.{option_to_list}
use Rattle.std.proofs.lemmas.Bool.{cond-true, cond-false, both_ways}
use Rattle.std.proofs.lemmas.List.{append-nil}
use Rattle.gl_grok.specs.Names.{contains}
use Rattle.gl_grok.specs.Pieces.{names_in}
use Rattle.gl_grok.specs.Tables.{Table, pattern_in, pattern_of}
use Rattle.gl_grok.proofs.Rooms.{Names, room-new, room-less, has-left}
use Rattle.gl_grok.proofs.Seeking.{Sought, marked, entered, again, search_on, seek-old, seek-new}
use Rattle.gl_grok.proofs.Walking.{weight, weigh-push, left, nows, now-push}

pub find-same : (p r : List ℕ → Bool) → ((q : List ℕ) → p q ≡ r q) → (xs : Names) → find p xs ≡ find r xs
find-same p r h [] = refl
find-same p r h (x ∷ xs) = (λ i. cond (h x i) (Some x) (find-same p r h xs i))

length-push : (xs : Names) (x : List ℕ) → length (xs ++ x ∷ []) ≡ length xs + 1
length-push xs x = omega (arith, length-append xs (x ∷ []))

module _ (table : Table) where
  -- what is sought once the rests are gone through, the first of them the text's own
  abbrev pub unwound : Names → Names → Names → Sought → Sought
  unwound path [] [] s = s
  unwound path [] (rest ∷ rests) s = fold (search_on table path) s (names_in rest)
  unwound path (name ∷ open_names) [] s = s
  unwound path (name ∷ open_names) (rest ∷ rests) s = fold (search_on table path) (unwound (path ++ name ∷ []) open_names rests s) (names_in rest)

  pub unwound-end : (path names : Names) (name : List ℕ) (rests : Names) (rest : List ℕ) (s : Sought) → length rests ≡ length names + 1 → names_in rest ≡ [] → unwound path (names ++ name ∷ []) (rests ++ rest ∷ []) s ≡ unwound path names rests s
  unwound-end path [] name [] rest s fit none = absurd (omega arith)
  unwound-end path [] name (r ∷ []) rest s fit none = ap (λ (ns : Names). fold (search_on table path) (fold (search_on table (path ++ name ∷ [])) s ns) (names_in r)) none
  unwound-end path [] name (r ∷ r2 ∷ rests) rest s fit none = absurd (omega arith)
  unwound-end path (n ∷ names) name [] rest s fit none = absurd (omega arith)
  unwound-end path (n ∷ names) name (r ∷ rests) rest s fit none = ap (λ (x : Sought). fold (search_on table path) x (names_in r)) (unwound-end (path ++ n ∷ []) names name rests rest s (omega arith) none)

  unwound-last : (path names rests : Names) (rest after : List ℕ) (s t : Sought) → length rests ≡ length names
      → ((p : Names) → p ≡ path ++ names → fold (search_on table p) s (names_in rest) ≡ fold (search_on table p) t (names_in after))
      → unwound path names (rests ++ rest ∷ []) s ≡ unwound path names (rests ++ after ∷ []) t
  unwound-last path [] [] rest after s t fit h = h path (sym (append-nil path))
  unwound-last path [] (r ∷ rests) rest after s t fit h = absurd (omega arith)
  unwound-last path (n ∷ names) [] rest after s t fit h = absurd (omega arith)
  unwound-last path (n ∷ names) (r ∷ rests) rest after s t fit h =
      ap (λ (x : Sought). fold (search_on table path) x (names_in r))
      (unwound-last (path ++ n ∷ []) names rests rest after s t (omega arith) (λ p e. h p (e ∙ append_assoc path (n ∷ []) names)))

  unwound-push : (path names : Names) (name : List ℕ) (rests : Names) (after pattern : List ℕ) (s : Sought) → length rests ≡ length names
      → unwound path (names ++ name ∷ []) ((rests ++ after ∷ []) ++ pattern ∷ []) s ≡ unwound path names (rests ++ after ∷ []) (fold (search_on table ((path ++ names) ++ name ∷ [])) s (names_in pattern))
  unwound-push path [] name [] after pattern s fit = ap (λ (p : Names). fold (search_on table path) (fold (search_on table (p ++ name ∷ [])) s (names_in pattern)) (names_in after)) (sym (append-nil path))
  unwound-push path [] name (r ∷ rests) after pattern s fit = absurd (omega arith)
  unwound-push path (n ∷ names) name [] after pattern s fit = absurd (omega arith)
  unwound-push path (n ∷ names) name (r ∷ rests) after pattern s fit =
      ap (λ (x : Sought). fold (search_on table path) x (names_in r))
      (unwound-push (path ++ n ∷ []) names name rests after pattern s (omega arith)
      ∙ ap (λ (p : Names). unwound (path ++ n ∷ []) names (rests ++ after ∷ []) (fold (search_on table (p ++ name ∷ [])) s (names_in pattern))) (append_assoc path (n ∷ []) names))

  module _ (names rests : Names) (fit : length rests ≡ length names) (rest after : List ℕ) (s : Sought) where
    pub stack-on : names_in rest ≡ names_in after → unwound [] names (rests ++ rest ∷ []) s ≡ unwound [] names (rests ++ after ∷ []) s
    stack-on e = unwound-last [] names rests rest after s s fit (λ p is. ap (fold (search_on table p) s) e)

    stack-old : (name : List ℕ) → names_in rest ≡ name ∷ names_in after → contains s.names name ≡ true → unwound [] names (rests ++ rest ∷ []) s ≡ unwound [] names (rests ++ after ∷ []) (again names s name)
    stack-old name e old = unwound-last [] names rests rest after s (again names s name) fit (λ p is.
        ap (fold (search_on table p) s) e ∙ ap (λ (t : Sought). fold (search_on table p) t (names_in after)) (seek-old table p s name old ∙ ap (λ (q : Names). again q s name) is))

    pub stack-marked : (name : List ℕ) → names_in rest ≡ name ∷ names_in after → contains s.names name ≡ true → contains names name ≡ true → unwound [] names (rests ++ rest ∷ []) s ≡ unwound [] names (rests ++ after ∷ []) (marked s name)
    stack-marked name e old on = stack-old name e old ∙ ap (unwound [] names (rests ++ after ∷ [])) (cond-true (contains names name) (marked s name) s on)

    pub stack-passed : (name : List ℕ) → names_in rest ≡ name ∷ names_in after → contains s.names name ≡ true → contains names name ≡ false → unwound [] names (rests ++ rest ∷ []) s ≡ unwound [] names (rests ++ after ∷ []) s
    stack-passed name e old off = stack-old name e old ∙ ap (unwound [] names (rests ++ after ∷ [])) (cond-false (contains names name) (marked s name) s off)

    pub stack-new : (name : List ℕ) → names_in rest ≡ name ∷ names_in after → contains s.names name ≡ false
        → unwound [] names (rests ++ rest ∷ []) s ≡ unwound [] (names ++ name ∷ []) ((rests ++ after ∷ []) ++ pattern_of table name ∷ []) (entered s name)
    stack-new name e new =
        unwound-last [] names rests rest after s (fold (search_on table (names ++ name ∷ [])) (entered s name) (names_in (pattern_of table name))) fit
        (λ p is. ap (fold (search_on table p) s) e
        ∙ ap (λ (t : Sought). fold (search_on table p) t (names_in after)) (seek-new table p s name new ∙ ap (λ (q : Names). fold (search_on table (q ++ name ∷ [])) (entered s name) (names_in (pattern_of table name))) is))
        ∙ sym (unwound-push [] names name rests after (pattern_of table name) (entered s name) fit)

  pub smaller-entered : (names rests : Names) (rest after name : List ℕ) → contains names name ≡ false → length after < length rest
      → left table (names ++ name ∷ []) ((rests ++ after ∷ []) ++ pattern_of table name ∷ []) < left table names (rests ++ rest ∷ [])
  smaller-entered names rests rest after name new lt = by (pattern_in table name) refl
    where
      by : (o : Option (List ℕ)) → pattern_in table name ≡ o → left table (names ++ name ∷ []) ((rests ++ after ∷ []) ++ unwrap_or o [] ∷ []) < left table names (rests ++ rest ∷ [])
      by None e =
          let room = room-less weight table names (names ++ name ∷ []) (λ q. has-left names (name ∷ []) q) in
          omega (arith, weigh-push (rests ++ after ∷ []) [], weigh-push rests after, weigh-push rests rest)
      by (Some pattern) e =
          let room = room-new weight table names name pattern new e in
          omega (arith, weigh-push (rests ++ after ∷ []) pattern, weigh-push rests after, weigh-push rests rest)

  pub smaller-end : (names rests : Names) (rest : List ℕ) → left table names rests < left table names (rests ++ rest ∷ [])
  smaller-end names rests rest = omega (arith, weigh-push rests rest)

  pub smaller-rest : (names rests : Names) (rest after : List ℕ) → length after < length rest → left table names (rests ++ after ∷ []) < left table names (rests ++ rest ∷ [])
  smaller-rest names rests rest after lt = omega (arith, weigh-push rests after, weigh-push rests rest)

  pub unwound-none : (names : Names) (s : Sought) → unwound [] names [] s ≡ s
  unwound-none [] s = refl
  unwound-none (name ∷ names) s = refl

  -- at a rest's end the name whose pattern it is of is gone through
  pub end-step : (names left_names : List (Bor (List ℕ))) (o : Option (Bor (List ℕ))) → names ≡ left_names ++ option_to_list o → (o ≡ None → length names ≤ 0)
      → (rests : Names) (rest : List ℕ) (s : Sought) → length rests ≡ length (nows names) → names_in rest ≡ []
      → (unwound [] (nows names) (rests ++ rest ∷ []) s ≡ unwound [] (nows left_names) rests s) × (0 < length rests → length rests ≡ length (nows left_names) + 1)
  end-step names [] None e none rests rest s fit end = by rests (fit ∙ ap (λ (xs : List (Bor (List ℕ))). length (nows xs)) e)
    where
      by : (rs : Names) → length rs ≡ 0 → (unwound [] (nows names) (rs ++ rest ∷ []) s ≡ unwound [] [] rs s) × (0 < length rs → length rs ≡ 0 + 1)
      by [] z = (ap (λ (xs : List (Bor (List ℕ))). unwound [] (nows xs) (rest ∷ []) s) e ∙ ap (fold (search_on table []) s) end, λ lt. absurd (omega arith))
      by (r ∷ rs) z = absurd (omega arith)
  end-step names (x ∷ xs) None e none rests rest s fit end = let short = none refl in absurd (omega (arith, ap length e))
  end-step names left_names (Some x) e none rests rest s fit end =
      let same : nows names ≡ nows left_names ++ x.now ∷ [] = now-push names left_names x e in
      let len : length rests ≡ length (nows left_names) + 1 = fit ∙ ap length same ∙ length-push (nows left_names) x.now in
      (ap (λ (ns : Names). unwound [] ns (rests ++ rest ∷ []) s) same ∙ unwound-end [] (nows left_names) x.now rests rest s len end, λ lt. len)

pub popped-fit : (all rests : Names) (rest : List ℕ) (n : ℕ) → all ≡ rests ++ rest ∷ [] → (0 < length all → length all ≡ n + 1) → length rests ≡ n
popped-fit all rests rest n e fit =
    let len : length all ≡ length rests + 1 = ap length e ∙ length-push rests rest in
    let whole : length all ≡ n + 1 = fit (omega arith) in
    omega arith

pub pushed-fit : (all rests : Names) (rest : List ℕ) (n : ℕ) → all ≡ rests ++ rest ∷ [] → length rests ≡ n → 0 < length all → length all ≡ n + 1
pushed-fit all rests rest n e fit lt = let len : length all ≡ length rests + 1 = ap length e ∙ length-push rests rest in omega arith

pub entered-fit : (all rests : Names) (after pattern : List ℕ) (names inside : Names) (name : List ℕ) → all ≡ (rests ++ after ∷ []) ++ pattern ∷ [] → inside ≡ names ++ name ∷ [] → length rests ≡ length names → 0 < length all → length all ≡ length inside + 1
entered-fit all rests after pattern names inside name e f fit lt =
    let len : length all ≡ length (rests ++ after ∷ []) + 1 = ap length e ∙ length-push (rests ++ after ∷ []) pattern in
    let more : length inside ≡ length names + 1 = ap length f ∙ length-push names name in
    omega (arith, length-push rests after)

pub no_names : (names : Names) → length names ≤ 0 → names ≡ []
no_names [] h = refl
no_names (name ∷ names) h = absurd (omega arith)

pub none-some : (o : Option (Bor (List ℕ))) → o ≡ None → is_some o ≡ true → ⊥
none-some o e h = both_ways (is_some o) (ap is_some e) h
