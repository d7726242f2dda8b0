-- What is found among the rows that have a term is what is found among all.
use Rattle.std.proofs.Common.{◌≡◌, ◌⊎◌, inl, inr, ℕ, ◌+◌, ◌<◌, ◌==◌, nat_lt, min, Bool, true, false, ◌&&◌, ◌||◌, cond, List, [], ◌∷◌, ◌++◌, length, get_or, map, filter, take, Option, Some, None, refl, sym, ◌∙◌, ap, subst, arith}
use Rattle.std.specs.List.{All, Contains, reduce, fold}
use Rattle.std.specs.Option.{option_map}
use Rattle.std.proofs.lemmas.Bool.Decides.{nat_tests}
use Rattle.std.proofs.lemmas.List.{length-map, get_or-map, take_more}
use Rattle.std.proofs.lemmas.List.Elements.{All-filter, All-contains_itself, All-head, All-tail, All-contains}
use Rattle.gl_fields.specs.declared.field.Field.{Field}
use Rattle.gl_indexset.specs.declared.row.Row.{Row}
use Rattle.gl_indexset.specs.Leaving.{has_position}
use Rattle.gl_indexset.specs.Rising.{AreRising}
use Rattle.gl_query.specs.Matching.{holds}
use Rattle.gl_query.specs.Required.{has_required, required}
use Rattle.gl_query.specs.Tree.{Tree}
use Rattle.gl_words.specs.Candidates.{candidates_of, holders, positions, rarer, rarest}
use Rattle.gl_moments.specs.Minutes.{is_near, near}
use Rattle.gl_pages.specs.declared.ask.Ask.{Ask}
use Rattle.gl_pages.specs.declared.hits.Hit.{Hit}
use Rattle.gl_pages.specs.Pages.{finds, is_between, one_chosen, time_of}
use Rattle.gl_covers.specs.Covers.{Terms, cover, covered, has_one}
use Rattle.gl_covers.specs.Suspects.{found_by, suspects_of}
use Rattle.gl_postings.specs.Bound.{in_time, steps_by_cover, steps_by_words, steps_for}
use Rattle.gl_postings.specs.Found.{hit_of, hits_of}
use Rattle.gl_postings.proofs.Ordering.{Has, has_from, Pairs, pairs_from, Each}
use Rattle.gl_postings.proofs.Paging.{hits_joined}

-- The rarest of terms is one of them.

chosen_of : {A : Type 0} (P : A → Type 0) (choose : A → A → A) → ((a b : A) → P a → P b → P (choose a b)) → (x : A) (xs : List A) → P x → All P xs → P (fold choose x xs)
chosen_of P choose keeps x [] p all = p
chosen_of P choose keeps x (y ∷ ys) p all = chosen_of P choose keeps (choose x y) ys (keeps x y p (All-head P y ys all)) (All-tail P y ys all)

reduced_of : {A : Type 0} (P : A → Type 0) (choose : A → A → A) → ((a b : A) → P a → P b → P (choose a b)) → (xs : List A) (r : A) → reduce choose xs ≡ Some r → All P xs → P r
reduced_of P choose keeps [] r is all = cc is
reduced_of P choose keeps (x ∷ xs) r is all =
    let same : fold choose x xs ≡ r = cc is in
    subst P same (chosen_of P choose keeps x xs (All-head P x xs all) (All-tail P x xs all))

rarer_of : (rows : List Row) (P : List ℕ × List ℕ → Type 0) (a b : List ℕ × List ℕ) → P a → P b → P (rarer rows a b)
rarer_of rows P a b p q = over (nat_lt (length (holders rows b)) (length (holders rows a)))
  where
    over : (t : Bool) → P (cond t b a)
    over true = q
    over false = p

-- what holds of each required term holds of the rarest
rarest_of : (P : List ℕ × List ℕ → Type 0) (rows : List Row) (t : Tree) (term : List ℕ × List ℕ) → rarest rows t ≡ Some term → All P (required t) → P term
rarest_of P rows t term is all = reduced_of P (rarer rows) (rarer_of rows P) (required t) term is all

-- A test that implies another finds as much among what passes the other.

filter_within : {A : Type 0} (p q : A → Bool) → ((x : A) → p x ≡ true → q x ≡ true) → (xs : List A) → filter p (filter q xs) ≡ filter p xs
filter_within p q implies [] = refl
filter_within p q implies (x ∷ xs) = over (q x) (implies x) (filter_within p q implies xs)
  where
    never : (b : Bool) → (b ≡ true → false ≡ true) → filter p (filter q xs) ≡ filter p xs → filter p (filter q xs) ≡ cond b (x ∷ filter p xs) (filter p xs)
    never true absent h = let e : false ≡ true = absent refl in cc e
    never false absent h = h

    over : (b : Bool) → (p x ≡ true → b ≡ true) → filter p (filter q xs) ≡ filter p xs → filter p (cond b (x ∷ filter q xs) (filter q xs)) ≡ cond (p x) (x ∷ filter p xs) (filter p xs)
    over true implied h = ap (λ ys. cond (p x) (x ∷ ys) ys) h
    over false implied h = never (p x) implied h

-- what the crate of queries says of required terms
abbrev pub LawOfTerms : Type 0
LawOfTerms = (t : Tree) (fields : List Field) → holds t fields ≡ true → All (λ (term : List ℕ × List ℕ). has_required term fields ≡ true) (required t)

third : (a b c : Bool) → (a && b && c) ≡ true → c ≡ true
third true true c h = h
third true false c h = cc h
third false b c h = cc h

finds_has : LawOfTerms → (ask : Ask) (t : Tree) (rows : List Row) (term : List ℕ × List ℕ) → rarest rows t ≡ Some term
    → (row : Row) → finds ask t row.streams row.fields ≡ true → has_required term row.fields ≡ true
finds_has law ask t rows term is row h =
    rarest_of (λ (other : List ℕ × List ℕ). has_required other row.fields ≡ true) rows t term is
    (law t row.fields (third (one_chosen ask.chosen row.streams) (is_between ask.from ask.to (time_of row.fields)) (holds t row.fields) h))

pub found_by_term : LawOfTerms → (ask : Ask) (t : Tree) (rows : List Row) (term : List ℕ × List ℕ) → rarest rows t ≡ Some term → hits_of ask t (holders rows term) ≡ hits_of ask t rows
unfolding hits_of
found_by_term law ask t rows term is =
    ap (map hit_of)
    (filter_within (λ (row : Row). finds ask t row.streams row.fields) (λ (row : Row). has_required term row.fields) (finds_has law ask t rows term is) rows)

pub holders_there : (rows : List Row) (term : List ℕ × List ℕ) → All (Contains rows) (holders rows term)
holders_there rows term = All-filter (λ (row : Row). has_required term row.fields) (Contains rows) rows (All-contains_itself rows)

-- What the candidates tell.

pub record ByTerm (t : Tree) (rows : List Row) (given : List ℕ) : Type 0 where
  pub term : List ℕ × List ℕ
  pub is : rarest rows t ≡ Some term
  pub given_are : given ≡ positions (holders rows term)

pub by_term : (r : Option (List ℕ)) (t : Tree) (rows : List Row) (given : List ℕ) → r ≡ candidates_of t rows → r ≡ Some given → ByTerm t rows given
unfolding candidates_of
by_term r t rows given are some = over (rarest rows t) refl (sym some ∙ are)
  where
    over : (o : Option (List ℕ × List ℕ)) → rarest rows t ≡ o → Some given ≡ option_map (λ term. positions (holders rows term)) o → ByTerm t rows given
    over None is e = cc e
    over (Some term) is e = record { term = term; is = is; given_are = cc e }

pub by_none : (r : Option (List ℕ)) (t : Tree) (rows : List Row) → r ≡ candidates_of t rows → r ≡ None → rarest rows t ≡ None
unfolding candidates_of
by_none r t rows are none = over (rarest rows t) refl (sym none ∙ are)
  where
    over : (o : Option (List ℕ × List ℕ)) → rarest rows t ≡ o → None ≡ option_map (λ term. positions (holders rows term)) o → rarest rows t ≡ None
    over None is e = is
    over (Some term) is e = cc e

pub steps_by_term : (t : Tree) (rows : List Row) (given : List ℕ) → ByTerm t rows given → steps_by_words t rows ≡ length given
unfolding steps_by_words
steps_by_term t rows given by = ap (steps_for rows t) by.is ∙ sym (length-map (holders rows by.term) (λ (row : Row). row.position)) ∙ ap length (sym by.given_are)

pub steps_by_none : (t : Tree) (rows : List Row) → rarest rows t ≡ None → steps_by_words t rows ≡ steps_by_cover rows (cover rows t)
unfolding steps_by_words
steps_by_none t rows is = ap (steps_for rows t) is

-- What a cover tells.

-- what the crate of covers says of them
abbrev pub LawOfCovers : Type 0
LawOfCovers = (t : Tree) (rows : List Row) (fields : List Field) (terms : Terms) → cover rows t ≡ Some terms → holds t fields ≡ true → has_one terms fields ≡ true

pub record ByCover (t : Tree) (rows : List Row) (given : List ℕ) : Type 0 where
  pub terms : Terms
  pub is : cover rows t ≡ Some terms
  pub given_are : given ≡ positions (covered rows terms)

pub by_cover : (r : Option (List ℕ)) (t : Tree) (rows : List Row) (given : List ℕ) → r ≡ suspects_of t rows → r ≡ Some given → ByCover t rows given
by_cover r t rows given are some = over (cover rows t) refl (sym some ∙ are)
  where
    over : (o : Option Terms) → cover rows t ≡ o → Some given ≡ found_by rows o → ByCover t rows given
    over None is e = cc e
    over (Some terms) is e = record { terms = terms; is = is; given_are = cc e }

pub by_no_cover : (r : Option (List ℕ)) (t : Tree) (rows : List Row) → r ≡ suspects_of t rows → r ≡ None → cover rows t ≡ None
by_no_cover r t rows are none = over (cover rows t) refl (sym none ∙ are)
  where
    over : (o : Option Terms) → cover rows t ≡ o → None ≡ found_by rows o → cover rows t ≡ None
    over None is e = is
    over (Some terms) is e = cc e

pub found_by_cover : LawOfCovers → (ask : Ask) (t : Tree) (rows : List Row) (terms : Terms) → cover rows t ≡ Some terms → hits_of ask t (covered rows terms) ≡ hits_of ask t rows
unfolding hits_of
found_by_cover law ask t rows terms is =
    ap (map hit_of)
    (filter_within (λ (row : Row). finds ask t row.streams row.fields) (λ (row : Row). has_one terms row.fields)
    (λ row h. law t rows row.fields terms is (third (one_chosen ask.chosen row.streams) (is_between ask.from ask.to (time_of row.fields)) (holds t row.fields) h)) rows)

pub covered_there : (rows : List Row) (terms : Terms) → All (Contains rows) (covered rows terms)
covered_there rows terms = All-filter (λ (row : Row). has_one terms row.fields) (Contains rows) rows (All-contains_itself rows)

pub steps_by_terms : (t : Tree) (rows : List Row) (given : List ℕ) → ByCover t rows given → steps_by_cover rows (cover rows t) ≡ length given
steps_by_terms t rows given by = ap (steps_by_cover rows) by.is ∙ sym (length-map (covered rows by.terms) (λ (row : Row). row.position)) ∙ ap length (sym by.given_are)

pub steps_by_all : (t : Tree) (rows : List Row) → cover rows t ≡ None → steps_by_cover rows (cover rows t) ≡ length rows
steps_by_all t rows is = ap (steps_by_cover rows) is

-- What the minutes tell.

-- what the crate of moments says of minutes
abbrev pub LawOfMinutes : Type 0
LawOfMinutes = (from to : ℕ) (row : Row) → is_between from to (time_of row.fields) ≡ true → is_near from to row ≡ true

second : (a b c : Bool) → (a && b && c) ≡ true → b ≡ true
second true true c h = refl
second true false c h = cc h
second false b c h = cc h

pub found_near : LawOfMinutes → (ask : Ask) (t : Tree) (rows : List Row) → hits_of ask t (near ask.from ask.to rows) ≡ hits_of ask t rows
unfolding hits_of
found_near law ask t rows =
    ap (map hit_of)
    (filter_within (λ (row : Row). finds ask t row.streams row.fields) (is_near ask.from ask.to)
    (λ row h. law ask.from ask.to row (second (one_chosen ask.chosen row.streams) (is_between ask.from ask.to (time_of row.fields)) (holds t row.fields) h)) rows)

pub near_there : (rows : List Row) (from to : ℕ) → All (Contains rows) (near from to rows)
near_there rows from to = All-filter (is_near from to) (Contains rows) rows (All-contains_itself rows)

pub length_of_near : (given : List ℕ) (rows : List Row) → given ≡ positions rows → length given ≡ length rows
length_of_near given rows are = ap length are ∙ length-map rows (λ (row : Row). row.position)

-- the minutes are taken where they have fewer rows
module _ (ask : Ask) (rows : List Row) (n : ℕ) (fewer : Bool) (is : fewer ≡ nat_lt (length (near ask.from ask.to rows)) n) where
  pub time_is_less : fewer ≡ true → in_time ask rows n ≡ length (near ask.from ask.to rows)
  time_is_less h = taken (length (near ask.from ask.to rows)) (sym is ∙ h)
    where
      taken : (m : ℕ) → nat_lt m n ≡ true → min n m ≡ m
      taken m lt = grind (arith, nat_tests)

  pub time_is_no_less : fewer ≡ false → in_time ask rows n ≡ n
  time_is_no_less h = left (length (near ask.from ask.to rows)) (sym is ∙ h)
    where
      left : (m : ℕ) → nat_lt m n ≡ false → min n m ≡ n
      left m not_less = grind (arith, nat_tests)

-- A row by its position.

each_has : {A : Type 0} (P : A → Type 0) (xs : List A) (x : A) → Each P xs → Has xs x → P x
each_has P [] x e h = absurd h
each_has P (y ∷ ys) x e (inl is) = subst P is e.0
each_has P (y ∷ ys) x e (inr h) = each_has P ys x e.1 h

same_has : (rows : List Row) (a b : Row) → Pairs (λ (x y : Row). x.position < y.position) rows → Has rows a → Has rows b → a.position ≡ b.position → a ≡ b
same_has [] a b p h i same = absurd h
same_has (row ∷ rows) a b p (inl is) (inl also) same = sym is ∙ also
same_has (row ∷ rows) a b p (inl is) (inr i) same =
    absurd (apart row.position a.position b.position (each_has (λ (x : Row). row.position < x.position) rows b p.0 i) (ap (λ (x : Row). x.position) is) same)
  where
    apart : (m n o : ℕ) → m < o → m ≡ n → n ≡ o → ⊥
    apart m n o lt e f = omega arith
same_has (row ∷ rows) a b p (inr h) (inl also) same =
    absurd (apart row.position a.position b.position (each_has (λ (x : Row). row.position < x.position) rows a p.0 h) (ap (λ (x : Row). x.position) also) same)
  where
    apart : (m n o : ℕ) → m < n → m ≡ o → n ≡ o → ⊥
    apart m n o lt e f = omega arith
same_has (row ∷ rows) a b p (inr h) (inr i) same = same_has rows a b p.1 h i same

pub same_row : (rows : List Row) (a b : Row) → AreRising rows → Contains rows a → Contains rows b → a.position ≡ b.position → a ≡ b
same_row rows a b rising c d same = same_has rows a b (pairs_from (λ (x y : Row). x.position < y.position) rows rising) (has_from rows a c) (has_from rows b d) same

has_its_position : (rows : List Row) (row : Row) → Has rows row → has_position rows row.position ≡ true
has_its_position [] row h = absurd h
has_its_position (other ∷ rows) row h = over h (has_its_position rows row)
  where
    itself : (n : ℕ) → (n == n) ≡ true
    itself n = grind (arith, nat_tests)

    first : (b c : Bool) → b ≡ true → (b || c) ≡ true
    first true c e = refl
    first false c e = cc e

    second : (b c : Bool) → c ≡ true → (b || c) ≡ true
    second true c e = refl
    second false c e = e

    over : (other ≡ row) ⊎ Has rows row → (Has rows row → has_position rows row.position ≡ true) → (other.position == row.position || has_position rows row.position) ≡ true
    over (inl is) next = first (other.position == row.position) (has_position rows row.position) (subst (λ (r : Row). (other.position == r.position) ≡ true) is (itself other.position))
    over (inr i) next = second (other.position == row.position) (has_position rows row.position) (next i)

pub no_such : (rows : List Row) (row : Row) (position : ℕ) → Contains rows row → position ≡ row.position → has_position rows position ≡ false → ⊥
no_such rows row position c is none =
    let there : has_position rows row.position ≡ true = has_its_position rows row (has_from rows row c) in
    let not_there : has_position rows row.position ≡ false = subst (λ n. has_position rows n ≡ false) is none in
    absurd (clash (has_position rows row.position) there not_there)
  where
    clash : (b : Bool) → b ≡ true → b ≡ false → ⊥
    clash true e f = cc f
    clash false e f = cc e

-- The rows one after another.

abbrev pub blank : Row
blank = record { position = 0; moment = 0; streams = []; sets = []; fields = [] }

pub found_more : (ask : Ask) (t : Tree) (some : List Row) (k : ℕ) (old new : List Hit) → k < length some → old ≡ hits_of ask t (take k some)
    → new ≡ old ++ hits_of ask t (get_or some k blank ∷ []) → new ≡ hits_of ask t (take (k + 1) some)
found_more ask t some k old new lt before is =
    is ∙ ap (λ hits. hits ++ hits_of ask t (get_or some k blank ∷ [])) before
    ∙ sym (hits_joined ask t (take k some) (get_or some k blank ∷ []))
    ∙ ap (hits_of ask t) (sym (take_more some k blank lt))

pub length_given : (given : List ℕ) (some : List Row) → given ≡ positions some → length some ≡ length given
length_given given some are = sym (length-map some (λ (row : Row). row.position)) ∙ ap length (sym are)

pub position_given : (given : List ℕ) (some : List Row) (k : ℕ) → k < length given → given ≡ positions some → get_or given k 0 ≡ (get_or some k blank).position
position_given given some k lt are =
    let less : k < length some = omega (arith, length_given given some are) in
    ap (λ ps. get_or ps k 0) are ∙ get_or-map (λ (row : Row). row.position) some k blank 0 less
