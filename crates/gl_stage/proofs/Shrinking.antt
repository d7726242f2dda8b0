-- Each round takes a pipeline away from those that haven't run.
use Rattle.std.proofs.Common.{◌≡◌, ℕ, suc, ◌<◌, ◌≤◌, Bool, true, false, not, ◌&&◌, ◌||◌, cond, List, [], ◌∷◌, ◌++◌, length, get_or, filter, fold, refl, sym, ap, ◌∙◌, subst, arith}
use Rattle.std.specs.List.{All}
use Rattle.std.specs.Str.{bytes_eq}
use Rattle.std.proofs.lemmas.List.Elements.{All-nil, All-cons, All-head, All-tail, All-append, All-filter, filter_passes}
use Rattle.std.proofs.lemmas.List.Folds.{list_any-append}
use Rattle.gl_fields.specs.Fields.{comes_before}
use Rattle.gl_fields.proofs.Names.{itself_same}
use Rattle.gl_rulelang.specs.declared.pipeline.Pipeline.{Pipeline}
use Rattle.gl_stage.specs.Stages.{is_among}
use Rattle.gl_stage.specs.Rounds.{Layout, is_connected, is_due, with_pipeline, due, names_of}

-- How a test that passes less passes fewer.

pub both : (a b : Bool) → (a && b) ≡ true → a ≡ true
both true b e = refl
both false b e = e

pub not_more : (old new : Pipeline → Bool) → ((p : Pipeline) → new p ≡ true → old p ≡ true) → (xs : List Pipeline)
    → length (filter new xs) ≤ length (filter old xs)
not_more old new less [] = omega arith
not_more old new less (x ∷ xs) = by (new x) (old x) (less x) (not_more old new less xs)
  where
    by : (n o : Bool) → (n ≡ true → o ≡ true) → length (filter new xs) ≤ length (filter old xs)
        → length (cond n (x ∷ filter new xs) (filter new xs)) ≤ length (cond o (x ∷ filter old xs) (filter old xs))
    by true true h rest = omega (arith, rest)
    by true false h rest = absurd (cc (h refl))
    by false true h rest = omega (arith, rest)
    by false false h rest = rest

-- a test that doesn't pass this one any more passes fewer of these
abbrev pub Shortens : (Pipeline → Bool) → List Pipeline → Pipeline → Type 0
Shortens old xs p = (new : Pipeline → Bool) → ((q : Pipeline) → new q ≡ true → old q ≡ true) → new p ≡ false → length (filter new xs) < length (filter old xs)

here : (old : Pipeline → Bool) (x : Pipeline) (xs : List Pipeline) → old x ≡ true → Shortens old (x ∷ xs) x
here old x xs passed new less gone =
    subst (λ n. length (cond n (x ∷ filter new xs) (filter new xs)) < length (filter old (x ∷ xs))) (sym gone)
    (subst (λ o. length (filter new xs) < length (cond o (x ∷ filter old xs) (filter old xs))) (sym passed)
    (omega (arith, not_more old new less xs)))

there : (old : Pipeline → Bool) (x : Pipeline) (xs : List Pipeline) (p : Pipeline) → Shortens old xs p → Shortens old (x ∷ xs) p
there old x xs p short new less gone = by (new x) (old x) (less x)
  where
    by : (n o : Bool) → (n ≡ true → o ≡ true)
        → length (cond n (x ∷ filter new xs) (filter new xs)) < length (cond o (x ∷ filter old xs) (filter old xs))
    by true true h = omega (arith, short new less gone)
    by true false h = absurd (cc (h refl))
    by false true h = omega (arith, short new less gone)
    by false false h = short new less gone

each_shortens : (old : Pipeline → Bool) (xs : List Pipeline) → All (λ p. old p ≡ true → Shortens old xs p) xs
each_shortens old [] = All-nil (λ p. old p ≡ true → Shortens old [] p)
each_shortens old (x ∷ xs) =
    All-cons (λ p. old p ≡ true → Shortens old (x ∷ xs) p) x xs (here old x xs)
    (λ k d lt passed. there old x xs _ (each_shortens old xs k d lt passed))

-- What holds of pipelines holds of them by rising name.

all_with : (P : Pipeline → Type 0) (round : List Pipeline) (p : Pipeline) → All P round → P p → All P (with_pipeline round p)
all_with P round p all one =
    All-append P (filter (λ other. comes_before other.name p.name) round) (p ∷ filter (λ other. comes_before p.name other.name) round)
    (All-filter (λ other. comes_before other.name p.name) P round all)
    (All-cons P p (filter (λ other. comes_before p.name other.name) round) one (All-filter (λ other. comes_before p.name other.name) P round all))

all_along : (P : Pipeline → Type 0) (round xs : List Pipeline) → All P round → All P xs → All P (fold with_pipeline round xs)
all_along P round [] all alls = all
all_along P round (x ∷ xs) all alls = all_along P (with_pipeline round x) xs (all_with P round x all (All-head P x xs alls)) (All-tail P x xs alls)

-- Pipelines that haven't run.

abbrev pub waits : List (List ℕ) → Pipeline → Bool
waits ran p = not (is_among ran p.name)

-- how many there are
abbrev pub waiting : Layout → List (List ℕ) → ℕ
waiting layout ran = length (filter (waits ran) layout.pipelines)

due_shortens : (layout : Layout) (ran : List (List ℕ)) (streams : List ℕ) → All (Shortens (waits ran) layout.pipelines) (due layout ran streams)
due_shortens layout ran streams =
    let test = is_due layout.connections ran streams in
    let P = Shortens (waits ran) layout.pipelines in
    all_along P [] (filter test layout.pipelines) (All-nil P)
    (λ k d lt. All-filter test (λ p. waits ran p ≡ true → P p) layout.pipelines (each_shortens (waits ran) layout.pipelines) k d lt
    (both (waits ran (get_or (filter test layout.pipelines) k d)) (is_connected layout.connections streams (get_or (filter test layout.pipelines) k d).name)
    (filter_passes test layout.pipelines k d lt)))

not_or : (a b : Bool) → not (a || b) ≡ true → not a ≡ true
not_or true b e = e
not_or false b e = refl

or_true : (a : Bool) → not (a || true) ≡ false
or_true true = refl
or_true false = refl

pub fewer_wait : (layout : Layout) (ran : List (List ℕ)) (streams : List ℕ) (p : Pipeline) (ps : List Pipeline)
    → due layout ran streams ≡ p ∷ ps → waiting layout (ran ++ names_of (p ∷ ps)) < waiting layout ran
fewer_wait layout ran streams p ps e =
    let first = All-head (Shortens (waits ran) layout.pipelines) p ps (subst (All (Shortens (waits ran) layout.pipelines)) e (due_shortens layout ran streams)) in
    first (waits (ran ++ names_of (p ∷ ps)))
    (λ q h. not_or (is_among ran q.name) (is_among (names_of (p ∷ ps)) q.name) (sym (ap not (list_any-append (bytes_eq q.name) ran (names_of (p ∷ ps)))) ∙ h))
    (ap not (list_any-append (bytes_eq p.name) ran (names_of (p ∷ ps)))
    ∙ ap (λ b. not (is_among ran p.name || (b || is_among (names_of ps) p.name))) (itself_same p.name)
    ∙ or_true (is_among ran p.name))

-- at first each pipeline waits, if there are so many
pub at_most_all : (layout : Layout) (ran : List (List ℕ)) → waiting layout ran < suc (length layout.pipelines)
at_most_all layout ran = by layout.pipelines
  where
    by : (xs : List Pipeline) → length (filter (waits ran) xs) < suc (length xs)
    by [] = omega arith
    by (x ∷ xs) = elim (waits ran x) as (λ b. length (cond b (x ∷ filter (waits ran) xs) (filter (waits ran) xs)) < suc (length (x ∷ xs))) [
      | true ↦ omega (arith, by xs)
      | false ↦ omega (arith, by xs)
    ]
