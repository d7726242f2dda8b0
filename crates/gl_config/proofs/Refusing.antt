-- Causes, one before another.
use Rattle.std.proofs.Common.{◌≡◌, ℕ, zero, suc, ◌+◌, ◌<◌, List, [], ◌∷◌, ◌++◌, length, get_or, take, map, Some, None, Result, Ok, Err, refl, sym, ap, ◌∙◌, subst, arith}
use Rattle.std.specs.Option.{option_or}
use Rattle.std.specs.Result.{IsErrAnd, IfErr}
use Rattle.std.proofs.lemmas.List.{take_more}
use Rattle.gl_settings.specs.declared.refusal.ConfigRefusal.{ConfigRefusal}
use Rattle.gl_settings.specs.declared.refusal.ConfigRefusal.TheVariants.{VersionConflict, NameTaken, UnknownName, BadName, BadText, PatternRefused, Limit, Budget, OutOfMemory}
use Rattle.gl_settings.specs.Settings.{Settings}
use Rattle.gl_settings.specs.Limits.{limit_of, Refuses}
use Rattle.gl_commands.specs.declared.command.Command.{Command}
use Rattle.gl_config.specs.Next.{next_settings}
use Rattle.gl_config.specs.Applying.{Cause, first_of, first_refusal, refused_by, applied, Answers}

-- a refusal stands for what has its cause
pub refuses_by : (a b : Cause) (e : ConfigRefusal) → ((r : ConfigRefusal) → a ≡ Some r → b ≡ Some r) → Refuses a e → Refuses b e
refuses_by a b (VersionConflict present) f h = f (VersionConflict present) h
refuses_by a b NameTaken f h = f NameTaken h
refuses_by a b UnknownName f h = f UnknownName h
refuses_by a b BadName f h = f BadName h
refuses_by a b (BadText text) f h = f (BadText text) h
refuses_by a b PatternRefused f h = f PatternRefused h
refuses_by a b (Limit which limit) f h = f (Limit which limit) h
refuses_by a b (Budget sum limit) f h = f (Budget sum limit) h
refuses_by a b OutOfMemory f h = tt

pub refuses_first : (a b : Cause) (e : ConfigRefusal) → Refuses a e → Refuses (option_or a b) e
refuses_first a b e h = refuses_by a (option_or a b) e (λ r is. ap (λ (c : Cause). option_or c b) is) h

pub refuses_later : (a b : Cause) (e : ConfigRefusal) → a ≡ None → Refuses b e → Refuses (option_or a b) e
refuses_later a b e none h = refuses_by b (option_or a b) e (λ r is. ap (λ (c : Cause). option_or c b) none ∙ is) h

pub none_both : (a b : Cause) → a ≡ None → b ≡ None → option_or a b ≡ None
none_both a b e f = ap (λ (c : Cause). option_or c b) e ∙ f

-- the exit of a `?`

pub exit : {T : Type 0} (r : Result T ConfigRefusal) (e : ConfigRefusal) (cause : Cause) → IsErrAnd r (λ y. y ≡ e) → Refuses cause e → IfErr r (Refuses cause)
exit (Ok x) e cause h k = absurd h
exit (Err y) e cause h k = subst (Refuses cause) (sym h) k

pub answered : (r : Result Settings ConfigRefusal) (e : ConfigRefusal) (expected : Result Settings ConfigRefusal) → IsErrAnd r (λ y. y ≡ e) → Answers (Err e) expected → Answers r expected
answered (Ok x) e expected h k = absurd h
answered (Err y) e expected h k = subst (λ r. Answers (Err r) expected) (sym h) k

-- the causes of a list, one on

pub firsts_append : {A : Type 0} (f : A → Cause) (xs ys : List A) → first_of (map f (xs ++ ys)) ≡ option_or (first_of (map f xs)) (first_of (map f ys))
firsts_append f [] ys = refl
firsts_append f (x ∷ xs) ys = by (f x) (firsts_append f xs ys)
  where
    by : (c : Cause) → first_of (map f (xs ++ ys)) ≡ option_or (first_of (map f xs)) (first_of (map f ys))
        → option_or c (first_of (map f (xs ++ ys))) ≡ option_or (option_or c (first_of (map f xs))) (first_of (map f ys))
    by None rest = rest
    by (Some r) rest = refl

or_nothing : (c : Cause) → option_or c None ≡ c
or_nothing None = refl
or_nothing (Some r) = refl

pub firsts_more : {A : Type 0} (f : A → Cause) (xs : List A) (i : ℕ) (d : A) → i < length xs → first_of (map f (take i xs)) ≡ None → f (get_or xs i d) ≡ None → first_of (map f (take (i + 1) xs)) ≡ None
firsts_more f xs i d lt before here =
    ap (λ ys. first_of (map f ys)) (take_more xs i d lt)
    ∙ firsts_append f (take i xs) (get_or xs i d ∷ [])
    ∙ none_both (first_of (map f (take i xs))) (option_or (f (get_or xs i d)) None) before (or_nothing (f (get_or xs i d)) ∙ here)

pub firsts_at : {A : Type 0} (f : A → Cause) (xs : List A) (i : ℕ) (d : A) (e : ConfigRefusal) → i < length xs → first_of (map f (take i xs)) ≡ None → Refuses (f (get_or xs i d)) e → Refuses (first_of (map f xs)) e
firsts_at f [] i d e lt before h = absurd (omega (arith, lt))
firsts_at f (x ∷ xs) zero d e lt before h = refuses_first (f x) (first_of (map f xs)) e h
firsts_at f (x ∷ xs) (suc i) d e lt before h = by (f x) refl before (λ rest. firsts_at f xs i d e (omega (arith, lt)) rest h)
  where
    by : (c : Cause) → f x ≡ c → option_or c (first_of (map f (take i xs))) ≡ None → (first_of (map f (take i xs)) ≡ None → Refuses (first_of (map f xs)) e)
        → Refuses (option_or (f x) (first_of (map f xs))) e
    by None is none later = refuses_later (f x) (first_of (map f xs)) e is (later none)
    by (Some r) is none later = absurd cc

pub firsts_pushed : {A : Type 0} (f : A → Cause) (xs : List A) (x : A) → first_of (map f xs) ≡ None → f x ≡ None → first_of (map f (xs ++ x ∷ [])) ≡ None
firsts_pushed f xs x before here =
    firsts_append f xs (x ∷ []) ∙ none_both (first_of (map f xs)) (option_or (f x) None) before (or_nothing (f x) ∙ here)

pub firsts_in : {A : Type 0} (f : A → Cause) (xs : List A) (x : A) (rest : List A) (e : ConfigRefusal) → first_of (map f xs) ≡ None → Refuses (f x) e → Refuses (first_of (map f (xs ++ x ∷ rest))) e
firsts_in f xs x rest e before h =
    refuses_by (f x) (first_of (map f (xs ++ x ∷ rest))) e
    (λ r is. firsts_append f xs (x ∷ rest) ∙ ap (λ (a : Cause). option_or a (option_or (f x) (first_of (map f rest)))) before ∙ ap (λ (a : Cause). option_or a (first_of (map f rest))) is) h

-- what `apply` answers

answers_by : (e : ConfigRefusal) (c : Settings) (command : Command) (a : Cause) → ((r : ConfigRefusal) → a ≡ Some r → applied c command ≡ Err r) → Refuses a e → Answers (Err e) (applied c command)
answers_by (VersionConflict present) c command a f h = f (VersionConflict present) h
answers_by NameTaken c command a f h = f NameTaken h
answers_by UnknownName c command a f h = f UnknownName h
answers_by BadName c command a f h = f BadName h
answers_by (BadText text) c command a f h = f (BadText text) h
answers_by PatternRefused c command a f h = f PatternRefused h
answers_by (Limit which limit) c command a f h = f (Limit which limit) h
answers_by (Budget sum limit) c command a f h = f (Budget sum limit) h
answers_by OutOfMemory c command a f h = tt

pub answers_refused : (c : Settings) (command : Command) (e : ConfigRefusal) → Refuses (first_refusal c command) e → Answers (Err e) (applied c command)
unfolding applied
answers_refused c command e h =
    answers_by e c command (first_refusal c command)
    (λ r is. ap (λ (a : Cause). refused_by (option_or a (limit_of (next_settings c command))) (next_settings c command)) is) h

pub answers_limited : (c : Settings) (command : Command) (e : ConfigRefusal) → first_refusal c command ≡ None → Refuses (limit_of (next_settings c command)) e → Answers (Err e) (applied c command)
unfolding applied
answers_limited c command e none h =
    answers_by e c command (limit_of (next_settings c command))
    (λ r is. ap (λ (a : Cause). refused_by (option_or a (limit_of (next_settings c command))) (next_settings c command)) none
    ∙ ap (λ (a : Cause). refused_by a (next_settings c command)) is) h

pub answers_made : (c : Settings) (command : Command) (made : Settings) → first_refusal c command ≡ None → limit_of (next_settings c command) ≡ None → made ≡ next_settings c command → Answers (Ok made) (applied c command)
unfolding applied
answers_made c command made none within is =
    ap (λ (a : Cause). refused_by (option_or a (limit_of (next_settings c command))) (next_settings c command)) none
    ∙ ap (λ (a : Cause). refused_by a (next_settings c command)) within
    ∙ ap (λ (s : Settings). Ok s) (sym is)
