-- Parts of bytes that grow at their end.
use Rattle.std.proofs.Common.{◌≡◌, ℕ, ◌||◌, ◌==◌, Bool, true, false, cond, List, [], ◌∷◌, ◌++◌, refl, sym, ap, ◌∙◌, arith}
use Rattle.std.specs.List.{list_any, list_all}
use Rattle.std.specs.Prelude.{not}
use Rattle.std.proofs.lemmas.Bool.{and_parts}
use Rattle.gl_lines.specs.ZeroFraming.{put, parts_of, is_long, with_part, ended_of, frames_of, is_too_long, last_part, open_of}

-- no zero byte
abbrev pub is_joined : List ℕ → Bool
is_joined x = list_all (λ b. not (b == 0)) x

-- bytes join the last part
abbrev pub with_last : List ℕ → List (List ℕ) → List (List ℕ)
with_last x [] = x ∷ []
with_last x (part ∷ []) = (part ++ x) ∷ []
with_last x (part ∷ next ∷ parts) = part ∷ with_last x (next ∷ parts)

pub record Some (parts : List (List ℕ)) : Type 0 where
  pub first : List ℕ
  pub rest : List (List ℕ)
  pub is : parts ≡ first ∷ rest

put_some : (t : Bool) (b : ℕ) (parts : List (List ℕ)) → Some (put t b parts)
put_some true b parts = record { first = []; rest = parts; is = refl }
put_some false b [] = record { first = b ∷ []; rest = []; is = refl }
put_some false b (p ∷ ps) = record { first = b ∷ p; rest = ps; is = refl }

pub some_part : (bytes : List ℕ) → Some (parts_of bytes)
unfolding parts_of
some_part [] = record { first = []; rest = []; is = refl }
some_part (b ∷ bytes) = put_some (b == 0) b (parts_of bytes)

put_last : (t : Bool) (b : ℕ) (x first : List ℕ) (rest : List (List ℕ)) → put t b (with_last x (first ∷ rest)) ≡ with_last x (put t b (first ∷ rest))
put_last true b x first rest = refl
put_last false b x first [] = refl
put_last false b x first (p ∷ ps) = refl

joined_parts : (x : List ℕ) → is_joined x ≡ true → parts_of x ≡ x ∷ []
unfolding parts_of
joined_parts [] h = refl
joined_parts (b ∷ x) h =
    let p = and_parts (not (b == 0)) (is_joined x) h in
    let no : (b == 0) ≡ false = grind arith in
    ap (λ (t : Bool). put t b (parts_of x)) no ∙ ap (put false b) (joined_parts x p.1)

pub parts_join : (a x : List ℕ) → is_joined x ≡ true → parts_of (a ++ x) ≡ with_last x (parts_of a)
unfolding parts_of
parts_join [] x h = joined_parts x h
parts_join (b ∷ a) x h =
    let s = some_part a in
    ap (put (b == 0) b) (parts_join a x h ∙ ap (with_last x) s.is) ∙ put_last (b == 0) b x s.first s.rest ∙ ap (λ (l : List (List ℕ)). with_last x (put (b == 0) b l)) (sym s.is)

put_more : (t : Bool) (b : ℕ) (first : List ℕ) (rest : List (List ℕ)) → put t b ((first ∷ rest) ++ [] ∷ []) ≡ put t b (first ∷ rest) ++ [] ∷ []
put_more true b first rest = refl
put_more false b first rest = refl

pub parts_end : (a : List ℕ) → parts_of (a ++ 0 ∷ []) ≡ parts_of a ++ [] ∷ []
unfolding parts_of
parts_end [] = refl
parts_end (b ∷ a) =
    let s = some_part a in
    ap (put (b == 0) b) (parts_end a ∙ ap (λ (l : List (List ℕ)). l ++ [] ∷ []) s.is) ∙ put_more (b == 0) b s.first s.rest ∙ ap (λ (l : List (List ℕ)). put (b == 0) b l ++ [] ∷ []) (sym s.is)

-- what of that is seen

ended_join : (x : List ℕ) (first : List ℕ) (rest : List (List ℕ)) → ended_of (with_last x (first ∷ rest)) ≡ ended_of (first ∷ rest)
ended_join x first [] = refl
ended_join x first (next ∷ []) = refl
ended_join x first (next ∷ other ∷ rest) = ap (λ (l : List (List ℕ)). cond (is_long first) [] (with_part first l)) (ended_join x next (other ∷ rest))

last_join : (x : List ℕ) (first : List ℕ) (rest : List (List ℕ)) → last_part (with_last x (first ∷ rest)) ≡ last_part (first ∷ rest) ++ x
last_join x first [] = refl
last_join x first (next ∷ []) = refl
last_join x first (next ∷ other ∷ rest) = last_join x next (other ∷ rest)

last_end : (first : List ℕ) (rest : List (List ℕ)) → last_part ((first ∷ rest) ++ [] ∷ []) ≡ []
last_end first [] = refl
last_end first (next ∷ rest) = last_end next rest

pub frames_join : (a x : List ℕ) → is_joined x ≡ true → frames_of (a ++ x) ≡ frames_of a
unfolding frames_of
frames_join a x h = let s = some_part a in ap ended_of (parts_join a x h ∙ ap (with_last x) s.is) ∙ ended_join x s.first s.rest ∙ ap ended_of (sym s.is)

pub open_join : (a x : List ℕ) → is_joined x ≡ true → open_of (a ++ x) ≡ open_of a ++ x
unfolding open_of
open_join a x h = let s = some_part a in ap last_part (parts_join a x h ∙ ap (with_last x) s.is) ∙ last_join x s.first s.rest ∙ ap (λ (l : List (List ℕ)). last_part l ++ x) (sym s.is)

pub open_end : (a : List ℕ) → open_of (a ++ 0 ∷ []) ≡ []
unfolding open_of
open_end a = let s = some_part a in ap last_part (parts_end a ∙ ap (λ (l : List (List ℕ)). l ++ [] ∷ []) s.is) ∙ last_end s.first s.rest

-- none is too long
or_parts : (a b : Bool) → a || b ≡ false → (a ≡ false) × (b ≡ false)
or_parts true b h = absurd cc
or_parts false b h = (refl, h)

long_end : (ps : List (List ℕ)) → list_any is_long (ps ++ [] ∷ []) ≡ list_any is_long ps
long_end [] = refl
long_end (p ∷ ps) = ap (λ (t : Bool). is_long p || t) (long_end ps)

pub too_long_end : (a : List ℕ) → is_too_long (a ++ 0 ∷ []) ≡ is_too_long a
unfolding is_too_long
too_long_end a = ap (list_any is_long) (parts_end a) ∙ long_end (parts_of a)

with_none : (p : List ℕ) (fs gs : List (List ℕ)) → with_part p fs ++ gs ≡ with_part p (fs ++ gs)
with_none [] fs gs = refl
with_none (b ∷ p) fs gs = refl

ended_end : (first : List ℕ) (rest : List (List ℕ)) → list_any is_long (first ∷ rest) ≡ false → ended_of ((first ∷ rest) ++ [] ∷ []) ≡ ended_of (first ∷ rest) ++ with_part (last_part (first ∷ rest)) []
ended_end first [] h =
    let short : is_long first ≡ false = (or_parts (is_long first) false h).0 in
    rw short refl
ended_end first (next ∷ rest) h =
    let p = or_parts (is_long first) (list_any is_long (next ∷ rest)) h in
    rw (p.0, ended_end next rest p.1) (sym (with_none first (ended_of (next ∷ rest)) (with_part (last_part (next ∷ rest)) [])))

pub frames_end : (a : List ℕ) → is_too_long a ≡ false → frames_of (a ++ 0 ∷ []) ≡ frames_of a ++ with_part (open_of a) []
unfolding frames_of open_of is_too_long
frames_end a h =
    let s = some_part a in
    ap ended_of (parts_end a ∙ ap (λ (l : List (List ℕ)). l ++ [] ∷ []) s.is) ∙ ended_end s.first s.rest (ap (list_any is_long) (sym s.is) ∙ h)
    ∙ ap (λ (l : List (List ℕ)). ended_of l ++ with_part (last_part l) []) (sym s.is)

or_none : (a : Bool) → a || false ≡ a
or_none true = refl
or_none false = refl

long_join : (x : List ℕ) (first : List ℕ) (rest : List (List ℕ)) → list_any is_long (first ∷ rest) ≡ false → list_any is_long (with_last x (first ∷ rest)) ≡ is_long (last_part (first ∷ rest) ++ x)
long_join x first [] h = or_none (is_long (first ++ x))
long_join x first (next ∷ rest) h =
    let p = or_parts (is_long first) (list_any is_long (next ∷ rest)) h in
    rw p.0 (long_join x next rest p.1)

pub too_long_join : (a x : List ℕ) → is_joined x ≡ true → is_too_long a ≡ false → is_too_long (a ++ x) ≡ is_long (open_of a ++ x)
unfolding is_too_long open_of
too_long_join a x h none =
    let s = some_part a in
    ap (list_any is_long) (parts_join a x h ∙ ap (with_last x) s.is) ∙ long_join x s.first s.rest (ap (list_any is_long) (sym s.is) ∙ none) ∙ ap (λ (l : List (List ℕ)). is_long (last_part l ++ x)) (sym s.is)
