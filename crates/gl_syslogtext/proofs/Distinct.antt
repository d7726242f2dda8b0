-- Ids that stand once, as a set of those before tells it.
use Rattle.std.proofs.Common.{◌≡◌, ℕ, ◌+◌, ◌<◌, Bool, true, false, not, ◌&&◌, ◌||◌, cond, List, [], ◌∷◌, ◌++◌, length, get_or, take, drop, refl, sym, ap, ap₂, ◌∙◌}
use Rattle.std.specs.List.{list_any}
use Rattle.std.specs.Str.{bytes_eq}
use Rattle.std.proofs.lemmas.List.{take_more, take-append-drop, map-append}
use Rattle.std.proofs.lemmas.List.Folds.{list_any-append}
use Rattle.std.proofs.lemmas.Slice.Eq.{bytes_eq-Decides}
use Rattle.std.proofs.lemmas.Bool.Decides.{same_from_decides, Decides-like}
use Rattle.gl_syslogtext.specs.declared.parts.Element.{Element}
use Rattle.gl_syslogtext.specs.MessageReading.{are_distinct, ids_of}

pub eq_sym : (x y : List ℕ) → bytes_eq x y ≡ bytes_eq y x
eq_sym x y = same_from_decides (bytes_eq x y) (bytes_eq y x) (bytes_eq-Decides x y) (Decides-like (bytes_eq y x) sym sym (bytes_eq-Decides y x))

regroup : (a b d e : Bool) → (not (a || (b || false)) && (d && not e)) ≡ ((not a && d) && not (b || e))
regroup true b d e = refl
regroup false true true e = refl
regroup false true false e = refl
regroup false false true e = refl
regroup false false false e = refl

pub distinct_push : (xs : List (List ℕ)) (x : List ℕ) → are_distinct (xs ++ x ∷ []) ≡ (are_distinct xs && not (list_any (bytes_eq x) xs))
distinct_push [] x = refl
distinct_push (y ∷ xs) x =
    ap₂ (λ (a b : Bool). not a && b) (list_any-append (bytes_eq y) xs (x ∷ [])) (distinct_push xs x)
    ∙ regroup (list_any (bytes_eq y) xs) (bytes_eq y x) (are_distinct xs) (list_any (bytes_eq x) xs)
    ∙ ap (λ (b : Bool). (not (list_any (bytes_eq y) xs) && are_distinct xs) && not (b || list_any (bytes_eq x) xs)) (eq_sym y x)

both_true : (a b : Bool) → (a && b) ≡ true → (a ≡ true) × (b ≡ true)
both_true true b h = (refl, h)
both_true false b h = absurd cc

front_step : (a b d : Bool) → (a || b) ≡ false → d ≡ true → (not a && d) ≡ true
front_step true b d h k = absurd cc
front_step false b d h k = k

is_false : (a : Bool) → not a ≡ true → a ≡ false
is_false true h = absurd cc
is_false false h = refl

-- what stands in front of distinct ids is distinct
pub distinct_front : (xs ys : List (List ℕ)) → are_distinct (xs ++ ys) ≡ true → are_distinct xs ≡ true
distinct_front [] ys h = refl
distinct_front (x ∷ xs) ys h =
    let both = both_true (not (list_any (bytes_eq x) (xs ++ ys))) (are_distinct (xs ++ ys)) h in
    let none : (list_any (bytes_eq x) xs || list_any (bytes_eq x) ys) ≡ false = sym (list_any-append (bytes_eq x) xs ys) ∙ is_false (list_any (bytes_eq x) (xs ++ ys)) both.0 in
    front_step (list_any (bytes_eq x) xs) (list_any (bytes_eq x) ys) (are_distinct xs) none (distinct_front xs ys both.1)

pub ids_more : (es : List Element) (i : ℕ) (e : Element) → i < length es → e ≡ get_or es i e → ids_of (take (i + 1) es) ≡ ids_of (take i es) ++ e.id ∷ []
ids_more es i e lt is =
    ap ids_of (take_more es i e lt) ∙ map-append (λ (x : Element). x.id) (take i es) (get_or es i e ∷ []) ∙ ap (λ (x : Element). ids_of (take i es) ++ x.id ∷ []) (sym is)

seen_step : (a b : Bool) → cond b true a ≡ (a || (b || false))
seen_step true true = refl
seen_step true false = refl
seen_step false true = refl
seen_step false false = refl

-- what the set has, an id later
pub seen_more : (ids : List (List ℕ)) (x q : List ℕ) (is old new : Bool) → old ≡ list_any (bytes_eq q) ids → new ≡ cond is true old → is ≡ bytes_eq x q → new ≡ list_any (bytes_eq q) (ids ++ x ∷ [])
seen_more ids x q is old new o n e =
    n ∙ ap₂ (λ (b a : Bool). cond b true a) (e ∙ eq_sym x q) o ∙ seen_step (list_any (bytes_eq q) ids) (bytes_eq q x) ∙ sym (list_any-append (bytes_eq q) ids (x ∷ []))

pub still_distinct : (ids : List (List ℕ)) (x : List ℕ) → are_distinct ids ≡ true → list_any (bytes_eq x) ids ≡ false → are_distinct (ids ++ x ∷ []) ≡ true
still_distinct ids x h none = distinct_push ids x ∙ ap₂ (λ (a b : Bool). a && not b) h none

not_true : (a : Bool) → (a ≡ true → ⊥) → a ≡ false
not_true true h = absurd (h refl)
not_true false h = refl

pub twice : (es : List Element) (i : ℕ) (x : List ℕ) → ids_of (take (i + 1) es) ≡ ids_of (take i es) ++ x ∷ [] → list_any (bytes_eq x) (ids_of (take i es)) ≡ true → are_distinct (ids_of es) ≡ false
twice es i x more found =
    not_true (are_distinct (ids_of es)) (λ h.
    let whole : ids_of es ≡ ids_of (take (i + 1) es) ++ ids_of (drop (i + 1) es) =
    ap ids_of (sym (take-append-drop (i + 1) es)) ∙ map-append (λ (y : Element). y.id) (take (i + 1) es) (drop (i + 1) es) in
    let front : are_distinct (ids_of (take (i + 1) es)) ≡ true = distinct_front (ids_of (take (i + 1) es)) (ids_of (drop (i + 1) es)) (ap are_distinct (sym whole) ∙ h) in
    let both = both_true (are_distinct (ids_of (take i es))) (not (list_any (bytes_eq x) (ids_of (take i es)))) (sym (distinct_push (ids_of (take i es)) x) ∙ ap are_distinct (sym more) ∙ front) in
    let none = is_false (list_any (bytes_eq x) (ids_of (take i es))) both.1 in
    cc)

pub known : (a b : Bool) (old : Bool) → a ≡ false → a ≡ not b → b ≡ old → old ≡ true
known a true old h n o = sym o
known a false old h n o = absurd cc

pub unknown : (a b : Bool) (old : Bool) → a ≡ true → a ≡ not b → b ≡ old → old ≡ false
unknown a false old h n o = sym o
unknown a true old h n o = absurd cc
