-- A message, by the parts before and behind the chunk that comes last.
use Rattle.std.proofs.Common.{◌≡◌, ◌<◌, ◌+◌, ℕ, suc, Bool, true, false, cond, ◌&&◌, List, [], ◌∷◌, ◌++◌, length, take, drop, is_some, slice_set, append_assoc, Option, Some, None, drop-drop, refl, sym, ap, ◌∙◌, arith}
use Rattle.std.specs.List.{list_all, flat_map}
use Rattle.std.proofs.lemmas.List.{set_split}
use Rattle.gl_chunks.specs.Chunks.{data_of, message}

all_append : (xs ys : List (Option (List ℕ))) → list_all is_some (xs ++ ys) ≡ (list_all is_some xs && list_all is_some ys)
all_append [] ys = refl
all_append (x ∷ xs) ys = elim (is_some x) as (λ b. (b && list_all is_some (xs ++ ys)) ≡ ((b && list_all is_some xs) && list_all is_some ys)) [ true ↦ all_append xs ys | false ↦ refl ]

flat_append : (xs ys : List (Option (List ℕ))) → flat_map data_of (xs ++ ys) ≡ flat_map data_of xs ++ flat_map data_of ys
flat_append [] ys = refl
flat_append (x ∷ xs) ys = ap (λ (l : List ℕ). data_of x ++ l) (flat_append xs ys) ∙ sym (append_assoc (data_of x) (flat_map data_of xs) (flat_map data_of ys))

and_false : (b : Bool) → (b && false) ≡ false
and_false true = refl
and_false false = refl

pub set_is : (parts front rest back : List (Option (List ℕ))) (n : ℕ) (part : List ℕ) → n < length parts → front ≡ take n parts → rest ≡ drop n parts → back ≡ drop 1 rest
    → slice_set parts n (Some part) ≡ front ++ Some part ∷ back
set_is parts front rest back n part lt front_is rest_is back_is =
    let next : n + 1 ≡ suc n = omega arith in
    let one : drop 1 (drop n parts) ≡ drop (suc n) parts = drop-drop 1 n parts ∙ ap (λ (k : ℕ). drop k parts) next in
    set_split parts n (Some part) lt
    ∙ ap (λ (l : List (Option (List ℕ))). take n parts ++ Some part ∷ l) (sym one ∙ ap (λ (l : List (Option (List ℕ))). drop 1 l) (sym rest_is) ∙ sym back_is)
    ∙ ap (λ (l : List (Option (List ℕ))). l ++ Some part ∷ back) (sym front_is)

pub no_front : (front back : List (Option (List ℕ))) (part : List ℕ) → list_all is_some front ≡ false → message (front ++ Some part ∷ back) ≡ None
unfolding message
no_front front back part e =
    ap (λ (b : Bool). cond b (Some (flat_map data_of (front ++ Some part ∷ back))) None) (all_append front (Some part ∷ back) ∙ ap (λ (b : Bool). b && list_all is_some back) e)

pub no_back : (front back : List (Option (List ℕ))) (part : List ℕ) → list_all is_some back ≡ false → message (front ++ Some part ∷ back) ≡ None
unfolding message
no_back front back part e =
    ap (λ (b : Bool). cond b (Some (flat_map data_of (front ++ Some part ∷ back))) None) (all_append front (Some part ∷ back) ∙ ap (λ (b : Bool). list_all is_some front && b) e ∙ and_false (list_all is_some front))

pub whole : (front back : List (Option (List ℕ))) (part start one two three : List ℕ) → list_all is_some front ≡ true → list_all is_some back ≡ true
    → start ≡ [] → one ≡ start ++ flat_map data_of front → two ≡ one ++ part → three ≡ two ++ flat_map data_of back → Some three ≡ message (front ++ Some part ∷ back)
unfolding message
whole front back part start one two three e f start_is one_was two_is three_is = let one_is = one_was ∙ ap (λ (l : List ℕ). l ++ flat_map data_of front) start_is in sym (
    ap (λ (b : Bool). cond b (Some (flat_map data_of (front ++ Some part ∷ back))) None) (all_append front (Some part ∷ back) ∙ ap (λ (b : Bool). b && list_all is_some back) e ∙ f)
    ∙ ap (λ (l : List ℕ). Some l) (flat_append front (Some part ∷ back) ∙ sym (append_assoc (flat_map data_of front) part (flat_map data_of back))
    ∙ ap (λ (l : List ℕ). (l ++ part) ++ flat_map data_of back) (sym one_is) ∙ ap (λ (l : List ℕ). l ++ flat_map data_of back) (sym two_is) ∙ sym three_is))
