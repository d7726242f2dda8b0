-- Where patterns lie, over parts of a list.
use Rattle.std.proofs.Common.{◌≡◌, ℕ, zero, suc, ◌+◌, ◌<◌, ◌≤◌, List, [], ◌∷◌, ◌++◌, length, take, drop, get_or, refl, sym, ap, ◌∙◌, arith, drop-drop, take-take}
use Rattle.std.proofs.lemmas.List.{length-append, drop-take}
use Rattle.std.proofs.Math.Seq.{take-append_seam, drop-append_seam, take-length}
use Rattle.gl_eval.specs.Patterns.{StandAt}

pub first_stand : (at : ℕ) (xs ys ps : List (List ℕ)) → StandAt at (xs ++ ys) ps → StandAt at xs ps
first_stand at xs ys ps h =
    let le : length xs ≤ length (xs ++ ys) = omega (arith, length-append xs ys) in
    sym (take-take (length xs) (length (xs ++ ys)) (drop at ps) le) ∙ ap (take (length xs)) h ∙ take-append_seam xs ys

pub second_stand : (at : ℕ) (xs ys ps : List (List ℕ)) → StandAt at (xs ++ ys) ps → StandAt (at + length xs) ys ps
second_stand at xs ys ps h =
    let here : take (length xs + length ys) (drop at ps) ≡ xs ++ ys = ap (λ n. take n (drop at ps)) (sym (length-append xs ys)) ∙ h in
    let rest : take (length ys) (drop (length xs) (drop at ps)) ≡ ys = sym (drop-take (length xs) (length ys) (drop at ps)) ∙ ap (drop (length xs)) here ∙ drop-append_seam xs ys in
    ap (take (length ys)) (sym (drop-drop (length xs) at ps)) ∙ rest

-- the pattern at a place
pub stands_here : (at : ℕ) (t : List ℕ) (ps : List (List ℕ)) → StandAt at (t ∷ []) ps → (at < length ps) × (get_or ps at [] ≡ t)
stands_here zero t [] h = absurd (cc)
stands_here zero t (p ∷ ps) h = (omega arith, cc)
stands_here (suc at) t [] h = absurd (cc)
stands_here (suc at) t (p ∷ ps) h = let rest : (at < length ps) × (get_or ps at [] ≡ t) = stands_here at t ps h in (omega (arith, rest.0), rest.1)

pub all_stand : (ps : List (List ℕ)) → StandAt 0 ps ps
all_stand ps = take-length ps
