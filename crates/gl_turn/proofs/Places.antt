-- The entries at the positions that a journal gained, then and in every later journal.
use Rattle.std.proofs.Common.{◌≡◌, ℕ, zero, suc, ◌+◌, ◌<◌, List, [], ◌∷◌, ◌++◌, length, get_or, All, refl, sym, ap, ◌∙◌, subst, arith, length-append, append_assoc}
use Rattle.std.proofs.lemmas.List.Elements.{All-head, All-tail}
use Rattle.gl_turn.specs.Order.{BeginsWith}
use Rattle.gl_turn.specs.Own.{numbers_from, entries_at}

entry_last : (xs : List (List ℕ)) (r : List ℕ) (rs : List (List ℕ)) → get_or (xs ++ r ∷ rs) (length xs) [] ≡ r
entry_last [] r rs = refl
entry_last (x ∷ xs) r rs = entry_last xs r rs

entry_front : (xs ys : List (List ℕ)) (k : ℕ) → k < length xs → get_or (xs ++ ys) k [] ≡ get_or xs k []
entry_front [] ys k h = absurd (omega arith)
entry_front (x ∷ xs) ys zero h = refl
entry_front (x ∷ xs) ys (suc k) h = entry_front xs ys k (omega arith)

-- the rest of the journal stands at the numbers that it gained
pub gained_entries : (xs rest : List (List ℕ)) → entries_at (xs ++ rest) (numbers_from (length xs) (length rest)) ≡ rest
gained_entries xs [] = refl
gained_entries xs (r ∷ rs) =
    let more : length xs + 1 ≡ length (xs ++ r ∷ []) = sym (length-append xs (r ∷ [])) in
    let again = gained_entries (xs ++ r ∷ []) rs in
    let one : (xs ++ r ∷ []) ++ rs ≡ xs ++ r ∷ rs = append_assoc xs (r ∷ []) rs in
    let tail : entries_at (xs ++ r ∷ rs) (numbers_from (length xs + 1) (length rs)) ≡ rs = subst (λ (p : List (List ℕ) × ℕ). entries_at p.0 (numbers_from p.1 (length rs)) ≡ rs) (λ i. (one i, sym more i)) again in
    (λ i. entry_last xs r rs i ∷ tail i)

-- entries keep their positions
pub later_entries : (xs ys : List (List ℕ)) (positions : List ℕ) → BeginsWith ys xs → All (λ k. k < length xs) positions → entries_at ys positions ≡ entries_at xs positions
later_entries xs ys [] p inside = refl
later_entries xs ys (k ∷ ks) p inside =
    let head : get_or ys k [] ≡ get_or xs k [] = ap (λ (l : List (List ℕ)). get_or l k []) p.1 ∙ entry_front xs p.0 k (All-head (λ n. n < length xs) k ks inside) in
    let tail = later_entries xs ys ks p (All-tail (λ n. n < length xs) k ks inside) in
    (λ i. head i ∷ tail i)
