-- What a list of bytes shows, as it grows.
use Rattle.std.proofs.Common.{◌≡◌, ℕ, suc, ◌≤◌, List, [], ◌∷◌, ◌++◌, length, refl, ap, ◌∙◌, inl, le_refl}
use Rattle.gl_turn.specs.Order.{BeginsWith, IsBefore}
use Rattle.gl_parts_tests.specs.Pads.{each_alone, pad_seen}

pub length-each_alone : (xs : List ℕ) → length xs ≡ length (each_alone xs)
length-each_alone [] = refl
length-each_alone (x ∷ xs) = ap suc (length-each_alone xs)

each_alone-append : (xs ys : List ℕ) → each_alone (xs ++ ys) ≡ each_alone xs ++ each_alone ys
each_alone-append [] ys = refl
each_alone-append (x ∷ xs) ys = ap (λ (l : List (List ℕ)). (x ∷ []) ∷ l) (each_alone-append xs ys)

pub pad_grows : (xs ys : List ℕ) (c d : ℕ) → BeginsWith ys xs → c ≤ d → IsBefore (pad_seen xs c) (pad_seen ys d)
pad_grows xs ys c d p le = record { base = refl; journal = (each_alone p.0, ap each_alone p.1 ∙ each_alone-append xs p.0); commits = le; chunks = le_refl 0; tries = le_refl 0; faults = le_refl 0; refused = λ _ _. refl; stop = inl refl }
