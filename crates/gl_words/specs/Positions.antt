-- Positions in rising order, with one more and with one less.
use Rattle.std.specs.Prelude.{ℕ, ◌+◌, ◌≤◌, ⊤, ◌==◌, not, nat_lt, List, [], ◌∷◌, ◌++◌, if◌then◌else◌}
use Rattle.std.specs.List.{filter, list_all}

-- numbers rise, from this one on
abbrev pub AreFrom : ℕ → List ℕ → Type 0
AreFrom low [] = ⊤
AreFrom low (p ∷ ps) = (low ≤ p) × AreFrom (p + 1) ps

-- with a position behind the others, where it is above them
abbrev pub with_position : ℕ → List ℕ → List ℕ
with_position position positions = if list_all (λ p. nat_lt p position) positions then positions ++ position ∷ [] else positions

abbrev pub without_position : ℕ → List ℕ → List ℕ
without_position position positions = filter (λ p. not (p == position)) positions
