-- Counts with the sums of each two of them that stand together, and the sums of those, up to one number.
use Rattle.std.specs.Prelude.{◌≡◌, ◌≤◌, ℕ, ◌+◌, ◌-◌, List, [], ◌∷◌, length, slice_index, slice_set}

-- the sums of the first two numbers, of the next two, and so on; an odd last one stays as it is
abbrev pub paired : List ℕ → List ℕ
paired [] = []
paired (a ∷ []) = a ∷ []
paired (a ∷ (b ∷ counts)) = (a + b) ∷ paired counts

-- each list has the sums of the pairs of the one before it, and the last list has no pair
abbrev pub AreSums : List (List ℕ) → Type 0
AreSums [] = Unit {0}
AreSums (counts ∷ []) = length counts ≤ 1
AreSums (counts ∷ (sums ∷ above)) = (sums ≡ paired counts) × AreSums (sums ∷ above)

-- the first of these lists
abbrev pub counts_of : List (List ℕ) → List ℕ
counts_of [] = []
counts_of (counts ∷ above) = counts

-- one more at a place
abbrev pub raised : ℕ → List ℕ → List ℕ
raised at counts = slice_set counts at (slice_index counts at + 1)

-- one less at a place
abbrev pub lowered : ℕ → List ℕ → List ℕ
lowered at counts = slice_set counts at (slice_index counts at - 1)
