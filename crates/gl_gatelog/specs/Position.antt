-- Which of the records of its batch one is, by the places of the positions.
use Rattle.std.specs.Prelude.{◌≡◌, ℕ, ◌+◌, ◌≤◌, List, slice_index_or}
use Rattle.gl_gatelog.specs.Log.{Place}

-- so many of the positions right before one have its place, and no more
pub record IsRun (places : List Place) (position count : ℕ) : Type 0 where
  pub within : count ≤ position
  pub same : (k : ℕ) → position ≤ k + count → k ≤ position → slice_index_or places k (0, 0) ≡ slice_index_or places position (0, 0)
  pub first : (k : ℕ) → k + count + 1 ≡ position → slice_index_or places k (0, 0) ≡ slice_index_or places position (0, 0) → ⊥
