-- Calls that are to fail, by their numbers from 1.
use Rattle.std.specs.Prelude.{ℕ, ◌+◌, ◌-◌, ◌^◌, min, List, Contains}

-- one more, which stays at the end of its type
abbrev pub one_more : ℕ → ℕ
one_more n = min (n + 1) (2 ^ 64 - 1)

-- whether the next call is to fail, after so many
abbrev pub IsListed : List ℕ → ℕ → Type 0
IsListed failing made = Contains failing (one_more made)
