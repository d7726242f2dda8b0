-- What contracts see of the shelf, and what holds of the slots that it keeps.
use Rattle.std.specs.Prelude.{◌≡◌, ◌≤◌, ℕ, ◌-◌, List, [], ◌∷◌, ◌++◌, length, map, replicate, Option, Some, None}
use Rattle.gl_indexset.specs.declared.row.Row.{Row}

pub record Shelved : Type 0 where
  pub rows : List Row
  pub spare : ℕ

-- what stands in slots, in order
abbrev pub present : {A : Type 0} → List (Option A) → List A
present [] = []
present (None ∷ slots) = present slots
present (Some x ∷ slots) = x ∷ present slots

-- how many stand in a slot
abbrev pub count_in : {A : Type 0} → Option A → ℕ
count_in None = 0
count_in (Some x) = 1

-- There is a count for each slot, for which there is room, and it is 0 where the slot isn't there yet.
pub record AreShelved (slots : List (Option Row)) (marks : List ℕ) (size capacity : ℕ) : Type 0 where
  pub counts : marks ≡ map (λ slot. count_in slot) slots ++ replicate (length marks - length slots) 0
  pub within : length slots ≤ length marks
  pub room : length marks ≤ capacity
  pub len : size ≡ length (present slots)
