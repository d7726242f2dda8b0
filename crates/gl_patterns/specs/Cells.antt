-- What the cells hold that a search fills: for each group from 1 on its start and its end.
use Rattle.std.specs.Prelude.{ℕ, ◌-◌, ◌*◌, ◌==◌, List, Option, Some, None, slice_index, if◌then◌else◌}
use Rattle.regex.specs.Writes.{both}

-- the position that a cell holds: a cell is one more than its position, and 0 for none
abbrev pub held : ℕ → Option ℕ
held cell = if cell == 0 then None else Some (cell - 1)

-- what a group spans; group 0 is the whole match
abbrev pub span_in_cells : ℕ × ℕ → List ℕ → ℕ → Option (ℕ × ℕ)
span_in_cells whole cells n = if n == 0 then Some whole else both (held (slice_index cells (2 * n - 2))) (held (slice_index cells (2 * n - 1)))
