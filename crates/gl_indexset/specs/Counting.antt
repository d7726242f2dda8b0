-- What contracts see of live rows that are looked at by a counter.
use Rattle.std.specs.Prelude.{◌≡◌, ℕ, List}
use Rattle.gl_indexset.specs.declared.counted.Counted.{Counted}
use Rattle.gl_indexset.specs.declared.row.Row.{Row}

abbrev pub live_in : {L : Type 0} → Counted L → List Row
live_in rows = rows.sets.now.rows

-- how many were looked at
abbrev pub steps_in : {L : Type 0} → Counted L → ℕ
steps_in rows = rows.steps.now

-- both are counted by one counter
abbrev pub IsSameCounter : {L : Type 0} → Counted L → Counted L → Type 0
IsSameCounter one other = one.steps.ghost_name ≡ other.steps.ghost_name
