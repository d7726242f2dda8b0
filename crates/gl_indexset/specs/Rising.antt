-- Rows in order of position.
use Rattle.std.specs.Prelude.{ℕ, ◌<◌, List}
use Rattle.std.specs.List.{All, AllPairs}
use Rattle.gl_indexset.specs.declared.row.Row.{Row}

abbrev pub AreRising : List Row → Type 0
AreRising rows = AllPairs (λ (a b : Row). a.position < b.position) rows

abbrev pub AreBelow : ℕ → List Row → Type 0
AreBelow position rows = All (λ (row : Row). row.position < position) rows
