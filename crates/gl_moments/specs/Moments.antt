-- Of which rows an index of time is.
use Rattle.std.specs.Prelude.{List}
use Rattle.gl_indexset.specs.declared.row.Row.{Row}
use Rattle.gl_moments.specs.declared.moments.Moments.{Moments}
use Rattle.gl_moments.specs.Inside.{AreKept, kept_at}

-- The index of these rows, which rise by position: of each minute it has the positions of its rows.
abbrev pub StandsFor : Moments → List Row → Type 0
StandsFor moments rows = AreKept (kept_at moments.minutes) rows
