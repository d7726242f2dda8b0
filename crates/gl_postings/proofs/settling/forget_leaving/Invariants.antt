-- Of the rows below a place those that leave are out.
use Rattle.std.proofs.Common.{◌-◌, ◌∷◌, ◌++◌, List, length}
use Rattle.gl_indexset.specs.declared.row.Row.{Row}
use Rattle.gl_indexset.specs.Kept.{StandsFor as SetsStandFor, rules_of}
use Rattle.gl_indexset.specs.Leaving.{left_below}
use Rattle.gl_indexset.specs.Retention.{live_rows}
use Rattle.gl_postings.specs.Postings.{StandsFor}
use Rattle.gl_postings.proofs.settling.forget_leaving.Given as goal

abbrev pub invariant-loop-n : goal.invariant-loop-n
invariant-loop-n g l = (all rest : List Row) → SetsStandFor l.sets all → StandsFor l.initial.words (l.sets.rows ++ rest)
    → StandsFor l.words (left_below (live_rows (rules_of l.sets) (l.row ∷ all)) l.sets.rows l.from ++ rest)

abbrev pub decreases-loop-n : goal.decreases-loop-n
decreases-loop-n g l = length l.sets.rows - l.from
