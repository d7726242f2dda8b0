-- The words of the rows that come are still in.
use Rattle.std.proofs.Common.{◌++◌, List, drop}
use Rattle.gl_indexset.specs.declared.row.Row.{Row}
use Rattle.gl_postings.specs.Postings.{StandsFor}
use Rattle.gl_postings.specs.Indexed.{filed}
use Rattle.gl_postings.proofs.settling.forget_words.Given as goal

abbrev pub invariant-loop-row : goal.invariant-loop-row
invariant-loop-row l = (rows : List Row) → StandsFor l.initial.words (rows ++ filed l.more) → StandsFor l.words (rows ++ filed (drop l.row-index l.more))
