-- The words of the rows before are in.
use Rattle.std.proofs.Common.{◌++◌, List, take}
use Rattle.gl_indexset.specs.declared.row.Row.{Row}
use Rattle.gl_indexset.specs.Rising.{AreRising}
use Rattle.gl_postings.specs.Postings.{StandsFor}
use Rattle.gl_postings.specs.Indexed.{filed}
use Rattle.gl_postings.proofs.settling.add_words.Given as goal

abbrev pub invariant-loop-n : goal.invariant-loop-n
invariant-loop-n l = (rows : List Row) → StandsFor l.initial.words rows → AreRising (rows ++ filed l.more) → StandsFor l.words (rows ++ filed (take l.n l.more))
