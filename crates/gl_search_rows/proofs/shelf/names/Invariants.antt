use Rattle.gl_indexset.specs.Kept.{AreKnown}
use Rattle.gl_postings.specs.Indexed.{rules_in}
use Rattle.gl_search_rows.proofs.shelf.names.Given as goal

abbrev pub invariant-loop-name : goal.invariant-loop-name
invariant-loop-name l = AreKnown (rules_in l.index) l.found
