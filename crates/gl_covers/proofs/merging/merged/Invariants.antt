-- What is merged so far.
use Rattle.std.proofs.Common.{◌≡◌, ◌+◌, List, length}
use Rattle.gl_indexset.specs.declared.row.Row.{Row}
use Rattle.gl_indexset.specs.Rising.{AreRising}
use Rattle.gl_words.specs.Candidates.{positions}
use Rattle.gl_covers.specs.Covers.{Terms, covered}
use Rattle.gl_covers.proofs.Union.{IsMerging}
use Rattle.gl_covers.proofs.merging.merged.Given as goal

abbrev pub invariant-loop-position : goal.invariant-loop-position
invariant-loop-position l = (rows : List Row) (a b : Terms) → AreRising rows → l.fn.one ≡ positions (covered rows a) → l.fn.other ≡ positions (covered rows b) → IsMerging rows a b l.found l.one l.other

abbrev pub decreases-loop-position : goal.decreases-loop-position
decreases-loop-position l = length l.one + length l.other
