use Rattle.std.proofs.Common.{List, length}
use Rattle.gl_indexset.specs.declared.row.Row.{Row}
use Rattle.gl_query.specs.Required.{lower_tokens}
use Rattle.gl_words.specs.Words.{StandsFor}
use Rattle.gl_covers.specs.Covers.{looked_in}
use Rattle.gl_covers.proofs.Texting.{IsChoosing}
use Rattle.gl_covers.proofs.texts.of_text.Given as goal

abbrev pub invariant-loop-token : goal.invariant-loop-token
invariant-loop-token l = (rows : List Row) → StandsFor l.words rows → IsChoosing rows (looked_in l.field) l.found (lower_tokens l.text) (lower_tokens l.fn.text)

abbrev pub decreases-loop-token : goal.decreases-loop-token
decreases-loop-token l = length l.text
