use Rattle.std.proofs.Common.{length}
use Rattle.gl_words.specs.Inside.{kept_in}
use Rattle.gl_words.specs.Positions.{without_position}
use Rattle.gl_words.specs.Texts.{some_has}
use Rattle.gl_words.proofs.Walking.{Leads}
use Rattle.gl_words.proofs.row.take_fields.Given as goal

abbrev pub invariant-loop-left : goal.invariant-loop-left
invariant-loop-left l = Leads (without_position l.position) (some_has l.left) (some_has l.fields) (kept_in l.initial.words) (kept_in l.words)

abbrev pub decreases-loop-left : goal.decreases-loop-left
decreases-loop-left l = length l.left
