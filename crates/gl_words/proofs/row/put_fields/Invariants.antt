use Rattle.std.proofs.Common.{length}
use Rattle.gl_words.specs.Inside.{kept_in}
use Rattle.gl_words.specs.Positions.{with_position}
use Rattle.gl_words.specs.Texts.{some_has}
use Rattle.gl_words.proofs.Walking.{Leads, Spares}
use Rattle.gl_words.proofs.row.put_fields.Given as goal

abbrev pub invariant-loop-left : goal.invariant-loop-left
invariant-loop-left l =
    Leads (with_position l.position) (some_has l.left) (some_has l.fields) (kept_in l.initial.words) (kept_in l.words)
    × Spares l.position (some_has l.left) (some_has l.fields) (kept_in l.initial.words) (kept_in l.words)

abbrev pub decreases-loop-left : goal.decreases-loop-left
decreases-loop-left l = length l.left
