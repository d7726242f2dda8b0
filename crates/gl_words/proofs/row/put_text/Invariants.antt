use Rattle.std.proofs.Common.{length}
use Rattle.gl_words.specs.Inside.{kept_in}
use Rattle.gl_words.specs.Positions.{with_position}
use Rattle.gl_words.specs.Texts.{text_has}
use Rattle.gl_words.proofs.Walking.{Leads, Spares}
use Rattle.gl_words.proofs.row.put_text.Given as goal

abbrev pub invariant-loop-token : goal.invariant-loop-token
invariant-loop-token l =
    Leads (with_position l.position) (text_has l.name l.text) (text_has l.name l.fn.text) (kept_in l.initial.words) (kept_in l.words)
    × Spares l.position (text_has l.name l.text) (text_has l.name l.fn.text) (kept_in l.initial.words) (kept_in l.words)

abbrev pub decreases-loop-token : goal.decreases-loop-token
decreases-loop-token l = length l.text
