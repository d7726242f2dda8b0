use Rattle.std.proofs.Common.{◌≡◌, length}
use denote.Shadow.{shadow}
use denote.Text.{Utf8}
use Rattle.gl_text.specs.Changing.{past_spaces}
use Rattle.gl_text.proofs.trimming.past_spaces.Given as goal

abbrev pub invariant-loop-behind : goal.invariant-loop-behind
invariant-loop-behind l = record { same : past_spaces l.rest ≡ past_spaces l.text; utf8 : shadow (Utf8 l.rest) }

abbrev pub decreases-loop-behind : goal.decreases-loop-behind
decreases-loop-behind l = length l.rest
