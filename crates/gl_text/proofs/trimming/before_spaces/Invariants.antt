use Rattle.std.proofs.Common.{◌≡◌, length, reverse}
use denote.Shadow.{shadow}
use denote.Text.{Utf8}
use Rattle.gl_text.specs.Changing.{past_spaces}
use Rattle.gl_text.proofs.trimming.before_spaces.Given as goal

abbrev pub invariant-loop-before : goal.invariant-loop-before
invariant-loop-before l = record { same : past_spaces (reverse l.rest) ≡ past_spaces (reverse l.text); utf8 : shadow (Utf8 l.rest) }

abbrev pub decreases-loop-before : goal.decreases-loop-before
decreases-loop-before l = length l.rest
