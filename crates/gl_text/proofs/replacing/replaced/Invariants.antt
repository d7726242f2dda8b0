use Rattle.std.proofs.Common.{◌≡◌, ◌≤◌, ◌++◌, length}
use denote.Shadow.{shadow}
use denote.Text.{Utf8}
use Rattle.std.specs.String.{string_bytes, string_len}
use Rattle.gl_text.specs.Changing.{replaced_behind}
use Rattle.gl_text.proofs.replacing.replaced.Given as goal

abbrev pub invariant-loop-at : goal.invariant-loop-at
invariant-loop-at l =
    record {
      text : string_bytes l.out ++ replaced_behind 0 l.part l.new l.rest ≡ replaced_behind 0 l.part l.new l.text;
      within : string_len l.out ≤ l.at_most;
      utf8 : shadow (Utf8 l.rest);
    }

abbrev pub decreases-loop-at : goal.decreases-loop-at
decreases-loop-at l = length l.rest
