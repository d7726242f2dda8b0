use Rattle.std.proofs.Common.{◌≡◌, length}
use Rattle.std.specs.List.{list_any}
use Rattle.gl_query.specs.Required.{is_number, lower_tokens}
use Rattle.gl_query.proofs.required.has_number.Given as goal

abbrev pub invariant-loop-token : goal.invariant-loop-token
invariant-loop-token l = list_any is_number (lower_tokens l.text) ≡ list_any is_number (lower_tokens l.fn.text)

abbrev pub decreases-loop-token : goal.decreases-loop-token
decreases-loop-token l = length l.text
