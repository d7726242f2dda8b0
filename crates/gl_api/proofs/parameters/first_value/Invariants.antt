-- What the pairs that are left give is what all of them give.
use Rattle.std.proofs.Common.{◌≡◌, map}
use Rattle.form_urlencoded.specs.Form.{raw_pairs}
use Rattle.form_urlencoded.specs.Parse.{pairs_left}
use Rattle.gl_api.specs.Parameters.{first_value, text_pair}
use Rattle.gl_api.proofs.parameters.first_value.Given as goal

abbrev pub invariant-loop-pair : goal.invariant-loop-pair
invariant-loop-pair l =
    (goal.iterator-loop-pair).can_next l.pair-iterator × (goal.iterator-loop-pair).is_finite l.pair-iterator
    × (first_value l.name (map text_pair (raw_pairs l.fn.text)) ≡ first_value l.name (map text_pair (pairs_left l.pair-iterator)))
