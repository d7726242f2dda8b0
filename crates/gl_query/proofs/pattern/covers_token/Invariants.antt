use Rattle.std.proofs.Common.{◌≡◌, length}
use Rattle.std.specs.List.{list_any}
use Rattle.gl_query.specs.Texts.{text_tokens}
use Rattle.gl_query.specs.Patterns.{covers}
use Rattle.gl_query.proofs.pattern.covers_token.Given as goal

abbrev pub invariant-loop-token : goal.invariant-loop-token
invariant-loop-token l = list_any (covers l.pattern) (text_tokens l.text) ≡ list_any (covers l.pattern) (text_tokens l.fn.text)

abbrev pub decreases-loop-token : goal.decreases-loop-token
decreases-loop-token l = length l.text
