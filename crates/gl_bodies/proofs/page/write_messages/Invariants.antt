-- What is written, and what is left.
use Rattle.std.proofs.Common.{◌∷◌, drop}
use Rattle.json.specs.Token.{begin_array}
use Rattle.gl_sight.specs.Finding.{seen_of}
use Rattle.gl_sight.specs.Sight.{shown}
use Rattle.gl_sight.specs.declared.live.Live.{Live}
use Rattle.gl_bodies.specs.Pages.{message_data}
use Rattle.gl_bodies.proofs.Values.{Goes, rest_of}
use Rattle.gl_bodies.proofs.page.write_messages.Given as goal

abbrev pub invariant-loop-message : goal.invariant-loop-message
invariant-loop-message l =
    Goes l.fn.body l.body (rest_of (λ (m : Live). message_data (shown l.permitted (seen_of m))) (drop l.message-index l.messages))
    (begin_array ∷ rest_of (λ (m : Live). message_data (shown l.permitted (seen_of m))) l.messages)
