use Rattle.std.proofs.Common.{List, ◌∷◌, ◌++◌, ◌∙◌, ap}
use Rattle.json.specs.Token.{Token, begin_array}
use Rattle.serde_json.specs.Data.{Data}
use Rattle.gl_sight.specs.Finding.{live_of, seen_of}
use Rattle.gl_sight.specs.Sight.{Seen, shown}
use Rattle.gl_sight.specs.declared.live.Live.{Live}
use Rattle.gl_bodies.specs.Pages.{message_data}
use Rattle.gl_bodies.specs.Writing.{Adds}
use Rattle.gl_bodies.proofs.Values.{array_ends, begun, item_more, rest_of, rest_over}
use Rattle.gl_bodies.proofs.page.write_messages.Goals as goal

pub loop-message-init : goal.loop-message-init
loop-message-init c =
    let form : Live → Data = λ m. message_data (shown c.args.permitted.now (seen_of m)) in
    begun c.args.body.now c.begin_array.new.self begin_array (rest_of form c.args.messages.now) (c.in_ok-begin_array.ensures.room.0, c.in_ok-begin_array.ensures.ok)

pub loop-message-preserved : goal.loop-message-preserved
loop-message-preserved c =
    let form : Live → Data = λ m. message_data (shown c.args.permitted.now (seen_of m)) in
    item_more form c.args.messages.now c.loop-message.message-index c.message-item.result c.message-item.result c.args.body.now c.loop-message.body c.write_message.new.body
    (begin_array ∷ rest_of form c.args.messages.now) c.loop-message-test.true c.message-item.is c.in_ok-write_message.ensures c.loop-message.invariant

pub returns : goal.returns
returns c =
    let show : Seen → Seen = shown c.args.permitted.now in
    let form : Live → Data = λ m. message_data (show (seen_of m)) in
    let ends : Adds c.args.body.now c.end_array.new.self (begin_array ∷ rest_of form c.args.messages.now)
    = array_ends form c.args.messages.now c.loop-message.message-index c.args.body.now c.loop-message.body c.end_array.new.self
    (begin_array ∷ rest_of form c.args.messages.now) c.loop-message-test.false (c.in_ok-end_array.ensures.room.0, c.in_ok-end_array.ensures.ok) c.loop-message.invariant in (
      ends.0,
      ends.1
          ∙ ap (λ (ts : List Token). c.args.body.now.tokens ++ begin_array ∷ ts)
          (rest_over (λ (m : Seen). message_data (show m)) seen_of c.args.messages.now ∙ rest_over message_data show (live_of c.args.messages.now)),
    )
