use Rattle.std.proofs.Common.{[], ◌∷◌, map}
use Rattle.std.specs.Prelude.{codes}
use Rattle.json.specs.Token.{key}
use Rattle.json.specs.Tree.{json_tokens}
use Rattle.serde_json.specs.Written.{outline}
use Rattle.gl_sight.specs.Finding.{live_of}
use Rattle.gl_sight.specs.Sight.{shown}
use Rattle.gl_bodies.specs.Json.{list_of}
use Rattle.gl_bodies.specs.Pages.{message_data, messages_at}
use Rattle.gl_bodies.proofs.Members.{adds_both, has_more}
use Rattle.gl_bodies.proofs.page.put_messages.Goals as goal

pub returns : goal.returns
returns c = λ members has.
    let page = map (shown c.args.permitted.now) (live_of c.args.messages.now) in
    has_more c.args.body.now c.write_messages.new.body (messages_at page)
    (adds_both c.args.body.now c.key.new.self c.write_messages.new.body (key (codes "messages") ∷ []) (json_tokens (outline (list_of message_data page)))
    (c.in_ok-key.ensures.room.0, c.in_ok-key.ensures.ok) c.in_ok-write_messages.ensures) members has
