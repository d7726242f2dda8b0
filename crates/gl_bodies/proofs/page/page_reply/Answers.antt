use Rattle.std.proofs.Common.{[], ◌∷◌, map}
use Rattle.std.specs.Prelude.{codes}
use Rattle.gl_sight.specs.Finding.{live_of}
use Rattle.gl_sight.specs.Sight.{shown}
use Rattle.gl_bodies.specs.Json.{count_at}
use Rattle.gl_bodies.specs.Pages.{messages_at}
use Rattle.gl_bodies.proofs.page.page_reply.Goals as goal

pub returns : goal.returns
returns c =
    let messages = messages_at (map (shown c.args.permitted.now) (live_of c.args.messages.now)) in
    c.finish.ensures (messages ∷ count_at (codes "total") c.args.total ∷ []) (c.in_ok-put_number.ensures (messages ∷ []) (c.in_ok-put_messages.ensures [] c.in_ok-body.ensures))
