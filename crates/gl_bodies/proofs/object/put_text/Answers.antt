use Rattle.std.proofs.Common.{[], ◌∷◌}
use Rattle.json.specs.Token.{key, string}
use Rattle.gl_bodies.specs.Json.{text_at}
use Rattle.gl_bodies.proofs.Members.{adds_both, has_more}
use Rattle.gl_bodies.proofs.object.put_text.Goals as goal

pub returns : goal.returns
returns c = λ members has.
    has_more c.args.body.now c.string.new.self (text_at c.args.key.now c.args.text.now)
    (adds_both c.args.body.now c.key.new.self c.string.new.self (key c.args.key.now ∷ []) (string c.args.text.now ∷ [])
    (c.in_ok-key.ensures.room.0, c.in_ok-key.ensures.ok) (c.in_ok-string.ensures.room.0, c.in_ok-string.ensures.ok)) members has
