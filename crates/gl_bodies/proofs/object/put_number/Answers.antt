use Rattle.std.proofs.Common.{[], ◌∷◌}
use Rattle.std.specs.Fmt.{decimal}
use Rattle.json.specs.Token.{key, number}
use Rattle.gl_bodies.specs.Json.{count_at}
use Rattle.gl_bodies.proofs.Members.{adds_both, has_more}
use Rattle.gl_bodies.proofs.object.put_number.Goals as goal

pub returns : goal.returns
returns c = λ members has.
    has_more c.args.body.now c.u64.new.self (count_at c.args.key.now c.args.number)
    (adds_both c.args.body.now c.key.new.self c.u64.new.self (key c.args.key.now ∷ []) (number (decimal c.args.number) ∷ [])
    (c.in_ok-key.ensures.room.0, c.in_ok-key.ensures.ok) (c.in_ok-u64.ensures.room.0, c.in_ok-u64.ensures.ok)) members has
