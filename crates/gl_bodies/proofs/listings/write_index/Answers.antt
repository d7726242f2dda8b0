use Rattle.std.proofs.Common.{ℕ, List, [], ◌∷◌, ◌++◌, ap, ◌∙◌}
use Rattle.std.specs.Prelude.{codes}
use Rattle.std.specs.Fmt.{decimal}
use Rattle.json.specs.Token.{string, number}
use Rattle.gl_bodies.proofs.Members.{object_of_two}
use Rattle.gl_bodies.proofs.listings.write_index.Goals as goal

pub returns : goal.returns
returns c =
    object_of_two c.args.body.now c.begin_object.new.self c.key.new.self c.string.new.self c.key-2.new.self c.u64.new.self c.end_object.new.self
    (codes "name") (codes "rows") (string c.args.index.now.0 ∷ []) (number (decimal c.args.index.now.1) ∷ [])
    (c.in_ok-begin_object.ensures.room.0, c.in_ok-begin_object.ensures.ok) (c.in_ok-key.ensures.room.0, c.in_ok-key.ensures.ok)
    (c.in_ok-string.ensures.room.0, c.in_ok-string.ensures.ok ∙ ap (λ (bs : List ℕ). c.key.new.self.tokens ++ string bs ∷ []) c.as_str.ensures)
    (c.in_ok-key-2.ensures.room.0, c.in_ok-key-2.ensures.ok)
    (c.in_ok-u64.ensures.room.0, c.in_ok-u64.ensures.ok)
    (c.in_ok-end_object.ensures.room.0, c.in_ok-end_object.ensures.ok)
