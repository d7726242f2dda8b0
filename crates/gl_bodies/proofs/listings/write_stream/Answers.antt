use Rattle.std.proofs.Common.{ℕ, List, [], ◌∷◌, ◌++◌, ap, ◌∙◌}
use Rattle.std.specs.Prelude.{codes}
use Rattle.json.specs.Token.{string}
use Rattle.gl_text.specs.Ids.{id_text}
use Rattle.gl_bodies.proofs.Members.{object_of_two}
use Rattle.gl_bodies.proofs.listings.write_stream.Goals as goal

pub returns : goal.returns
returns c =
    object_of_two c.args.body.now c.begin_object.new.self c.key.new.self c.write_id.new.body c.key-2.new.self c.string.new.self c.end_object.new.self
    (codes "id") (codes "name") (string (id_text c.args.stream.now.id) ∷ []) (string c.args.stream.now.name ∷ [])
    (c.in_ok-begin_object.ensures.room.0, c.in_ok-begin_object.ensures.ok) (c.in_ok-key.ensures.room.0, c.in_ok-key.ensures.ok)
    c.in_ok-write_id.ensures
    (c.in_ok-key-2.ensures.room.0, c.in_ok-key-2.ensures.ok)
    (c.in_ok-string.ensures.room.0, c.in_ok-string.ensures.ok ∙ ap (λ (bs : List ℕ). c.key-2.new.self.tokens ++ string bs ∷ []) c.as_str.ensures)
    (c.in_ok-end_object.ensures.room.0, c.in_ok-end_object.ensures.ok)
