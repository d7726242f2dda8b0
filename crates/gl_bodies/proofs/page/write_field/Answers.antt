use Rattle.std.proofs.Common.{ℕ, List, [], ◌∷◌, ◌++◌, ◌∙◌, ap}
use Rattle.json.specs.Token.{key}
use Rattle.json.specs.Tree.{json_tokens}
use Rattle.serde_json.specs.Written.{outline}
use Rattle.gl_bodies.specs.Pages.{value_data}
use Rattle.gl_bodies.proofs.Members.{adds_both}
use Rattle.gl_bodies.proofs.page.write_field.Goals as goal

pub returns : goal.returns
returns c =
    adds_both c.args.body.now c.key.new.self c.write_value.new.body (key c.args.field.now.name ∷ []) (json_tokens (outline (value_data c.args.field.now.value)))
    (c.in_ok-key.ensures.room.0, c.in_ok-key.ensures.ok ∙ ap (λ (bs : List ℕ). c.args.body.now.tokens ++ key bs ∷ []) c.as_str.ensures) c.in_ok-write_value.ensures
