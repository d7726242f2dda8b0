use Rattle.std.proofs.Common.{ℕ, List, [], ◌∷◌, ◌++◌, ◌∙◌, ap}
use Rattle.json.specs.Token.{string}
use Rattle.gl_bodies.proofs.page.write_id.Goals as goal

pub returns : goal.returns
returns c =
    (c.in_ok-string.ensures.room.0, c.in_ok-string.ensures.ok ∙ ap (λ (bs : List ℕ). c.args.body.now.tokens ++ string bs ∷ []) (c.as_str.ensures ∙ c.in_ok-text.ensures))
