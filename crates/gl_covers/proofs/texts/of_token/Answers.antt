-- In the field that is named.
use Rattle.std.proofs.Common.{◌∙◌, Some, ap, sym}
use Rattle.gl_covers.proofs.Gathering.{on_ok}
use Rattle.gl_covers.proofs.Texting.{in_named, lower}
use Rattle.gl_covers.proofs.texts.of_token.Goals as goal

pub returns-in-Some : goal.returns-in-Some
returns-in-Some c = λ rows stands.
    on_ok c.from_slice.result
    (λ found is.
    is ∙ in_named rows (lower c.args.token.now) c.positions.result.now c.as_slice.result.now c.args.field.now
    (c.in-Some.is ∙ ap Some (sym c.as_slice.ensures)) (c.positions.ensures rows stands c.requires))
    c.from_slice.ensures
