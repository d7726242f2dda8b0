use Rattle.std.proofs.Common.{List, ℕ, sym, ◌∙◌, ap}
use Rattle.gl_fields.specs.Fields.{comes_before, is_less}
use Rattle.gl_fields.proofs.Growing.{last_name}
use Rattle.gl_fields.proofs.read_outcome.is_last.Goals as goal

pub returns-in-Less : goal.returns-in-Less
returns-in-Less c =
    ap is_less c.in-Less.ensures ∙ ap (λ (n : List ℕ). comes_before n c.args.name.now) c.as_str.ensures
    ∙ last_name c.args.fields.now c.args.name.now c.in-Some.last.now c.requires (sym c.in-Some.ensures.value)
