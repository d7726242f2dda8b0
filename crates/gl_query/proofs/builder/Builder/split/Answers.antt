use Rattle.std.proofs.Common.{◌∙◌}
use Rattle.gl_query.proofs.Growing.{keeps_split}
use Rattle.gl_query.proofs.builder.Builder.split.Goals as goal

pub returns : goal.returns
returns c = λ here outer k settled.
    rw (c.in_ok-alternatives.ensures, c.len.ensures ∙ c.group.new.nodes.ok.0) (keeps_split _ _ _ _ here outer _ k settled c.in_ok-group.ensures)
