use Rattle.std.proofs.Common.{◌++◌, ◌∷◌, [], ap, ◌∙◌}
use Rattle.gl_query.specs.declared.term.Term.TheVariants.{All}
use Rattle.gl_query.specs.declared.term.Node.TheVariants.{Leaf}
use Rattle.gl_query.specs.Tree.{leaf}
use Rattle.gl_query.proofs.Endings.{starts}
use Rattle.gl_query.proofs.builder.Builder.whole_nodes.Goals as goal

pub returns-in_ok-push-in-Start : goal.returns-in_ok-push-in-Start
returns-in_ok-push-in-Start c = λ b s w o.
    (leaf All, starts b _ w c.in-Start.is o, c.in_ok-push-in-Start.ensures.items ∙ ap (λ ns. ns ++ Leaf All ∷ []) c.new-nodes.ensures.items)
