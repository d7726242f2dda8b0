use Rattle.std.proofs.Common.{◌∙◌}
use Rattle.gl_query.proofs.Evaluating.{whole}
use Rattle.gl_query.proofs.matching.matches.Goals as goal

pub returns-clause-tree : goal.returns-clause-tree
returns-clause-tree c =
    let r = c.as_slice.ensures.lawful in
    (r.tree, r.nodes_are, whole c.args.fields.now _ _ c.as_slice.result.now c.evaluate-result.ensures.value r.tree (c.as_slice.ensures.nodes ∙ r.nodes_are))

pub returns-clause-only : goal.returns-clause-only
returns-clause-only c = λ t e. whole c.args.fields.now _ _ c.as_slice.result.now c.evaluate-result.ensures.value t (c.as_slice.ensures.nodes ∙ e)
