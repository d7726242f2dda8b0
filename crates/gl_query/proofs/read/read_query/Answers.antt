use Rattle.std.proofs.Common.{◌≡◌, Some, ap, ◌∙◌, subst}
use Rattle.gl_query.specs.Tokens.{tokens_of}
use Rattle.gl_query.specs.Tree.{polish}
use Rattle.gl_query.specs.Refusals.{refusal_of}
use Rattle.gl_query.specs.Refused.{TellsRefusal}
use Rattle.gl_query.specs.QueryReading.{units, read_tree}
use Rattle.gl_query.proofs.Sound.{is_query}
use Rattle.gl_query.proofs.Endings.{one_tree, no_memory, query_taken}
use Rattle.gl_query.proofs.read.read_query.Goals as goal

pub returns-in_ok-required-in-Ok-clause-only : goal.returns-in_ok-required-in-Ok-clause-only
returns-in_ok-required-in-Ok-clause-only c = λ t q short.
    let r = c.in-Ok.ensures.tree in
    c.from_nodes.ensures ∙ r.2 ∙ ap polish (one_tree (units (tokens_of c.args.text.now)) t r.0 q (subst (λ x. read_tree (units (tokens_of x)) ≡ Some r.0) c.as_bytes.ensures.value r.1))

pub returns-in-Err-clause-only : goal.returns-in-Err-clause-only
returns-in-Err-clause-only c = λ t q short.
    no_memory c.in-Err.refusal (refusal_of c.args.text.now)
    (λ other. subst (λ x. TellsRefusal c.in-Err.refusal (refusal_of x)) c.as_bytes.ensures.value (c.in-Err.ensures.refused other))
    (query_taken c.args.text.now t q short)

pub returns-in_ok-required-in-Ok-clause-tree : goal.returns-in_ok-required-in-Ok-clause-tree
returns-in_ok-required-in-Ok-clause-tree c =
    let r = c.in-Ok.ensures.tree in
    (r.0, is_query (units (tokens_of c.args.text.now)) r.0 (subst (λ x. read_tree (units (tokens_of x)) ≡ Some r.0) c.as_bytes.ensures.value r.1), c.from_nodes.ensures ∙ r.2)
