use Rattle.gl_query.specs.Tree.{leaf}
use Rattle.gl_query.proofs.Growing.{keeps_more}
use Rattle.gl_query.proofs.builder.Builder.add_leaf.Goals as goal

pub complete-requires : goal.complete-requires
complete-requires c = let r = c.requires in (r.0, r.1, leaf c.args.term, keeps_more _ _ _ _ r.0 r.1 _ _ c.in_ok-push.ensures.items r.2)

pub returns : goal.returns
returns c = λ here outer k. c.complete.ensures here outer (leaf c.args.term) (keeps_more _ _ _ _ here outer _ _ c.in_ok-push.ensures.items k)
