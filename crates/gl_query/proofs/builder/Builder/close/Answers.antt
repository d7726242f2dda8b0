use Rattle.gl_query.specs.Building.{whole}
use Rattle.gl_query.proofs.Taking.{closing}
use Rattle.gl_query.proofs.builder.Builder.close.Goals as goal

pub overflow_sub-self : goal.overflow_sub-self
overflow_sub-self c =
    let r = c.requires in
    let w = c.in_ok-close_layer.ensures r.0 r.1 r.2 r.3 in
    (closing _ _ _ _ _ (whole r.0) r.1 w.levels_are w.depth_is w.nodes_are c.in-Some.ensures.items).3

pub complete-requires : goal.complete-requires
complete-requires c =
    let r = c.requires in
    let w = c.in_ok-close_layer.ensures r.0 r.1 r.2 r.3 in
    let p = closing _ _ _ _ _ (whole r.0) r.1 w.levels_are w.depth_is w.nodes_are c.in-Some.ensures.items in
    (p.0, p.1, whole r.0, p.4)
