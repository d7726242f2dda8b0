use Rattle.std.proofs.Common.{rules, ◌≡◌, ℕ, ◌∷◌, [], ◌+◌, List, Ok, Err, reverse, drop, subst, arith}
use Rattle.std.proofs.lemmas.Result.{err_from_is_err_and}
use Rattle.gl_rulelang.specs.Tree.{tree_of, call_of, call_tree, args_view, row, unary, binary, Tree, Arguments}
use Rattle.gl_rulelang.specs.declared.rule.Call.{the_lemmas}
use Rattle.gl_check.specs.Checking.{node, argument_nodes, Walks}
use Rattle.gl_check.proofs.Walks.{on, stopped, unary_on, unary_stops, binary_on, first_stops, second_stops, arguments_on, arguments_stop, arguments_end}
use Rattle.gl_check.proofs.walk.+walk.Goals as goal

pub walk-returns-in_ok-next-in-Unary : goal.walk-returns-in_ok-next-in-Unary
walk-returns-in_ok-next-in-Unary t c =
    let is : tree_of c.args.e.now ≡ unary c.in-Unary.field-0 (tree_of c.deref.result.now) = search (rules, the_lemmas) in
    unary_on c.args.at c.in_ok-next-in-Unary.next c.args.stand (reverse c.args.known.now) c.in-Unary.field-0 (tree_of c.deref.result.now) (tree_of c.args.e.now) c.walk_node.result is
    c.in_ok-next-in-Unary.ensures c.walk_node.ensures

pub walk-returns-in_err-next-in-Unary : goal.walk-returns-in_err-next-in-Unary
walk-returns-in_err-next-in-Unary t c =
    let is : tree_of c.args.e.now ≡ unary c.in-Unary.field-0 (tree_of c.deref.result.now) = search (rules, the_lemmas) in
    let p = err_from_is_err_and c.from_residual.result c.from_residual.ensures.1 in
    rw (p.1, p.2)
    (unary_stops c.args.at c.args.stand (reverse c.args.known.now) c.in-Unary.field-0 (tree_of c.deref.result.now) (tree_of c.args.e.now) c.in_err-next-in-Unary.field-0.0 is
    c.in_err-next-in-Unary.ensures)

pub walk-returns-in_ok-next-in-Binary : goal.walk-returns-in_ok-next-in-Binary
walk-returns-in_ok-next-in-Binary t c =
    let is : tree_of c.args.e.now ≡ binary c.in-Binary.field-0 (tree_of c.deref-in-Binary.result.now) (tree_of c.deref-in-Binary-2.result.now) = search (rules, the_lemmas) in
    binary_on c.args.at c.in_ok-middle-in-Binary.middle c.in_ok-next-in-Binary.next c.args.stand (reverse c.args.known.now) c.in-Binary.field-0
    (tree_of c.deref-in-Binary.result.now) (tree_of c.deref-in-Binary-2.result.now) (tree_of c.args.e.now) c.walk_node-in-Binary.result is
    c.in_ok-middle-in-Binary.ensures c.in_ok-next-in-Binary.ensures c.walk_node-in-Binary.ensures

pub walk-returns-in_err-middle-in-Binary : goal.walk-returns-in_err-middle-in-Binary
walk-returns-in_err-middle-in-Binary t c =
    let is : tree_of c.args.e.now ≡ binary c.in-Binary.field-0 (tree_of c.deref-in-Binary.result.now) (tree_of c.in-Binary.second.value) = search (rules, the_lemmas) in
    let p = err_from_is_err_and c.from_residual-in_err-middle-in-Binary.result c.from_residual-in_err-middle-in-Binary.ensures.1 in
    rw (p.1, p.2)
    (first_stops c.args.at c.args.stand (reverse c.args.known.now) c.in-Binary.field-0 (tree_of c.deref-in-Binary.result.now) (tree_of c.in-Binary.second.value) (tree_of c.args.e.now)
    c.in_err-middle-in-Binary.field-0.0 is c.in_err-middle-in-Binary.ensures)

pub walk-returns-in_err-next-in-Binary : goal.walk-returns-in_err-next-in-Binary
walk-returns-in_err-next-in-Binary t c =
    let is : tree_of c.args.e.now ≡ binary c.in-Binary.field-0 (tree_of c.deref-in-Binary.result.now) (tree_of c.deref-in-Binary-2.result.now) = search (rules, the_lemmas) in
    let p = err_from_is_err_and c.from_residual-in_err-next-in-Binary.result c.from_residual-in_err-next-in-Binary.ensures.1 in
    rw (p.1, p.2)
    (second_stops c.args.at c.in_ok-middle-in-Binary.middle c.args.stand (reverse c.args.known.now) c.in-Binary.field-0 (tree_of c.deref-in-Binary.result.now)
    (tree_of c.deref-in-Binary-2.result.now) (tree_of c.args.e.now) c.in_err-next-in-Binary.field-0.0 is c.in_ok-middle-in-Binary.ensures c.in_err-next-in-Binary.ensures)

pub walk_call-returns : goal.walk_call-returns
walk_call-returns t c =
    let known = reverse c.args.known.now in
    let same : row (args_view c.deref.result.now) ≡ (call_of c.args.call.now).1 = search (rules, the_lemmas) in
    on c.args.at c.in_ok-next.next (argument_nodes known (call_of c.args.call.now).1) (node c.args.stand known (call_tree (call_of c.args.call.now)) ∷ []) c.walk_called.result
    (subst (λ (given : Arguments). Walks c.args.at (argument_nodes known given) (Ok c.in_ok-next.next)) same c.in_ok-next.ensures) c.walk_called.ensures

pub walk_call-returns-in_err-next : goal.walk_call-returns-in_err-next
walk_call-returns-in_err-next t c =
    let known = reverse c.args.known.now in
    let same : row (args_view c.deref.result.now) ≡ (call_of c.args.call.now).1 = search (rules, the_lemmas) in
    let p = err_from_is_err_and c.from_residual.result c.from_residual.ensures.1 in
    rw (p.1, p.2)
    (stopped c.args.at (argument_nodes known (call_of c.args.call.now).1) (node c.args.stand known (call_tree (call_of c.args.call.now)) ∷ []) c.in_err-next.field-0.0
    (subst (λ (given : Arguments). Walks c.args.at (argument_nodes known given) (Err c.in_err-next.field-0.0)) same c.in_err-next.ensures))

pub walk_arguments-returns : goal.walk_arguments-returns
walk_arguments-returns t c =
    c.loop-argument.invariant (Ok c.loop-argument.next)
    (arguments_end (reverse c.args.known.now) c.args.arguments.now c.loop-argument.argument-index c.loop-argument.next (omega arith))

pub walk_arguments-returns-in_err-next : goal.walk_arguments-returns-in_err-next
walk_arguments-returns-in_err-next t c =
    let p = err_from_is_err_and c.from_residual.result c.from_residual.ensures.1 in
    rw (p.1, p.2)
    (c.loop-argument.invariant (Err c.in_err-next.field-0.0)
    (arguments_stop (reverse c.args.known.now) c.args.arguments.now c.loop-argument.argument-index c.loop-argument-item.result (omega arith) c.loop-argument-item.is
    c.loop-argument.next c.in_err-next.field-0.0 c.in_err-next.ensures))

pub walk_arguments-loop-argument-preserved : goal.walk_arguments-loop-argument-preserved
walk_arguments-loop-argument-preserved t c = λ r h.
    c.loop-argument.invariant r
    (arguments_on (reverse c.args.known.now) c.args.arguments.now c.loop-argument.argument-index c.loop-argument-item.result (omega arith) c.loop-argument-item.is
    c.loop-argument.next c.in_ok-next.next r c.in_ok-next.ensures h)
