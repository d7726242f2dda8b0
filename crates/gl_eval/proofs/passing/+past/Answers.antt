use Rattle.std.proofs.Common.{rules, ◌≡◌, ◌+◌, ◌*◌, ◌<◌, ◌^◌, ◌∷◌, length, ℕ, List, drop, sym, ap, ◌∙◌, subst, arith, length-append}
use Rattle.std.proofs.lemmas.List.{drop_more}
use Rattle.gl_rulelang.specs.Tree.{Tree, tree_of, call_of, call_tree, args_view, row, Arguments, unary, binary, height, heights}
use Rattle.gl_rulelang.specs.declared.rule.Call.{the_lemmas}
use Rattle.gl_rulelang.specs.declared.rule.Expr.{the_lemmas as the_expressions}
use Rattle.gl_check.specs.Functions.{function_named}
use Rattle.gl_check.specs.Checking.{patterns_of, patterns_in, patterns_for}
use Rattle.gl_eval.specs.Patterns.{HasPatterns, HavePatterns}
use Rattle.gl_eval.proofs.Rows.{lawful_first, count_more}
use Rattle.gl_eval.proofs.Heights.{item_measure, unary_measure, first_measure, second_measure, call_measure, arguments_measure}
use Rattle.gl_eval.proofs.Counts.{past_one, past_none}
use Rattle.gl_eval.proofs.passing.+past.Goals as goal

pub past_call-overflow_add-result : goal.past_call-overflow_add-result
past_call-overflow_add-result t c =
    let same : row (args_view c.deref.result.now) ≡ (call_of c.args.call.now).1 = search (rules, the_lemmas) in
    let inside : c.past_arguments-behind.result ≡ c.args.at + length (patterns_in (call_of c.args.call.now).1) = c.past_arguments-behind.ensures ∙ ap (λ (given : Arguments). c.args.at + length (patterns_in given)) same in
    let all : c.past_arguments-behind.result + 1 ≡ c.args.at + length (patterns_of (call_tree (call_of c.args.call.now))) =
    past_one (call_of c.args.call.now) c.takes_pattern.result c.past_arguments-behind.result c.args.at c.requires.lawful (search (rules, the_lemmas)) c.if-takes_pattern.true inside in
    omega (arith, all, c.requires.room)

pub past_call-returns-then-takes_pattern : goal.past_call-returns-then-takes_pattern
past_call-returns-then-takes_pattern t c =
    let same : row (args_view c.deref.result.now) ≡ (call_of c.args.call.now).1 = search (rules, the_lemmas) in
    let inside : c.past_arguments-behind.result ≡ c.args.at + length (patterns_in (call_of c.args.call.now).1) = c.past_arguments-behind.ensures ∙ ap (λ (given : Arguments). c.args.at + length (patterns_in given)) same in
    past_one (call_of c.args.call.now) c.takes_pattern.result c.past_arguments-behind.result c.args.at c.requires.lawful (search (rules, the_lemmas)) c.if-takes_pattern.true inside

pub past_arguments-past-behind-requires : goal.past_arguments-past-behind-requires
past_arguments-past-behind-requires t c =
    let xs = c.args.arguments.now in
    let i = c.loop-argument.argument-index in
    let x = c.loop-argument-item.result in
    let here : drop i xs ≡ x ∷ drop (i + 1) xs = drop_more xs i x (omega arith) ∙ ap (λ y. y ∷ drop (i + 1) xs) (sym c.loop-argument-item.is) in
    let within : c.loop-argument.behind + length (patterns_of (tree_of x.1)) < 2 ^ 64 = omega (arith, count_more x (drop i xs) (drop (i + 1) xs) here, c.loop-argument.invariant.left, c.requires.room) in
    let lower : 3 * height (tree_of x.1) < t = omega (arith, item_measure i xs x (drop (i + 1) xs) here, c.decreases) in
    (lower, (lawful_first x (drop i xs) (drop (i + 1) xs) here c.loop-argument.invariant.lawful, within))

pub past-past-requires : goal.past-past-requires
past-past-requires t c =
    let is : tree_of c.args.e.now ≡ unary c.in-Unary.field-0 (tree_of c.deref.result.now) = rw c.in-Unary.is (search (rules, the_expressions)) in
    let lower : 3 * height (tree_of c.deref.result.now) < t = omega (arith, unary_measure c.in-Unary.field-0 (tree_of c.args.e.now) (tree_of c.deref.result.now) is, c.decreases) in
    (lower, (subst (λ (x : Tree). HasPatterns x) is c.requires.lawful, subst (λ (x : Tree). c.args.at + length (patterns_of x) < 2 ^ 64) is c.requires.room))

pub past-past_call-requires : goal.past-past_call-requires
past-past_call-requires t c =
    let is : tree_of c.args.e.now ≡ call_tree (call_of c.in-Call.call) = rw c.in-Call.is (search (rules, the_expressions)) in
    let lower : 3 * heights (call_of c.in-Call.call).1 + 2 < t = omega (arith, call_measure (tree_of c.args.e.now) (call_of c.in-Call.call) is, c.decreases) in
    (lower, (subst (λ (x : Tree). HasPatterns x) is c.requires.lawful, subst (λ (x : Tree). c.args.at + length (patterns_of x) < 2 ^ 64) is c.requires.room))

pub past-past-requires-in-Binary : goal.past-past-requires-in-Binary
past-past-requires-in-Binary t c =
    let is : tree_of c.args.e.now ≡ binary c.in-Binary.field-0 (tree_of c.deref-in-Binary-2.result.now) (tree_of c.deref-in-Binary.result.now) = rw c.in-Binary.is (search (rules, the_expressions)) in
    let lawful : HasPatterns (binary c.in-Binary.field-0 (tree_of c.deref-in-Binary-2.result.now) (tree_of c.deref-in-Binary.result.now)) = subst (λ (x : Tree). HasPatterns x) is c.requires.lawful in
    let both : length (patterns_of (tree_of c.args.e.now)) ≡ length (patterns_of (tree_of c.deref-in-Binary-2.result.now)) + length (patterns_of (tree_of c.deref-in-Binary.result.now)) =
    ap (λ (x : Tree). length (patterns_of x)) is ∙ length-append (patterns_of (tree_of c.deref-in-Binary-2.result.now)) (patterns_of (tree_of c.deref-in-Binary.result.now)) in
    let lower : 3 * height (tree_of c.deref-in-Binary-2.result.now) < t =
    omega (arith, first_measure c.in-Binary.field-0 (tree_of c.args.e.now) (tree_of c.deref-in-Binary-2.result.now) (tree_of c.deref-in-Binary.result.now) is, c.decreases) in
    let within : c.args.at + length (patterns_of (tree_of c.deref-in-Binary-2.result.now)) < 2 ^ 64 = omega (arith, both, c.requires.room) in
    (lower, (lawful.0, within))

pub past-past-requires-in-Binary-2 : goal.past-past-requires-in-Binary-2
past-past-requires-in-Binary-2 t c =
    let is : tree_of c.args.e.now ≡ binary c.in-Binary.field-0 (tree_of c.deref-in-Binary-2.result.now) (tree_of c.deref-in-Binary.result.now) = rw c.in-Binary.is (search (rules, the_expressions)) in
    let lawful : HasPatterns (binary c.in-Binary.field-0 (tree_of c.deref-in-Binary-2.result.now) (tree_of c.deref-in-Binary.result.now)) = subst (λ (x : Tree). HasPatterns x) is c.requires.lawful in
    let both : length (patterns_of (tree_of c.args.e.now)) ≡ length (patterns_of (tree_of c.deref-in-Binary-2.result.now)) + length (patterns_of (tree_of c.deref-in-Binary.result.now)) =
    ap (λ (x : Tree). length (patterns_of x)) is ∙ length-append (patterns_of (tree_of c.deref-in-Binary-2.result.now)) (patterns_of (tree_of c.deref-in-Binary.result.now)) in
    let lower : 3 * height (tree_of c.deref-in-Binary.result.now) < t =
    omega (arith, second_measure c.in-Binary.field-0 (tree_of c.args.e.now) (tree_of c.deref-in-Binary-2.result.now) (tree_of c.deref-in-Binary.result.now) is, c.decreases) in
    let within : c.past-in-Binary.result + length (patterns_of (tree_of c.deref-in-Binary.result.now)) < 2 ^ 64 = omega (arith, both, c.requires.room, c.past-in-Binary.ensures) in
    (lower, (lawful.1, within))

pub past_call-past_arguments-behind-requires : goal.past_call-past_arguments-behind-requires
past_call-past_arguments-behind-requires t c =
    let same : row (args_view c.deref.result.now) ≡ (call_of c.args.call.now).1 = search (rules, the_lemmas) in
    let lower : 3 * heights (row (args_view c.deref.result.now)) + 1 < t = omega (arith, arguments_measure (row (args_view c.deref.result.now)) (call_of c.args.call.now).1 same, c.decreases) in
    let within : c.args.at + length (patterns_in (call_of c.args.call.now).1) < 2 ^ 64 =
    omega (arith, c.requires.room, length-append (patterns_in (call_of c.args.call.now).1) (patterns_for (call_of c.args.call.now).1 (function_named (call_of c.args.call.now).0))) in
    (lower, (subst (λ (g : Arguments). HavePatterns g) (sym same) c.requires.lawful.0, subst (λ (g : Arguments). c.args.at + length (patterns_in g) < 2 ^ 64) (sym same) within))

pub past_call-returns : goal.past_call-returns
past_call-returns t c =
    let same : row (args_view c.deref.result.now) ≡ (call_of c.args.call.now).1 = search (rules, the_lemmas) in
    let inside : c.past_arguments-behind.result ≡ c.args.at + length (patterns_in (call_of c.args.call.now).1) = c.past_arguments-behind.ensures ∙ ap (λ (given : Arguments). c.args.at + length (patterns_in given)) same in
    past_none (call_of c.args.call.now) c.takes_pattern.result c.past_arguments-behind.result c.args.at c.requires.lawful (search (rules, the_lemmas)) c.if-takes_pattern.false inside
