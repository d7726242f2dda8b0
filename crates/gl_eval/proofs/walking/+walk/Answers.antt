use Rattle.std.proofs.Common.{rules, ◌≡◌, ◌+◌, ◌-◌, ◌*◌, ◌<◌, length, map, ℕ, List, [], ◌∷◌, ◌++◌, take, drop, refl, sym, ap, ◌∙◌, subst, arith}
use Rattle.std.proofs.lemmas.List.{drop_more, drop_all}
use Rattle.gl_rulelang.specs.Tree.{Tree, tree_of, call_of, call_tree, args_view, row, Arguments, unary, binary, height, heights}
use Rattle.gl_rulelang.specs.Tree as trees
use Rattle.gl_rulelang.specs.declared.rule.Call.{the_lemmas}
use Rattle.gl_rulelang.specs.declared.rule.Expr.{the_lemmas as the_expressions}
use Rattle.std.specs.Prelude.{option_copied, Some, None}
use Rattle.std.proofs.lemmas.Result.{IfOk-weaker, on_ok_weaker}
use Rattle.gl_check.specs.Values.{Value, bounded}
use Rattle.gl_check.specs.Functions.{asked, function_named}
use Rattle.gl_check.specs.Arguments.{names_view}
use Rattle.gl_check.specs.Checking.{patterns_of, patterns_in}
use Rattle.gl_functions.specs.Calls.{result_of}
use Rattle.gl_eval.specs.Meaning.{meaning, meanings}
use Rattle.gl_eval.specs.Patterns.{StandAt, HasPatterns, HavePatterns, TakesNext, taken_by}
use Rattle.gl_eval.specs.Scopes.{scope_in}
use Rattle.gl_eval.proofs.Standing.{first_stand, second_stand}
use Rattle.gl_eval.proofs.Rows.{values_more, values_end, lawful_first, lawful_more, stands_first, stands_more, count_more, count_end}
use Rattle.gl_eval.proofs.Heights.{item_measure, unary_measure, first_measure, second_measure, call_measure, arguments_measure}
use Rattle.gl_eval.proofs.Called.{AreFor, called_means, called_missing, inside_stand, called_takes, called_next, missing_next, text_means, whole_means, truth_means, field_means, variable_means, unary_means, binary_means, binary_next, binary_first, binary_second}
use Rattle.gl_eval.proofs.Fitting.{cut_back, fitted_are_for, fitted_back, lent_rest}
use Rattle.gl_eval.proofs.walking.+walk.Goals as goal

pub value_of-value_of-requires-in-Binary : goal.value_of-value_of-requires-in-Binary
value_of-value_of-requires-in-Binary t c =
    let is : tree_of c.args.e.now ≡ binary c.in-Binary.sign (tree_of c.deref-in-Binary.result.now) (tree_of c.in-Binary.second.value) = rw c.in-Binary.is (search (rules, the_expressions)) in
    let lawful : HasPatterns (binary c.in-Binary.sign (tree_of c.deref-in-Binary.result.now) (tree_of c.in-Binary.second.value)) = subst (λ (x : Tree). HasPatterns x) is c.requires.lawful in
    let lower : 3 * height (tree_of c.deref-in-Binary.result.now) < t =
    omega (arith, first_measure c.in-Binary.sign (tree_of c.args.e.now) (tree_of c.deref-in-Binary.result.now) (tree_of c.in-Binary.second.value) is, c.decreases) in
    (lower, (lawful.0, binary_first c.in-Binary.sign (tree_of c.args.e.now) (tree_of c.deref-in-Binary.result.now) (tree_of c.in-Binary.second.value) c.args.laid.now.next c.args.laid.now.patterns.items is c.requires.patterns))

pub value_of-value_of-requires-in-Binary-2 : goal.value_of-value_of-requires-in-Binary-2
value_of-value_of-requires-in-Binary-2 t c =
    let is : tree_of c.args.e.now ≡ binary c.in-Binary.sign (tree_of c.deref-in-Binary.result.now) (tree_of c.deref-in-Binary-2.result.now) = rw c.in-Binary.is (search (rules, the_expressions)) in
    let lawful : HasPatterns (binary c.in-Binary.sign (tree_of c.deref-in-Binary.result.now) (tree_of c.deref-in-Binary-2.result.now)) = subst (λ (x : Tree). HasPatterns x) is c.requires.lawful in
    let lower : 3 * height (tree_of c.deref-in-Binary-2.result.now) < t =
    omega (arith, second_measure c.in-Binary.sign (tree_of c.args.e.now) (tree_of c.deref-in-Binary.result.now) (tree_of c.deref-in-Binary-2.result.now) is, c.decreases) in
    (lower, (lawful.1, binary_second c.in-Binary.sign (tree_of c.args.e.now) (tree_of c.deref-in-Binary.result.now) (tree_of c.deref-in-Binary-2.result.now) _ _ _ _ is c.requires.patterns c.in_ok-first-in-Binary.ensures.next c.in_ok-first-in-Binary.ensures.same))

pub value_of-returns-in-Text-clause-value : goal.value_of-returns-in-Text-clause-value
value_of-returns-in-Text-clause-value t c =
    let is : tree_of c.args.e.now ≡ trees.text c.in-Text.text = rw c.in-Text.is (search (rules, the_expressions)) in
    text_means (scope_in c.args.scope.now) (tree_of c.args.e.now) c.in-Text.text c.as_str.result.now c.of_text.result is c.as_str.ensures c.of_text.ensures

pub value_of-returns-in-Whole-clause-value : goal.value_of-returns-in-Whole-clause-value
value_of-returns-in-Whole-clause-value t c =
    let is : tree_of c.args.e.now ≡ trees.whole c.in-Whole.number = rw c.in-Whole.is (search (rules, the_expressions)) in
    whole_means (scope_in c.args.scope.now) (tree_of c.args.e.now) c.in-Whole.number c.whole_of.result is c.whole_of.ensures

pub value_of-returns-in-Bool-clause-value : goal.value_of-returns-in-Bool-clause-value
value_of-returns-in-Bool-clause-value t c =
    let is : tree_of c.args.e.now ≡ trees.boolean c.in-Bool.holds = rw c.in-Bool.is (search (rules, the_expressions)) in
    truth_means (scope_in c.args.scope.now) (tree_of c.args.e.now) c.in-Bool.holds c.of_truth.result is c.of_truth.ensures

pub value_of-returns-in-Field-clause-value : goal.value_of-returns-in-Field-clause-value
value_of-returns-in-Field-clause-value t c =
    let is : tree_of c.args.e.now ≡ trees.field c.in-Field.name = rw c.in-Field.is (search (rules, the_expressions)) in
    field_means (scope_in c.args.scope.now) (tree_of c.args.e.now) c.in-Field.name c.as_str-in-Field.result.now (option_copied c.get.result) c.of_field.result is c.as_str-in-Field.ensures c.get.ensures c.of_field.ensures

pub value_of-returns-in-Var-clause-value : goal.value_of-returns-in-Var-clause-value
value_of-returns-in-Var-clause-value t c =
    let is : tree_of c.args.e.now ≡ trees.variable c.in-Var.name = rw c.in-Var.is (search (rules, the_expressions)) in
    variable_means (scope_in c.args.scope.now) (tree_of c.args.e.now) c.in-Var.name c.as_str-in-Var.result.now c.variable_in.result is c.as_str-in-Var.ensures c.variable_in.ensures

pub value_of-returns-in_ok-operand-in-Unary-clause-value : goal.value_of-returns-in_ok-operand-in-Unary-clause-value
value_of-returns-in_ok-operand-in-Unary-clause-value t c =
    let is : tree_of c.args.e.now ≡ unary c.in-Unary.sign (tree_of c.deref.result.now) = rw c.in-Unary.is (search (rules, the_expressions)) in
    unary_means (scope_in c.args.scope.now) c.in-Unary.sign (tree_of c.args.e.now) (tree_of c.deref.result.now) c.in_ok-operand-in-Unary.operand c.prefixed.result is c.in_ok-operand-in-Unary.ensures.value c.prefixed.ensures

pub value_of-returns-in_ok-second-in-Binary-clause-value : goal.value_of-returns-in_ok-second-in-Binary-clause-value
value_of-returns-in_ok-second-in-Binary-clause-value t c =
    let is : tree_of c.args.e.now ≡ binary c.in-Binary.sign (tree_of c.deref-in-Binary.result.now) (tree_of c.deref-in-Binary-2.result.now) = rw c.in-Binary.is (search (rules, the_expressions)) in
    binary_means (scope_in c.args.scope.now) c.in-Binary.sign (tree_of c.args.e.now) (tree_of c.deref-in-Binary.result.now) (tree_of c.deref-in-Binary-2.result.now) c.in_ok-first-in-Binary.first c.in_ok-second-in-Binary.second c.infixed.result
    is c.in_ok-first-in-Binary.ensures.value c.in_ok-second-in-Binary.ensures.value c.infixed.ensures

pub value_of-returns-in_ok-second-in-Binary-clause-next : goal.value_of-returns-in_ok-second-in-Binary-clause-next
value_of-returns-in_ok-second-in-Binary-clause-next t c =
    let is : tree_of c.args.e.now ≡ binary c.in-Binary.sign (tree_of c.deref-in-Binary.result.now) (tree_of c.deref-in-Binary-2.result.now) = rw c.in-Binary.is (search (rules, the_expressions)) in
    binary_next c.in-Binary.sign (tree_of c.args.e.now) (tree_of c.deref-in-Binary.result.now) (tree_of c.deref-in-Binary-2.result.now) _ _ _ is c.in_ok-first-in-Binary.ensures.next c.in_ok-second-in-Binary.ensures.next

pub value_of_call-push_values-requires : goal.value_of_call-push_values-requires
value_of_call-push_values-requires t c =
    let same : row (args_view c.deref.result.now) ≡ (call_of c.args.call.now).1 = search (rules, the_lemmas) in
    let lower : 3 * heights (row (args_view c.deref.result.now)) + 1 < t = omega (arith, arguments_measure (row (args_view c.deref.result.now)) (call_of c.args.call.now).1 same, c.decreases) in (
      lower,
      (
        subst (λ (g : Arguments). HavePatterns g) (sym same) c.requires.lawful.0,
        subst (λ (g : Arguments). StandAt c.args.laid.now.next (patterns_in g) c.args.laid.now.patterns.items) (sym same) (inside_stand (call_of c.args.call.now) c.args.laid.now.next c.args.laid.now.patterns.items c.requires.patterns),
      ),
    )

pub value_of_call-returns-in_default-clause-value : goal.value_of_call-returns-in_default-clause-value
value_of_call-returns-in_default-clause-value t c =
    let name : c.as_str.result.now ≡ (call_of c.args.call.now).0 = search (rules, the_lemmas) in
    let none : function_named (call_of c.args.call.now).0 ≡ None = ap function_named (sym name) ∙ sym c.named.ensures ∙ c.in_default.is in
    called_missing (scope_in c.args.scope.now) (call_of c.args.call.now) c.missing.result none c.missing.ensures

pub value_of_call-computed-requires : goal.value_of_call-computed-requires
value_of_call-computed-requires t c =
    let call = call_of c.args.call.now in
    let s = scope_in c.args.scope.now in
    let f = c.in-Some.function in
    let name : c.as_str.result.now ≡ (call_of c.args.call.now).0 = search (rules, the_lemmas) in
    let named : function_named (call_of c.args.call.now).0 ≡ Some c.in-Some.function = ap function_named (sym name) ∙ sym c.named.ensures ∙ c.in-Some.is in
    let one : row (args_view c.deref.result.now) ≡ (call_of c.args.call.now).1 = search (rules, the_lemmas) in
    let two : row (args_view c.deref-2.result.now) ≡ (call_of c.args.call.now).1 = search (rules, the_lemmas) in
    let next : c.push_values.new.laid.next ≡ c.args.laid.now.next + length (patterns_in (call_of c.args.call.now).1) =
    c.in_ok-push_values.ensures.next ∙ ap (λ (g : Arguments). c.args.laid.now.next + length (patterns_in g)) one in
    let are : AreFor (scope_in c.args.scope.now) (call_of c.args.call.now).1 c.in-Some.function (take (length c.deref-3.result.now - c.len-from.result) (drop c.len-from.result c.deref-3.result.now)) =
    fitted_are_for s call.1 f c.deref.result.now c.deref-2.result.now c.args.stack.now.items c.push_values.new.stack.items c.fit.new.stack.items (take (length c.deref-3.result.now - c.len-from.result) (drop c.len-from.result c.deref-3.result.now)) c.len-from.result
    (map asked c.parameters.result.now) one two c.parameters.ensures (search rules) c.in_ok-push_values.ensures.values c.in_ok-fit.ensures (lent_rest c.fit.new.stack.items c.deref-3.result.now c.len-from.result c.deref-3.ensures.value) in
    let st = subst (λ (ps : List (List ℕ)). StandAt c.args.laid.now.next (patterns_of (call_tree (call_of c.args.call.now))) ps) (sym c.in_ok-push_values.ensures.same) c.requires.patterns in
    called_takes s call f (take (length c.deref-3.result.now - c.len-from.result) (drop c.len-from.result c.deref-3.result.now)) c.push_values.new.laid.patterns.items c.args.laid.now.next c.push_values.new.laid.next named c.requires.lawful are st next

pub value_of_call-returns-clause-value : goal.value_of_call-returns-clause-value
value_of_call-returns-clause-value t c =
    let call = call_of c.args.call.now in
    let s = scope_in c.args.scope.now in
    let f = c.in-Some.function in
    let name : c.as_str.result.now ≡ (call_of c.args.call.now).0 = search (rules, the_lemmas) in
    let named : function_named (call_of c.args.call.now).0 ≡ Some c.in-Some.function = ap function_named (sym name) ∙ sym c.named.ensures ∙ c.in-Some.is in
    let one : row (args_view c.deref.result.now) ≡ (call_of c.args.call.now).1 = search (rules, the_lemmas) in
    let two : row (args_view c.deref-2.result.now) ≡ (call_of c.args.call.now).1 = search (rules, the_lemmas) in
    let are : AreFor (scope_in c.args.scope.now) (call_of c.args.call.now).1 c.in-Some.function (take (length c.deref-3.result.now - c.len-from.result) (drop c.len-from.result c.deref-3.result.now)) =
    fitted_are_for s call.1 f c.deref.result.now c.deref-2.result.now c.args.stack.now.items c.push_values.new.stack.items c.fit.new.stack.items (take (length c.deref-3.result.now - c.len-from.result) (drop c.len-from.result c.deref-3.result.now)) c.len-from.result
    (map asked c.parameters.result.now) one two c.parameters.ensures (search rules) c.in_ok-push_values.ensures.values c.in_ok-fit.ensures (lent_rest c.fit.new.stack.items c.deref-3.result.now c.len-from.result c.deref-3.ensures.value) in
    called_means s call f (take (length c.deref-3.result.now - c.len-from.result) (drop c.len-from.result c.deref-3.result.now)) c.in_ok-value.value named are c.in_ok-value.ensures.value

pub value_of_call-returns-clause-next : goal.value_of_call-returns-clause-next
value_of_call-returns-clause-next t c =
    let call = call_of c.args.call.now in
    let f = c.in-Some.function in
    let name : c.as_str.result.now ≡ (call_of c.args.call.now).0 = search (rules, the_lemmas) in
    let named : function_named (call_of c.args.call.now).0 ≡ Some c.in-Some.function = ap function_named (sym name) ∙ sym c.named.ensures ∙ c.in-Some.is in
    let one : row (args_view c.deref.result.now) ≡ (call_of c.args.call.now).1 = search (rules, the_lemmas) in
    let next : c.push_values.new.laid.next ≡ c.args.laid.now.next + length (patterns_in (call_of c.args.call.now).1) =
    c.in_ok-push_values.ensures.next ∙ ap (λ (g : Arguments). c.args.laid.now.next + length (patterns_in g)) one in
    called_next call f c.args.laid.now.next c.push_values.new.laid.next c.computed.new.laid.next named c.requires.lawful next c.in_ok-value.ensures.next

pub value_of_call-returns-clause-kept : goal.value_of_call-returns-clause-kept
value_of_call-returns-clause-kept t c =
    c.truncate-2.ensures.items
    ∙ fitted_back c.args.stack.now.items (meanings (scope_in c.args.scope.now) (row (args_view c.deref.result.now))) c.push_values.new.stack.items c.fit.new.stack.items c.len-from.result (map asked c.parameters.result.now) (names_view c.deref-2.result.now)
    (search rules) c.in_ok-push_values.ensures.values c.in_ok-fit.ensures

pub value_of_call-returns-in_default-clause-kept : goal.value_of_call-returns-in_default-clause-kept
value_of_call-returns-in_default-clause-kept t c =
    c.truncate.ensures.items
    ∙ cut_back c.args.stack.now.items (meanings (scope_in c.args.scope.now) (row (args_view c.deref.result.now))) c.push_values.new.stack.items c.len-from.result (search rules) c.in_ok-push_values.ensures.values

pub push_values-value_of-requires : goal.push_values-value_of-requires
push_values-value_of-requires t c =
    let xs = c.args.arguments.now in
    let i = c.loop-argument.argument-index in
    let x = c.loop-argument-item.result in
    let here : drop i xs ≡ x ∷ drop (i + 1) xs = drop_more xs i x (omega arith) ∙ ap (λ y. y ∷ drop (i + 1) xs) (sym c.loop-argument-item.is) in
    let lower : 3 * height (tree_of x.1) < t = omega (arith, item_measure i xs x (drop (i + 1) xs) here, c.decreases) in (
      lower,
      (
        lawful_first x (drop i xs) (drop (i + 1) xs) here c.loop-argument.invariant.lawful,
        stands_first c.loop-argument.laid.next x (drop i xs) (drop (i + 1) xs) c.loop-argument.laid.patterns.items here c.loop-argument.invariant.patterns,
      ),
    )

pub push_values-loop-argument-preserved : goal.push_values-loop-argument-preserved
push_values-loop-argument-preserved t c =
    let xs = c.args.arguments.now in
    let i = c.loop-argument.argument-index in
    let x = c.loop-argument-item.result in
    let here : drop i xs ≡ x ∷ drop (i + 1) xs = drop_more xs i x (omega arith) ∙ ap (λ y. y ∷ drop (i + 1) xs) (sym c.loop-argument-item.is) in
    let s = scope_in c.args.scope.now in
    let all = c.args.stack.now.items ++ meanings s (row (args_view xs)) in
    let put : c.push.new.self.items ≡ c.loop-argument.stack.items ++ c.in_ok-value.value ∷ [] = c.in_ok-push.ensures.items ∙ ap (λ (vs : List Value). vs ++ c.in_ok-value.value ∷ []) c.in_ok-value.ensures.kept in
    record {
      values = subst (λ (vs : List Value). vs ++ meanings s (row (args_view (drop (i + 1) xs))) ≡ all) (sym put)
          (values_more s all c.loop-argument.stack.items c.in_ok-value.value x (drop i xs) (drop (i + 1) xs) here c.in_ok-value.ensures.value c.loop-argument.invariant.values);
      lawful = lawful_more x (drop i xs) (drop (i + 1) xs) here c.loop-argument.invariant.lawful;
      patterns = subst (λ (ps : List (List ℕ)). StandAt c.value_of.new.laid.next (patterns_in (row (args_view (drop (i + 1) xs)))) ps) (sym c.in_ok-value.ensures.same)
          (stands_more c.loop-argument.laid.next c.value_of.new.laid.next x (drop i xs) (drop (i + 1) xs) c.loop-argument.laid.patterns.items here c.loop-argument.invariant.patterns c.in_ok-value.ensures.next);
      next = omega (arith, count_more x (drop i xs) (drop (i + 1) xs) here, c.loop-argument.invariant.next, c.in_ok-value.ensures.next);
      same = c.in_ok-value.ensures.same ∙ c.loop-argument.invariant.same;
    }

pub push_values-returns-clause-values : goal.push_values-returns-clause-values
push_values-returns-clause-values t c =
    values_end (scope_in c.args.scope.now) (c.args.stack.now.items ++ meanings (scope_in c.args.scope.now) (row (args_view c.args.arguments.now))) c.loop-argument.stack.items (drop c.loop-argument.argument-index c.args.arguments.now)
    (drop_all c.loop-argument.argument-index c.args.arguments.now (omega arith)) c.loop-argument.invariant.values

pub value_of-value_of_call-requires : goal.value_of-value_of_call-requires
value_of-value_of_call-requires t c =
    let is : tree_of c.args.e.now ≡ call_tree (call_of c.in-Call.call) = rw c.in-Call.is (search (rules, the_expressions)) in
    let lower : 3 * heights (call_of c.in-Call.call).1 + 2 < t = omega (arith, call_measure (tree_of c.args.e.now) (call_of c.in-Call.call) is, c.decreases) in
    (lower, (subst (λ (x : Tree). HasPatterns x) is c.requires.lawful, subst (λ (x : Tree). StandAt c.args.laid.now.next (patterns_of x) c.args.laid.now.patterns.items) is c.requires.patterns))

pub value_of-value_of-requires : goal.value_of-value_of-requires
value_of-value_of-requires t c =
    let is : tree_of c.args.e.now ≡ unary c.in-Unary.sign (tree_of c.deref.result.now) = rw c.in-Unary.is (search (rules, the_expressions)) in
    let lower : 3 * height (tree_of c.deref.result.now) < t = omega (arith, unary_measure c.in-Unary.sign (tree_of c.args.e.now) (tree_of c.deref.result.now) is, c.decreases) in
    (lower, (subst (λ (x : Tree). HasPatterns x) is c.requires.lawful, subst (λ (x : Tree). StandAt c.args.laid.now.next (patterns_of x) c.args.laid.now.patterns.items) is c.requires.patterns))
