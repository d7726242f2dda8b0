use Rattle.std.proofs.Common.{rules, ◌≡◌, ◌+◌, map, ℕ, List, [], refl, sym, ap, ◌∙◌}
use Rattle.std.specs.Prelude.{Some}
use Rattle.std.proofs.lemmas.Result.{IfOk-weaker}
use Rattle.gl_rulelang.specs.Tree.{call_of, args_view, row, Arguments}
use Rattle.gl_rulelang.specs.declared.rule.Call.{the_lemmas}
use Rattle.gl_check.specs.Functions.{asked, function_named}
use Rattle.gl_functions.specs.Worlds.{known_of}
use Rattle.gl_eval.specs.declared.staged.Staged.{Staged}
use Rattle.gl_eval.specs.Changes.{changed}
use Rattle.gl_eval.specs.Scopes.{scope_in}
use Rattle.gl_eval.proofs.Called.{AreFor}
use Rattle.gl_eval.proofs.Fitting.{fitted_are_for}
use Rattle.gl_eval.proofs.Asked.{asked_does}
use Rattle.gl_eval.proofs.acting.asked_by.Goals as goal

pub returns-clause-value : goal.returns-clause-value
returns-clause-value c =
    let call = call_of c.args.call.now in
    let s = scope_in c.args.scope.now in
    let f = c.in-Some.function in
    let name : c.as_str.result.now ≡ (call_of c.args.call.now).0 = search (rules, the_lemmas) in
    let named : function_named (call_of c.args.call.now).0 ≡ Some c.in-Some.function = ap function_named (sym name) ∙ sym c.named.ensures ∙ c.in-Some.is in
    let one : row (args_view c.deref.result.now) ≡ (call_of c.args.call.now).1 = search (rules, the_lemmas) in
    let two : row (args_view c.deref-2.result.now) ≡ (call_of c.args.call.now).1 = search (rules, the_lemmas) in
    let are : AreFor (scope_in c.args.scope.now) (call_of c.args.call.now).1 c.in-Some.function c.as_slice.result.now =
    fitted_are_for s call.1 f c.deref.result.now c.deref-2.result.now c.new-stack.result.items c.push_values.new.stack.items c.fit.new.stack.items c.as_slice.result.now 0
    (map asked c.parameters.result.now) one two c.parameters.ensures (search rules) c.in_ok-push_values.ensures.values c.in_ok-fit.ensures c.as_slice.ensures.value in
    IfOk-weaker c.asked.result _ _ (λ change h. λ m. asked_does s (known_of c.args.scope.now.world.now) call f c.as_slice.result.now m (changed change m) named are (h m)) c.asked.ensures
