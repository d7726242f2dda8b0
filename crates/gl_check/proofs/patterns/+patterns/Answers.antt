use Rattle.std.proofs.Common.{rules, ◌≡◌, ◌++◌, List, ℕ, ap, ◌∙◌, append_assoc}
use Rattle.std.proofs.lemmas.Result.{on_ok_weaker}
use Rattle.gl_rulelang.specs.Tree.{call_of, args_view, row, Arguments}
use Rattle.gl_rulelang.specs.declared.rule.Call.{the_lemmas}
use Rattle.gl_check.specs.Functions.{function_named}
use Rattle.gl_check.specs.Checking.{patterns_in, patterns_for}
use Rattle.gl_check.proofs.patterns.+patterns.Goals as goal

pub push_call-returns : goal.push_call-returns
push_call-returns t c =
    let call = call_of c.args.call.now in
    let own = patterns_for call.1 (function_named call.0) in
    let same : row (args_view c.deref.result.now) ≡ (call_of c.args.call.now).1 = search (rules, the_lemmas) in
    on_ok_weaker c.push_own.result
    (λ e. e ∙ ap (λ (l : List (List ℕ)). l ++ own) (c.in_ok-push_inside.ensures ∙ ap (λ (given : Arguments). c.args.out.now ++ patterns_in given) same) ∙ append_assoc c.args.out.now (patterns_in call.1) own)
    c.push_own.ensures
