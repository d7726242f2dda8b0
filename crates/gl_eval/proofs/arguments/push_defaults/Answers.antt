use Rattle.std.proofs.Common.{rules, ◌≡◌, ◌+◌, ◌++◌, ◌∷◌, List, [], drop, get_or, map, sym, ap, ◌∙◌, subst, arith}
use Rattle.std.proofs.lemmas.List.{drop_more, drop_all}
use Rattle.gl_check.specs.declared.parameter.Parameter.TheVariants as params
use Rattle.gl_check.specs.Values.{Value}
use Rattle.gl_check.specs.Functions.{asked}
use Rattle.gl_eval.specs.Fitting.{default_for}
use Rattle.gl_eval.proofs.Fitting.{defaults_more, defaults_end}
use Rattle.gl_eval.proofs.arguments.push_defaults.Goals as goal

pub loop-parameter-preserved : goal.loop-parameter-preserved
loop-parameter-preserved c =
    let xs = c.args.parameters.now in
    let i = c.loop-parameter.parameter-index in
    let x = get_or xs i params.Field in
    let all = c.args.stack.now.items ++ map default_for (map asked xs) in
    subst (λ (vs : List Value). vs ++ map default_for (map asked (drop (i + 1) xs)) ≡ all) (sym c.in_ok-push.ensures.items)
    (defaults_more all c.loop-parameter.stack.items c.default_of.result x (drop i xs) (drop (i + 1) xs) (drop_more xs i params.Field (omega arith)) c.default_of.ensures c.loop-parameter.invariant)

pub returns : goal.returns
returns c =
    let xs = c.args.parameters.now in
    defaults_end (c.args.stack.now.items ++ map default_for (map asked xs)) c.loop-parameter.stack.items (drop c.loop-parameter.parameter-index xs) (drop_all c.loop-parameter.parameter-index xs (omega arith)) c.loop-parameter.invariant
