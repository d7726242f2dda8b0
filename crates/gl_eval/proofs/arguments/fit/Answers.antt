use Rattle.std.proofs.Common.{rules, ◌≡◌, ◌-◌, ◌++◌, ℕ, List, length, map, take, drop, sym, ap, ◌∙◌, subst, arith}
use Rattle.std.proofs.lemmas.Result.{on_ok_weaker}
use Rattle.gl_check.specs.declared.parameter.Parameter.{Parameter}
use Rattle.gl_check.specs.Values.{Value}
use Rattle.gl_check.specs.Arguments.{names_view}
use Rattle.gl_check.specs.Functions.{asked}
use Rattle.gl_eval.specs.Meaning.{values_for}
use Rattle.gl_eval.specs.Fitting.{IsInPlace}
use Rattle.gl_eval.proofs.Fitting.{fits_in_place, lent_rest}
use Rattle.gl_eval.proofs.arguments.fit.Goals as goal

pub returns-in-Some : goal.returns-in-Some
returns-in-Some c =
    let old = c.args.stack.now.items in
    let ps = c.args.parameters.now in
    let names = names_view c.args.arguments.now in
    let rest = c.in-Some.rest.now in
    let from = c.args.from in
    let count : c.len.result ≡ length c.args.stack.now.items = search rules in
    let stand : IsInPlace (length c.args.stack.now.items - c.args.from) (length c.args.parameters.now) (names_view c.args.arguments.now) =
    subst (λ (n : ℕ). IsInPlace (n - from) (length ps) names) count c.in-Some.ensures.in_place in
    let left : c.in-Some.rest.now ≡ drop (length c.args.stack.now.items - c.args.from) c.args.parameters.now = c.in-Some.ensures.rest ∙ ap (λ (n : ℕ). drop (n - from) ps) count in
    on_ok_weaker c.push_defaults.result (λ is. fits_in_place old c.push_defaults.new.stack.items from ps rest names c.requires stand left is) c.push_defaults.ensures

pub returns : goal.returns
returns c =
    let old = c.args.stack.now.items in
    let ps = map asked c.args.parameters.now in
    let names = names_view c.args.arguments.now in
    let from = c.args.from in
    let values : c.in_ok-values.values.items ≡ values_for (map asked c.args.parameters.now) (names_view c.args.arguments.now) (drop c.args.from c.args.stack.now.items) =
    c.in_ok-values.ensures ∙ ap (λ (vs : List Value). values_for ps names vs) (lent_rest old c.deref.result.now from c.deref.ensures.value) in
    c.in_ok-append.ensures.items ∙ ap (λ (vs : List Value). vs ++ c.in_ok-values.values.items) c.truncate.ensures.items ∙ ap (λ (vs : List Value). take from old ++ vs) values
