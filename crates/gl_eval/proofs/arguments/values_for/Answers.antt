use Rattle.std.proofs.Common.{◌≡◌, map, ℕ, suc, ◌+◌, ◌<◌, length, List, [], ◌∷◌, ◌++◌, take, get_or, refl, sym, ap, ◌∙◌, add-one, arith}
use Rattle.gl_check.specs.declared.parameter.Parameter.TheVariants as params
use Rattle.gl_check.specs.Values.{Value}
use Rattle.gl_check.specs.Arguments.{names_view}
use Rattle.gl_check.specs.Functions.{asked}
use Rattle.gl_eval.specs.Meaning.{value_for, values_for}
use Rattle.gl_eval.proofs.Counts.{values_more}
use Rattle.gl_eval.proofs.arguments.values_for.Goals as goal

pub loop-place-preserved : goal.loop-place-preserved
loop-place-preserved c =
    let names = names_view c.args.arguments.now in
    let i = c.loop-place.place in
    let xs = c.args.parameters.now in
    let before = values_for (map asked (take i xs)) names c.args.given.now in
    let here = value_for names c.args.given.now (i, asked (get_or xs i params.Field)) in
    let pushed : c.push.new.self.items ≡ before ++ here ∷ [] =
    c.in_ok-push.ensures.items ∙ ap (λ (vs : List Value). vs ++ c.in_ok-value_for.field-0 ∷ []) c.loop-place.invariant ∙ ap (λ (v : Value). before ++ v ∷ []) c.in_ok-value_for.ensures in
    let place : 0 + i ≡ i = omega arith in
    let more : values_for (map asked (take (suc i) xs)) names c.args.given.now ≡ before ++ here ∷ [] =
    values_more (value_for names c.args.given.now) 0 xs i params.Field (omega arith) ∙ ap (λ (k : ℕ). before ++ value_for names c.args.given.now (k, asked (get_or xs i params.Field)) ∷ []) place in
    pushed ∙ sym more ∙ ap (λ (n : ℕ). values_for (map asked (take n xs)) names c.args.given.now) (sym (add-one i))
