use Rattle.std.proofs.Common.{◌≡◌, ◌++◌, ◌∷◌, [], true, false, List, ℕ, sym, subst, rules, arith}
use Rattle.std.proofs.lemmas.Result.{err_from_is_err_and}
use Rattle.gl_rulelang.specs.declared.token.Sign.TheVariants as signs
use Rattle.gl_rulelang.specs.Tokens.{left}
use Rattle.gl_rulelang.specs.Rules.{is_at}
use Rattle.gl_rulelang.proofs.StageSteps.{NamesSoFar, names_more, names_fewer, names_fail, names_end}
use Rattle.gl_rulelang.proofs.stages.rule_names.Goals as goal

pub returns-in_err-rule_name : goal.returns-in_err-rule_name
returns-in_err-rule_name c =
    let ts = left c.loop-alloc.cursor in
    let more : is_at signs.Rule ts ≡ true = grind arith in
    let e = c.in_err-rule_name.field-0.0 in
    let q = err_from_is_err_and c.from_residual.result c.from_residual.ensures.1 in
    rw (q.1, q.2) (names_fail (left c.args.cursor.now) c.loop-alloc.names.items ts e c.loop-alloc.invariant more c.in_err-rule_name.ensures)

pub loop-alloc-smaller : goal.loop-alloc-smaller
loop-alloc-smaller c = names_fewer (left c.loop-alloc.cursor) (c.in_ok-rule_name.field-0, left c.rule_name.new.cursor) c.in_ok-rule_name.ensures

pub loop-alloc-preserved : goal.loop-alloc-preserved
loop-alloc-preserved c =
    let ts = left c.loop-alloc.cursor in
    let more : is_at signs.Rule ts ≡ true = grind arith in
    let pushed : c.push.new.self.items ≡ c.loop-alloc.names.items ++ c.in_ok-rule_name.field-0 ∷ [] = search rules in
    subst (λ (done : List (List ℕ)). NamesSoFar (left c.args.cursor.now) done (left c.rule_name.new.cursor)) (sym pushed)
    (names_more (left c.args.cursor.now) c.loop-alloc.names.items ts c.in_ok-rule_name.field-0 (left c.rule_name.new.cursor) c.loop-alloc.invariant more c.in_ok-rule_name.ensures)

pub returns : goal.returns
returns c =
    let ts = left c.loop-alloc.cursor in
    let at_end : is_at signs.Rule ts ≡ false = grind arith in
    names_end (left c.args.cursor.now) c.loop-alloc.names.items ts c.loop-alloc.invariant at_end
