use Rattle.std.proofs.Common.{rules, ◌≡◌, ◌≤◌, IsTrue, subst}
use Rattle.gl_rulelang.specs.Tree.{call_of, args_view, heights, row, Arguments}
use Rattle.gl_rulelang.specs.declared.rule.Call.{the_lemmas}
use Rattle.gl_rulelang.proofs.expression.+within.Goals as goal

pub call_is_within-returns : goal.call_is_within-returns
call_is_within-returns t c =
    let same : row (args_view c.deref.result.now) ≡ (call_of c.args.call.now).1 = search (rules, the_lemmas) in
    subst (λ (given : Arguments). (IsTrue c.are_within.result → heights given ≤ c.args.most) × (heights given ≤ c.args.most → IsTrue c.are_within.result)) same c.are_within.ensures
