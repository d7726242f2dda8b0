use Rattle.std.proofs.Common.{rules, ◌≡◌, List, ℕ, ap, ◌∙◌}
use Rattle.gl_rulelang.specs.Tree.{call_of, args_view, row, Arguments}
use Rattle.gl_rulelang.specs.declared.rule.Expr.TheViews.{roll-Call}
use Rattle.gl_rulelang.specs.declared.rule.Call.{the_lemmas}
use Rattle.gl_rulelang.proofs.Alike.{pair_is}
use Rattle.gl_rulelang.proofs.copy.+copy.Goals as goal

pub copy_call-returns : goal.copy_call-returns
copy_call-returns t c =
    let same : row (args_view c.deref.result.now) ≡ (call_of c.args.call.now).1 = search (rules, the_lemmas) in
    let named : c.in_ok-name.name ≡ (call_of c.args.call.now).0 = search (rules, the_lemmas) in
    let made : call_of (roll-Call (record { name = c.in_ok-name.name; arguments = c.in_ok-arguments.arguments })) ≡ (c.in_ok-name.name, row (args_view c.in_ok-arguments.arguments.items)) = search (rules, the_lemmas) in
    made ∙ pair_is (call_of c.args.call.now) c.in_ok-name.name (row (args_view c.in_ok-arguments.arguments.items)) named (ap row c.in_ok-arguments.ensures ∙ same)
