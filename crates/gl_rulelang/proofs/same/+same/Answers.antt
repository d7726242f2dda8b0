use Rattle.std.proofs.Common.{rules, ◌≡◌, List, ℕ, sym, ap, ◌∙◌, drop, arith}
use Rattle.std.proofs.lemmas.List.{drop_all}
use Rattle.gl_rulelang.specs.Tree.{call_of, args_view, row, Arguments}
use Rattle.gl_rulelang.specs.declared.rule.Call.{the_lemmas}
use Rattle.gl_rulelang.proofs.Alike.{both_end, calls_same}
use Rattle.gl_rulelang.proofs.same.+same.Goals as goal

pub same_call-returns-then-same : goal.same_call-returns-then-same
same_call-returns-then-same t c =
    let one : row (args_view c.deref.result.now) ≡ (call_of c.args.one.now).1 = search (rules, the_lemmas) in
    let other : row (args_view c.deref-then-same.result.now) ≡ (call_of c.args.other.now).1 = search (rules, the_lemmas) in
    let names : (call_of c.args.one.now).0 ≡ (call_of c.args.other.now).0 = search (rules, the_lemmas) in
    calls_same (call_of c.args.one.now) (call_of c.args.other.now) c.same_arguments.result names
    (λ h. sym one ∙ c.same_arguments.ensures.0 h ∙ other) (λ e. c.same_arguments.ensures.1 (one ∙ e ∙ sym other))

pub same_arguments-returns : goal.same_arguments-returns
same_arguments-returns t c =
    both_end (drop c.loop-name.name-index c.args.one.now) c.loop-name.left.now (row (args_view c.args.one.now)) (row (args_view c.args.other.now)) c.is_empty.result
    (drop_all c.loop-name.name-index c.args.one.now (omega arith)) c.is_empty.ensures c.loop-name.invariant.0 c.loop-name.invariant.1
