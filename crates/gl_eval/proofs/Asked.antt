-- What an action does, of the values of its arguments.
use Rattle.std.proofs.Common.{◌≡◌, ℕ, List, sym, ap, ◌∙◌}
use Rattle.std.specs.Prelude.{Option, Some}
use Rattle.gl_rulelang.specs.Tree.{Arguments}
use Rattle.gl_check.specs.declared.function.Function.{Function}
use Rattle.gl_check.specs.Values.{Value}
use Rattle.gl_check.specs.Functions.{function_named}
use Rattle.gl_check.specs.Arguments.{names_in}
use Rattle.gl_functions.specs.Worlds.{Known}
use Rattle.gl_eval.specs.declared.staged.Staged.{Staged}
use Rattle.gl_eval.specs.Meaning.{Scope, meanings}
use Rattle.gl_eval.specs.Actions.{done, done_with}
use Rattle.gl_eval.proofs.Called.{AreFor}

pub asked_does : (s : Scope) (world : Known) (call : List ℕ × Arguments) (f : Function) (values : List Value) (m n : Staged) → function_named call.0 ≡ Some f → AreFor s call.1 f values
    → n ≡ done_with world f values m → n ≡ done world (function_named call.0) (names_in call.1) (meanings s call.1) m
asked_does s world call f values m n named are is =
    is ∙ ap (λ (vs : List Value). done_with world f vs m) are ∙ sym (ap (λ (o : Option Function). done world o (names_in call.1) (meanings s call.1) m) named)
