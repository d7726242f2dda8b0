-- The value of a body that reads, and of one that doesn't.
use Rattle.std.proofs.Common.{◌≡◌, ap, sym, subst}
use Rattle.std.specs.Prelude.{Option, option_and_then, IfOk}
use Rattle.serde_json.specs.Data.{Data}
use Rattle.serde_json.specs.View.{view}
use Rattle.gl_api.specs.Commands.{wanted_in, wanted_of}
use Rattle.gl_api.proofs.Asking.{no_value, value_is}
use Rattle.gl_api.proofs.commands.wanted_in.Goals as goal

pub returns-in-Ok : goal.returns-in-Ok
unfolding wanted_in
returns-in-Ok c =
    subst (λ (o : Option Data). IfOk c.wanted_of.result (λ wanted. wanted ≡ option_and_then wanted_of o))
    (sym (value_is c.args.body.now (view c.in-Ok.value) c.in-Ok.ensures.ok.0 c.in-Ok.ensures.ok.1)) c.wanted_of.ensures

pub returns-else-is_memory : goal.returns-else-is_memory
unfolding wanted_in
returns-else-is_memory c =
    let told = c.if-is_memory.ensures in
    sym (ap (option_and_then wanted_of) (no_value c.args.body.now (c.in-Err.ensures.err (λ memory. let is = told.1 memory in cc))))
