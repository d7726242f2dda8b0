-- By what is read of the parameters.
use Rattle.std.proofs.Common.{List, ◌∙◌, ap, sym, subst}
use Rattle.std.specs.Prelude.{Result, IfOk}
use Rattle.gl_sight.specs.Sight.{Seen}
use Rattle.gl_bodies.specs.Replies.{bad_parameter_reply}
use Rattle.gl_api.specs.declared.parameters.Parameter.{Parameter}
use Rattle.gl_api.specs.declared.parameters.Request.{Request}
use Rattle.gl_api.specs.Parameters.{request_of}
use Rattle.gl_api.specs.Search.{Answers, by_request}
use Rattle.gl_api.proofs.Asking.{bad_parameter}
use Rattle.gl_api.proofs.searching.request_of.Goals as goal

pub returns-in-Ok : goal.returns-in-Ok
returns-in-Ok c =
    subst (λ (read : Result Request Parameter). IfOk c.asked_of.result (λ searching. Answers c.args.permitted.now searching (λ (messages : List Seen). by_request c.args.permitted.now messages read)))
    (sym c.in-Ok.ensures) c.asked_of.ensures

pub returns-in_ok-bad_parameter_reply-in-Err-Bad : goal.returns-in_ok-bad_parameter_reply-in-Err-Bad
returns-in_ok-bad_parameter_reply-in-Err-Bad c =
    bad_parameter c.args.permitted.now (request_of c.args.text.now) c.in-Err-Bad.parameter c.in_ok-bad_parameter_reply-in-Err-Bad.field-0 (rw c.in-Err-Bad.field-0-is at c.in-Err-Bad.ensures)
    (c.in_ok-bad_parameter_reply-in-Err-Bad.ensures ∙ ap bad_parameter_reply c.name.ensures)
