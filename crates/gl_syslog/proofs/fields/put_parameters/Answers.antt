use Rattle.std.proofs.Common.{◌≡◌, ap, ap₂, subst, ◌∙◌, Ok, map}
use Rattle.std.specs.List.{fold}
use Rattle.std.proofs.lemmas.Result.{err_from_is_err_and}
use Rattle.gl_fields.specs.Putting.{text_field, then_put, Fails}
use Rattle.gl_syslog.specs.Decoding.{parameter_name, parameter_field}
use Rattle.gl_syslog.specs.Putting.{put_in}
use Rattle.gl_syslog.proofs.Puts.{parameter_fails}
use Rattle.gl_syslog.proofs.fields.put_parameters.Goals as goal

pub returns-in_err-put_text : goal.returns-in_err-put_text
unfolding put_in
returns-in_err-put_text c =
    let p = err_from_is_err_and c.from_residual-in_err-put_text.result c.from_residual-in_err-put_text.ensures.1 in
    let e = c.in_err-put_text.field-0.0 in
    let x = c.loop-name-item.result in
    let named : c.as_str-in-loop-name.result.now ≡ parameter_name c.args.id.now x.0 = c.as_str-in-loop-name.ensures.value ∙ c.in_ok-field.ensures ∙ ap (parameter_name c.args.id.now) c.as_str.ensures in
    let put : Fails (then_put (Ok c.loop-name.fields) (text_field c.as_str-in-loop-name.result.now c.in_ok-copy.field-0)) e = c.in_err-put_text.ensures in
    let one : Fails (then_put (Ok c.loop-name.fields) (parameter_field c.args.id.now x)) e = subst (λ f. Fails (then_put (Ok c.loop-name.fields) f) e) (ap₂ text_field named c.in_ok-copy.ensures) put in
    rw (p.1, p.2) (parameter_fails e (fold then_put (Ok c.args.fields.now) (map (parameter_field c.args.id.now) c.args.params.now)) c.loop-name.fields c.args.id.now c.args.params.now c.loop-name.name-index x c.loop-name.invariant c.loop-name-test.true c.loop-name-item.is one)
