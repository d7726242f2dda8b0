use Rattle.std.proofs.Common.{Ok}
use Rattle.std.specs.List.{fold, flat_map}
use Rattle.std.proofs.lemmas.Result.{err_from_is_err_and}
use Rattle.gl_fields.specs.Putting.{then_put, Fails}
use Rattle.gl_syslog.specs.Decoding.{element_fields}
use Rattle.gl_syslog.proofs.Puts.{element_fails}
use Rattle.gl_syslog.proofs.fields.put_elements.Goals as goal

pub returns-in_err-put_parameters : goal.returns-in_err-put_parameters
returns-in_err-put_parameters c =
    let p = err_from_is_err_and c.from_residual.result c.from_residual.ensures.1 in
    let e = c.in_err-put_parameters.field-0.0 in
    let x = c.element-item.result in
    let one : Fails (fold then_put (Ok c.loop-element.fields) (element_fields x)) e = rw (c.as_str.ensures, c.as_slice.ensures) at c.in_err-put_parameters.ensures in
    rw (p.1, p.2) (element_fails e (fold then_put (Ok c.args.fields.now) (flat_map element_fields c.args.elements.now)) c.loop-element.fields c.args.elements.now c.loop-element.element-index x c.loop-element.invariant c.loop-element-test.true c.element-item.is one)
