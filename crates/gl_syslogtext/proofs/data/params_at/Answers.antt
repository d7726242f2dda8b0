use Rattle.std.proofs.Common.{◌≡◌, ◌<◌, length, get_or, sym, ap, ◌∙◌, rules, arith}
use Rattle.std.proofs.lemmas.Result.{err_from_is_err_and}
use Rattle.gl_syslogtext.specs.Data.{param_at}
use Rattle.gl_syslogtext.proofs.Many.{starts, goes_on, stops, is_done, params_are}
use Rattle.gl_syslogtext.proofs.data.params_at.Goals as goal

pub params-init : goal.params-init
params-init c = record {
  turns = rw c.new-params.ensures.items (starts 32 param_at c.args.text.now);
  shorter = omega arith;
  utf8 = c.utf8.text;
}

pub returns-in_err-param-clause-params : goal.returns-in_err-param-clause-params
returns-in_err-param-clause-params c =
    let l = c.params in
    let p = err_from_is_err_and c.from_residual.result c.from_residual.ensures.1 in
    let is : get_or l.rest.now 0 0 ≡ 32 = ap (λ bs. get_or bs 0 0) (sym c.as_bytes.ensures.value) ∙ sym c.byte_at.ensures.byte ∙ c.params-test.true in
    let some : 0 < length l.rest.now = grind arith in
    rw (p.1, p.2, params_are c.args.text.now) (stops 32 param_at c.in_err-param.field-0.0 c.args.text.now l.params.items l.rest.now l.invariant.turns is some c.in_err-param.ensures.param)

pub params-preserved : goal.params-preserved
params-preserved c =
    let l = c.params in
    let is : get_or l.rest.now 0 0 ≡ 32 = ap (λ bs. get_or bs 0 0) (sym c.as_bytes.ensures.value) ∙ sym c.byte_at.ensures.byte ∙ c.params-test.true in
    let shorter : length c.in_ok-param.after.now < length l.rest.now = c.in_ok-param.ensures.shorter in
    record {
      turns = rw c.in_ok-push.ensures.items (goes_on 32 param_at c.args.text.now l.params.items l.rest.now c.in_ok-param.param c.in_ok-param.after.now l.invariant.turns is c.in_ok-param.ensures.param shorter);
      shorter = omega (arith, l.invariant.shorter, shorter);
      utf8 = search rules;
    }

pub returns-clause-params : goal.returns-clause-params
returns-clause-params c =
    let l = c.params in
    let e : c.byte_at.result ≡ get_or l.rest.now 0 0 = c.byte_at.ensures.byte ∙ ap (λ bs. get_or bs 0 0) c.as_bytes.ensures.value in
    rw c.from_vec.ensures (params_are c.args.text.now ∙ is_done 32 param_at c.args.text.now l.params.items l.rest.now l.invariant.turns (λ is. c.params-test.false (e ∙ is)))
