use Rattle.std.proofs.Common.{◌≡◌, ◌<◌, length, get_or, sym, ap, ◌∙◌, rules, arith}
use Rattle.std.proofs.lemmas.Result.{err_from_is_err_and}
use Rattle.gl_syslogtext.specs.Data.{element_at}
use Rattle.gl_syslogtext.proofs.Many.{starts, goes_on, stops, is_done, elements_are}
use Rattle.gl_syslogtext.proofs.data.elements_at.Goals as goal

pub elements-init : goal.elements-init
elements-init c = record {
  turns = rw c.new-elements.ensures.items (starts 91 element_at c.args.text.now);
  shorter = omega arith;
  utf8 = c.utf8.text;
}

pub returns-in_err-element : goal.returns-in_err-element
returns-in_err-element c =
    let l = c.elements in
    let p = err_from_is_err_and c.from_residual.result c.from_residual.ensures.1 in
    let is : get_or l.rest.now 0 0 ≡ 91 = ap (λ bs. get_or bs 0 0) (sym c.as_bytes.ensures.value) ∙ sym c.byte_at.ensures.byte ∙ c.elements-test.true in
    let some : 0 < length l.rest.now = grind arith in
    rw (p.1, p.2, elements_are c.args.text.now) (stops 91 element_at c.in_err-element.field-0.0 c.args.text.now l.elements.items l.rest.now l.invariant.turns is some c.in_err-element.ensures.element)

pub elements-preserved : goal.elements-preserved
elements-preserved c =
    let l = c.elements in
    let is : get_or l.rest.now 0 0 ≡ 91 = ap (λ bs. get_or bs 0 0) (sym c.as_bytes.ensures.value) ∙ sym c.byte_at.ensures.byte ∙ c.elements-test.true in
    let shorter : length c.in_ok-element.after.now < length l.rest.now = c.in_ok-element.ensures.shorter in
    record {
      turns = rw c.in_ok-push.ensures.items (goes_on 91 element_at c.args.text.now l.elements.items l.rest.now c.in_ok-element.element c.in_ok-element.after.now l.invariant.turns is c.in_ok-element.ensures.element shorter);
      shorter = omega (arith, l.invariant.shorter, shorter);
      utf8 = search rules;
    }

pub returns : goal.returns
returns c =
    let l = c.elements in
    let e : c.byte_at.result ≡ get_or l.rest.now 0 0 = c.byte_at.ensures.byte ∙ ap (λ bs. get_or bs 0 0) c.as_bytes.ensures.value in
    rw c.from_vec.ensures (elements_are c.args.text.now ∙ is_done 91 element_at c.args.text.now l.elements.items l.rest.now l.invariant.turns (λ is. c.elements-test.false (e ∙ is)))
