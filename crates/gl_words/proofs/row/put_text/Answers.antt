use Rattle.std.proofs.Common.{refl}
use Rattle.gl_words.specs.Inside.{is_same, kept_in}
use Rattle.gl_words.specs.Positions.{with_position}
use Rattle.gl_words.specs.Texts.{text_has}
use Rattle.gl_words.proofs.Finding.{lower}
use Rattle.gl_words.proofs.Walking.{at_err, leads_on, no_change, spares_on, stays_same, text_more, text_over, with_twice}
use Rattle.gl_words.proofs.row.put_text.Goals as goal

pub loop-token-init : goal.loop-token-init
loop-token-init c = (λ end k. k, λ end k. k)

pub returns-in_err-put_token-clause-err : goal.returns-in_err-put_token-clause-err
returns-in_err-put_token-clause-err c =
    at_err c.from_residual.result
    (c.loop-token.invariant.1 (kept_in c.put_token.new.words)
    (stays_same c.args.position (text_has c.args.name.now c.loop-token.text.now) (kept_in c.loop-token.words) (kept_in c.put_token.new.words) c.in_err-put_token.ensures.err))

pub loop-token-preserved : goal.loop-token-preserved
loop-token-preserved c =
    let alike = text_more c.args.name.now c.loop-token.text.now c.in-Some.token.now c.in-Some.rest.now c.in-Some.ensures in (
      leads_on (with_position c.args.position) (with_twice c.args.position) (is_same c.args.name.now (lower c.in-Some.token.now)) (text_has c.args.name.now c.in-Some.rest.now) (text_has c.args.name.now c.loop-token.text.now) (text_has c.args.name.now c.args.text.now)
          (kept_in c.args.words.now) (kept_in c.loop-token.words) (kept_in c.put_token.new.words) alike c.in_ok-put_token.ensures.ok c.loop-token.invariant.0,
      spares_on c.args.position (is_same c.args.name.now (lower c.in-Some.token.now)) (text_has c.args.name.now c.in-Some.rest.now) (text_has c.args.name.now c.loop-token.text.now) (text_has c.args.name.now c.args.text.now)
          (kept_in c.args.words.now) (kept_in c.loop-token.words) (kept_in c.put_token.new.words) alike c.in_ok-put_token.ensures.ok c.loop-token.invariant.1,
    )

pub returns-clause-ok : goal.returns-clause-ok
returns-clause-ok c =
    c.loop-token.invariant.0 (kept_in c.loop-token.words)
    (no_change (with_position c.args.position) (text_has c.args.name.now c.loop-token.text.now) (kept_in c.loop-token.words) (kept_in c.loop-token.words) (text_over c.args.name.now c.loop-token.text.now c.in_default.ensures) (λ g s. refl))
