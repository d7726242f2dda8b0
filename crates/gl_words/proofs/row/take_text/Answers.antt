use Rattle.std.proofs.Common.{refl}
use Rattle.gl_words.specs.Inside.{is_same, kept_in}
use Rattle.gl_words.specs.Positions.{without_position}
use Rattle.gl_words.specs.Texts.{text_has}
use Rattle.gl_words.proofs.Finding.{lower}
use Rattle.gl_words.proofs.Walking.{leads_on, no_change, text_more, text_over, without_twice}
use Rattle.gl_words.proofs.row.take_text.Goals as goal

pub loop-token-init : goal.loop-token-init
loop-token-init c = λ end k. k

pub loop-token-preserved : goal.loop-token-preserved
loop-token-preserved c =
    let alike = text_more c.args.name.now c.loop-token.text.now c.in-Some.token.now c.in-Some.rest.now c.in-Some.ensures in
    leads_on (without_position c.args.position) (without_twice c.args.position) (is_same c.args.name.now (lower c.in-Some.token.now)) (text_has c.args.name.now c.in-Some.rest.now) (text_has c.args.name.now c.loop-token.text.now) (text_has c.args.name.now c.args.text.now)
    (kept_in c.args.words.now) (kept_in c.loop-token.words) (kept_in c.take_token.new.words) alike c.take_token.ensures c.loop-token.invariant

pub returns : goal.returns
returns c =
    c.loop-token.invariant (kept_in c.loop-token.words)
    (no_change (without_position c.args.position) (text_has c.args.name.now c.loop-token.text.now) (kept_in c.loop-token.words) (kept_in c.loop-token.words) (text_over c.args.name.now c.loop-token.text.now c.in_default.ensures) (λ g s. refl))
