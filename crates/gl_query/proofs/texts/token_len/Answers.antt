use Rattle.std.proofs.Common.{◌≡◌, ◌<◌, length, take, sym, ◌∙◌, subst, arith}
use Rattle.std.proofs.lemmas.List.{take_all}
use Rattle.std.proofs.Common.{ap}
use Rattle.gl_query.proofs.Texting.{Runs, runs_none, runs_more, token_stops, token_over, some_len}
use Rattle.gl_query.proofs.texts.token_len.Goals as goal

pub loop-n-init : goal.loop-n-init
loop-n-init c = runs_none c.args.text.now

pub returns-then-not-is_token_byte-clause-token : goal.returns-then-not-is_token_byte-clause-token
returns-then-not-is_token_byte-clause-token c =
    let no = sym c.is_token_byte.ensures ∙ c.if-not-is_token_byte.true in
    token_stops c.args.text.now c.loop-n.n c.loop-n-test.true no c.loop-n.invariant (some_len c.args.text.now c.loop-n.n c.loop-n-test.true no c.requires.token)

pub loop-n-preserved : goal.loop-n-preserved
loop-n-preserved c = runs_more c.args.text.now c.loop-n.n c.loop-n-test.true (sym c.is_token_byte.ensures ∙ c.if-not-is_token_byte.false) c.loop-n.invariant

pub returns-clause-token : goal.returns-clause-token
returns-clause-token c =
    let e : c.loop-n.n ≡ length c.args.text.now = omega arith in
    let some : 0 < length (take (length c.args.text.now) c.args.text.now) = omega (arith, ap length (take_all (length c.args.text.now) c.args.text.now (omega arith)), c.requires.some) in
    token_over c.args.text.now (length c.args.text.now) (omega arith) (subst (Runs c.args.text.now) e c.loop-n.invariant) some
