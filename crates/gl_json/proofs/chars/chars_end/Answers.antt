use Rattle.std.proofs.Common.{◌<◌, ℕ, List, length, sym, subst, arith}
use Rattle.std.proofs.lemmas.Result.{err_from_is_err_and}
use Rattle.gl_json.proofs.CharRead.{Goes, goes_starts, goes_past, past_shorter, end_quote, end_none, end_stop, end_goes}
use Rattle.gl_json.proofs.chars.chars_end.Goals as goal

pub returns-then-byte-eq34 : goal.returns-then-byte-eq34
returns-then-byte-eq34 c = end_quote c.args.bytes.now c.loop-rest.rest.now c.loop-rest.invariant (omega arith) (grind arith)

pub returns-in_err-behind : goal.returns-in_err-behind
returns-in_err-behind c =
    let p = err_from_is_err_and c.from_residual.result c.from_residual.ensures.1 in
    rw (p.1, p.2) (end_stop c.args.bytes.now c.loop-rest.rest.now c.in_err-behind.field-0.0 c.loop-rest.invariant (omega arith) (grind arith) c.in_err-behind.ensures)

pub loop-rest-init : goal.loop-rest-init
loop-rest-init c = subst (Goes c.args.bytes.now) (sym c.past_plain-rest.ensures) (goes_past c.args.bytes.now c.args.bytes.now (goes_starts c.args.bytes.now))

pub loop-rest-smaller : goal.loop-rest-smaller
loop-rest-smaller c =
    subst (λ (l : List ℕ). length l < length c.loop-rest.rest.now) (sym c.past_plain-rest-in-len1-up.ensures)
    (past_shorter c.loop-rest.rest.now (c.in_ok-behind.field-0-0, c.in_ok-behind.behind.now) c.in_ok-behind.ensures)

pub loop-rest-preserved : goal.loop-rest-preserved
loop-rest-preserved c =
    subst (Goes c.args.bytes.now) (sym c.past_plain-rest-in-len1-up.ensures)
    (goes_past c.args.bytes.now c.in_ok-behind.behind.now
    (end_goes c.args.bytes.now c.loop-rest.rest.now (c.in_ok-behind.field-0-0, c.in_ok-behind.behind.now) c.loop-rest.invariant (omega arith) (grind arith) c.in_ok-behind.ensures))

pub returns : goal.returns
returns c = end_none c.args.bytes.now c.loop-rest.rest.now c.loop-rest.invariant (omega arith)
