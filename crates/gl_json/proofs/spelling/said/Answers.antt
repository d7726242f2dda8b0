use Rattle.std.proofs.Common.{◌≡◌, ◌<◌, ◌++◌, ℕ, List, length, Result, Ok, sym, ap, ◌∙◌, arith}
use Rattle.std.proofs.lemmas.Result.{err_from_is_err_and}
use Rattle.std.specs.declared.vec.Vec.{Vec}
use Rattle.std.specs.declared.alloc.Global.{Global}
use Rattle.gl_json.specs.declared.bytes.Stop.{Stop}
use Rattle.gl_json.specs.Escapes.{lone, char_text}
use Rattle.gl_json.proofs.CharRead.{char_shorter}
use Rattle.gl_json.proofs.SaidRead.{spell_stop, spell_goes, spell_past, spell_ends, spell_utf8}
use Rattle.gl_json.proofs.spelling.said.Goals as goal

pub returns-in_err-char : goal.returns-in_err-char
returns-in_err-char c =
    let p = err_from_is_err_and c.from_residual-in_err-char.result c.from_residual-in_err-char.ensures.1 in
    let some : 0 < length c.loop-rest.rest.now = grind arith in
    rw (p.1, p.2) (spell_stop c.args.raw.now c.loop-rest.text.items c.loop-rest.waiting c.loop-rest.rest.now c.in_err-char.field-0.0 c.loop-rest.invariant some c.in_err-char.ensures)

pub loop-rest-smaller : goal.loop-rest-smaller
loop-rest-smaller c = char_shorter c.loop-rest.rest.now (c.in_ok-char.char, c.in_ok-char.behind.now) c.in_ok-char.ensures

pub loop-rest-preserved : goal.loop-rest-preserved
loop-rest-preserved c =
    let some : 0 < length c.loop-rest.rest.now = grind arith in
    let grown : c.push_char.new.text.items ≡ c.loop-rest.text.items ++ char_text c.loop-rest.waiting c.in_ok-char.char = c.in_ok-push_char.ensures in
    rw c.waits-waiting.ensures.waits
    (spell_goes c.args.raw.now c.loop-rest.text.items c.push_char.new.text.items c.loop-rest.waiting c.loop-rest.rest.now (c.in_ok-char.char, c.in_ok-char.behind.now) c.loop-rest.invariant some c.in_ok-char.ensures grown)

pub loop-rest-preserved-then-behind-rest : goal.loop-rest-preserved-then-behind-rest
loop-rest-preserved-then-behind-rest c =
    let fewer : length c.past_plain-behind.result.now < length c.loop-rest.rest.now = grind arith in
    let grown : c.push_plain.new.text.items ≡ (c.loop-rest.text.items ++ lone c.loop-rest.waiting) ++ c.before-then-behind-rest.result.now = c.in_ok-push_plain.ensures in
    spell_past c.args.raw.now c.loop-rest.text.items c.push_plain.new.text.items c.loop-rest.waiting c.loop-rest.rest.now c.past_plain-behind.result.now c.before-then-behind-rest.result.now
    c.loop-rest.invariant c.past_plain-behind.ensures fewer c.before-then-behind-rest.ensures grown

pub unreachable-requires : goal.unreachable-requires
unreachable-requires c =
    let grown : c.push_lone.new.text.items ≡ c.loop-rest.text.items ++ lone c.loop-rest.waiting = c.in_ok-push_lone.ensures in
    let failed = c.in-Err.ensures.succeeds (spell_utf8 c.args.raw.now c.loop-rest.text.items c.push_lone.new.text.items c.loop-rest.waiting c.loop-rest.rest.now c.loop-rest.invariant grown) in
    cc

pub returns : goal.returns
returns c =
    let none : length c.loop-rest.rest.now ≡ 0 = grind arith in
    let grown : c.push_lone.new.text.items ≡ c.loop-rest.text.items ++ lone c.loop-rest.waiting = c.in_ok-push_lone.ensures in
    spell_ends c.args.raw.now c.loop-rest.text.items c.push_lone.new.text.items c.loop-rest.waiting c.loop-rest.rest.now c.loop-rest.invariant none grown
    ∙ ap (λ (v : Vec ℕ Global). (let r : Result (List ℕ) Stop = Ok v.items in r)) (sym c.in-Ok.ensures.ok)
