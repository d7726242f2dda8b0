use Rattle.std.proofs.Common.{◌≡◌, ◌+◌, ◌<◌, ◌++◌, ◌∷◌, [], List, length, sym, subst, arith}
use Rattle.gl_rulelang.specs.declared.token.Placed.{Placed}
use Rattle.gl_rulelang.specs.Tokens.{token_view}
use Rattle.gl_rulelang.specs.Fronts.{front_of, blank, lexeme, bad}
use Rattle.gl_rulelang.proofs.Cuts.{Stands, stands_blank, stands_token, stands_bad, stands_end}
use Rattle.gl_rulelang.proofs.cut.cut.Goals as goal

pub loop-rest-preserved-in-Blank : goal.loop-rest-preserved-in-Blank
loop-rest-preserved-in-Blank c =
    let l = c.loop-rest in
    let some : 0 < length l.rest.now = grind arith in
    let f : front_of l.rest.now ≡ blank c.in-Blank.len = sym c.in-Blank.ensures.front in
    subst (Stands c.args.text.now l.tokens.items (l.at + c.in-Blank.len)) (sym c.split_at.ensures.back)
    (stands_blank c.args.text.now l.tokens.items l.at l.rest.now c.in-Blank.len l.invariant some f c.in-Blank.ensures.ends)

pub loop-rest-preserved : goal.loop-rest-preserved
loop-rest-preserved c =
    let l = c.loop-rest in
    let some : 0 < length l.rest.now = grind arith in
    let p : Placed = record { token = c.in-Token.token; at = l.at } in
    let f : front_of l.rest.now ≡ lexeme (token_view c.in-Token.token) c.in-Token.len = sym c.in-Token.ensures.front in
    let pushed : c.push.new.self.items ≡ l.tokens.items ++ p ∷ [] = grind arith in
    let turned = stands_token c.args.text.now l.tokens.items p l.rest.now c.in-Token.len l.invariant some f c.in-Token.ensures.ends in
    subst (λ (ps : List Placed). Stands c.args.text.now ps (l.at + c.in-Token.len) c.split_at-in-Token.result.1.now) (sym pushed)
    (subst (Stands c.args.text.now (l.tokens.items ++ p ∷ []) (l.at + c.in-Token.len)) (sym c.split_at-in-Token.ensures.back) turned)

pub returns-in-Bad : goal.returns-in-Bad
returns-in-Bad c =
    let l = c.loop-rest in
    let some : 0 < length l.rest.now = grind arith in
    let f : front_of l.rest.now ≡ bad = sym c.in-Bad.ensures.front in
    stands_bad c.args.text.now l.tokens.items l.at l.rest.now l.invariant some f

pub returns : goal.returns
returns c =
    let l = c.loop-rest in
    let none : length l.rest.now ≡ 0 = grind arith in
    stands_end c.args.text.now l.tokens.items l.at l.rest.now l.invariant none
