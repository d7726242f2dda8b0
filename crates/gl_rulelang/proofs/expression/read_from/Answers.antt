use Rattle.std.proofs.Common.{◌≡◌, ◌<◌, map, ℕ, Some, None, Ok, Err, ap, sym, subst, ◌∙◌, arith}
use Rattle.std.proofs.lemmas.Result.{err_from_is_err_and}
use Rattle.gl_rulelang.specs.declared.place.Move.{Move as CodeMove}
use Rattle.gl_rulelang.specs.Tree.{tree_of}
use Rattle.gl_rulelang.specs.Tokens.{Tokens, token_view, left, first, rest, place}
use Rattle.gl_rulelang.specs.Faults.{unexpected, Fails}
use Rattle.gl_rulelang.specs.Nesting.{open_view}
use Rattle.gl_rulelang.specs.Expressions.{Move, goes, ends, move, moved, run}
use Rattle.gl_rulelang.specs.Places.{place_view, Moves}
use Rattle.gl_rulelang.specs.Rules.{count}
use Rattle.gl_rulelang.proofs.Turns.{turned, fewer, begins_so, failed, run-end}
use Rattle.gl_rulelang.proofs.expression.read_from.Goals as goal

pub returns-in_err-next : goal.returns-in_err-next
returns-in_err-next c =
    let ts = left c.loop-token.cursor in
    let l = token_view c.in-Some.token in
    let stack = map open_view c.loop-token.nest.stack in
    let p = place_view c.loop-token.place in
    let head : Some l ≡ first ts = grind arith in
    let e = c.in_err-next.field-0.0 in
    let m : Moves c.place.result (Err e) (map open_view c.step.new.nest.stack) (move stack p l) = c.in_err-next.ensures in
    let f : Fails e (moved (move stack p l) (run (rest ts)) l (place ts) (rest ts)) =
    subst (λ (n : ℕ). Fails e (moved (move stack p l) (run (rest ts)) l n (rest ts))) c.place.ensures (failed e c.place.result (map open_view c.step.new.nest.stack) (move stack p l) (run (rest ts)) l (rest ts) m) in
    let g : Fails e (run (left c.loop-token.cursor) stack p) = subst (Fails e) (sym (turned ts l stack p head)) f in
    let q = err_from_is_err_and c.from_residual.result c.from_residual.ensures.1 in
    rw (q.1, q.2) (subst (Fails e) c.loop-token.invariant g)

pub loop-token-preserved : goal.loop-token-preserved
loop-token-preserved c =
    let ts = left c.loop-token.cursor in
    let l = token_view c.in-Some.token in
    let stack = map open_view c.loop-token.nest.stack in
    let p = place_view c.loop-token.place in
    let behind = map open_view c.step.new.nest.stack in
    let next = place_view c.in-Goes.next in
    let head : Some l ≡ first ts = grind arith in
    let m : move stack p l ≡ goes behind next = subst (λ (x : CodeMove). Moves c.place.result (Ok x) behind (move stack p l)) c.in-Goes.is (c.in_ok-next.ensures) in
    ap (λ (x : Tokens). run x behind next) c.advance.ensures
    ∙ sym (ap (λ (x : Move). moved x (run (rest ts)) l (place ts) (rest ts)) m)
    ∙ sym (turned ts l stack p head) ∙ c.loop-token.invariant

pub loop-token-smaller : goal.loop-token-smaller
loop-token-smaller c =
    let ts = left c.loop-token.cursor in
    let l = token_view c.in-Some.token in
    let head : Some l ≡ first ts = grind arith in
    subst (λ (x : Tokens). count x < count ts) (sym c.advance.ensures) (fewer ts l head)

pub returns-in-Ends : goal.returns-in-Ends
returns-in-Ends c =
    let ts = left c.loop-token.cursor in
    let l = token_view c.in-Some.token in
    let stack = map open_view c.loop-token.nest.stack in
    let p = place_view c.loop-token.place in
    let behind = map open_view c.step.new.nest.stack in
    let head : Some l ≡ first ts = grind arith in
    let m : move stack p l ≡ ends (tree_of c.in-Ends.e) = subst (λ (x : CodeMove). Moves c.place.result (Ok x) behind (move stack p l)) c.in-Ends.is (c.in_ok-next.ensures) in
    sym c.loop-token.invariant ∙ turned ts l stack p head ∙ ap (λ (x : Move). moved x (run (rest ts)) l (place ts) (rest ts)) m
    ∙ ap (λ (x : Tokens). Ok (tree_of c.in-Ends.e, x)) (begins_so ts l head)

pub returns : goal.returns
returns c =
    let ts = left c.loop-token.cursor in
    let none : None ≡ first ts = grind arith in
    sym c.loop-token.invariant ∙ run-end ts (map open_view c.loop-token.nest.stack) (place_view c.loop-token.place) none
    ∙ ap (λ (n : ℕ). Err (unexpected n)) (sym c.place-2.ensures)
