-- One token of an expression.
use Rattle.std.proofs.Common.{◌≡◌, ℕ, ◌<◌, List, Some, None, Err, refl, sym, ap, ◌∙◌, arith}
use Rattle.gl_rulelang.specs.declared.refusal.TextRefusal.{TextRefusal}
use Rattle.gl_rulelang.specs.declared.refusal.TextRefusal.TheVariants as refusals
use Rattle.gl_rulelang.specs.Tree.{Tree}
use Rattle.gl_rulelang.specs.Tokens.{Lexeme, Tokens, end, token, first, rest, place}
use Rattle.gl_rulelang.specs.Faults.{unexpected, Reads, Fails}
use Rattle.gl_rulelang.specs.Nesting.{Open}
use Rattle.gl_rulelang.specs.Expressions.{Place, Move, move, moved, run}
use Rattle.gl_rulelang.specs.Places.{Moves}
use Rattle.gl_rulelang.specs.Rules.{count}

pub turned : (ts : Tokens) (l : Lexeme) (stack : List Open) (p : Place) → Some l ≡ first ts → run ts stack p ≡ moved (move stack p l) (run (rest ts)) l (place ts) (rest ts)
unfolding run
turned (end at) l stack p e = absurd cc
turned (token m at ts) l stack p e = let same : m ≡ l = cc in ap (λ (x : Lexeme). moved (move stack p x) (run ts) x at ts) same

pub begins_so : (ts : Tokens) (l : Lexeme) → Some l ≡ first ts → token l (place ts) (rest ts) ≡ ts
begins_so (end at) l e = absurd cc
begins_so (token m at ts) l e = let same : l ≡ m = cc in ap (λ (x : Lexeme). token x at ts) same

pub fewer : (ts : Tokens) (l : Lexeme) → Some l ≡ first ts → count (rest ts) < count ts
fewer (end at) l e = absurd cc
fewer (token m at ts) l e = omega arith

pub run-end : (ts : Tokens) (stack : List Open) (p : Place) → None ≡ first ts → run ts stack p ≡ Err (unexpected (place ts))
unfolding run
run-end (end at) stack p e = refl
run-end (token l at ts) stack p e = absurd cc

pub failed : (e : TextRefusal) (at : ℕ) (stack : List Open) (m : Move) (next : List Open → Place → Reads Tree) (l : Lexeme) (ts : Tokens) → Moves at (Err e) stack m → Fails e (moved m next l at ts)
failed refusals.OutOfMemory at stack m next l ts h = tt
failed (refusals.BadToken here) at stack m next l ts h = absurd h
failed (refusals.Unexpected here) at stack m next l ts h = ap (λ (x : Move). moved x next l at ts) h.0 ∙ ap (λ (n : ℕ). Err (unexpected n)) (sym h.1)
failed refusals.TooDeep at stack m next l ts h = ap (λ (x : Move). moved x next l at ts) h
