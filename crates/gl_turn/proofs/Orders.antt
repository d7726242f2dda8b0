-- What was seen, in order.
use Rattle.std.proofs.Common.{◌≡◌, ℕ, ◌+◌, ◌≤◌, min, List, [], ◌∷◌, ◌++◌, length, Bool, true, false, cond, leb, refl, sym, ap, ◌∙◌, inl, inr, ⊎_elim, le_refl, arith, length-append, append_assoc, append-nil}
use Rattle.std.proofs.lemmas.Bool.{leb-true, leb-false}
use Rattle.gl_turn.specs.declared.seen.Seen.{Seen}
use Rattle.gl_turn.specs.Order.{IsBefore, IsLonger}
use Rattle.gl_turn.specs.Rule.{InOrder}
use Rattle.gl_turn.specs.Steps.{later, weight}

pub before_refl : (s : Seen) → IsBefore s s
before_refl s = record { base = refl; journal = ([], sym (append-nil s.journal)); commits = le_refl s.commits; chunks = le_refl s.chunks; tries = le_refl s.tries; faults = le_refl s.faults; refused = λ _ _. refl; stop = inr refl }

pub before_trans : (s t u : Seen) → IsBefore s t → IsBefore t u → IsBefore s u
before_trans s t u p q = let pc = p.commits in let qc = q.commits in let pk = p.chunks in let qk = q.chunks in let pt = p.tries in let qt = q.tries in let pf = p.faults in let qf = q.faults in record {
  base = p.base ∙ q.base;
  journal = (p.journal.0 ++ q.journal.0, q.journal.1 ∙ ap (λ (l : List (List ℕ)). l ++ q.journal.0) p.journal.1 ∙ append_assoc s.journal p.journal.0 q.journal.0);
  commits = omega arith;
  chunks = omega arith;
  tries = omega arith;
  faults = omega arith;
  refused = λ same small. p.refused (omega (arith, same)) (omega (arith, small)) ∙ q.refused (omega (arith, same)) small;
  stop = ⊎_elim (λ (a : s.stop ≡ 0). inl a) (λ (a : s.stop ≡ t.stop). ⊎_elim (λ (b : t.stop ≡ 0). inl (a ∙ b)) (λ (b : t.stop ≡ u.stop). inr (a ∙ b)) q.stop) p.stop;
}

pub in_order_back : (s t : Seen) → InOrder s t → InOrder t s
in_order_back s t o = ⊎_elim (λ (p : IsBefore s t). inr p) (λ (p : IsBefore t s). inl p) o

empty_rest : (xs : List (List ℕ)) → length xs ≡ 0 → xs ≡ []
empty_rest [] e = refl
empty_rest (x ∷ xs) e = absurd (omega arith)

pub before_length : (s t : Seen) (p : IsBefore s t) → length t.journal ≡ length s.journal + length p.journal.0
before_length s t p = ap length p.journal.1 ∙ length-append s.journal p.journal.0

stop_le : (s t : Seen) → IsBefore s t → min s.stop 1 ≤ min t.stop 1
stop_le s t p = ⊎_elim (λ (a : s.stop ≡ 0). omega (arith, a)) (λ (a : s.stop ≡ t.stop). omega (arith, a)) p.stop

weight_le : (s t : Seen) → IsBefore s t → weight s ≤ weight t
weight_le s t p = omega (arith, before_length s t p, p.commits, p.chunks, p.tries, p.faults, stop_le s t p)

-- one that comes before another, and is no lighter, also comes after it
level : (s t : Seen) → IsBefore t s → weight s ≤ weight t → IsBefore s t
level s t p le =
    let n = before_length t s p in let c = p.commits in let k = p.chunks in let r = p.tries in let f = p.faults in let z = stop_le t s p in
    let none : p.journal.0 ≡ [] = empty_rest p.journal.0 (omega arith) in record {
      base = sym p.base;
      journal = ([], sym (p.journal.1 ∙ ap (λ (l : List (List ℕ)). t.journal ++ l) none ∙ append-nil t.journal) ∙ sym (append-nil s.journal));
      commits = omega arith;
      chunks = omega arith;
      tries = omega arith;
      faults = omega arith;
      refused = λ same small. sym (p.refused (sym same) (omega (arith, same, small)));
      stop = ⊎_elim (λ (a : t.stop ≡ 0). inl (omega (arith, a))) (λ (a : t.stop ≡ s.stop). inr (sym a)) p.stop;
    }

later_by : (s t : Seen) → InOrder s t → (b : Bool) → leb (weight s) (weight t) ≡ b → IsLonger s t (cond b t s)
later_by s t o true e = record { one = inr refl; first = ⊎_elim (λ (p : IsBefore s t). p) (λ (p : IsBefore t s). level s t p (leb-true (weight s) (weight t) e)) o; second = before_refl t }
later_by s t o false e =
    let less = leb-false (weight s) (weight t) e in
    record { one = inl refl; first = before_refl s; second = ⊎_elim (λ (p : IsBefore s t). absurd (omega (arith, weight_le s t p, less))) (λ (p : IsBefore t s). p) o }

-- the later of two in order is the longer of them
pub later_of : (s t : Seen) → InOrder s t → IsLonger s t (later s t)
later_of s t o = later_by s t o (leb (weight s) (weight t)) refl

pub before_longer : (s t : Seen) → IsBefore s t → length s.journal ≤ length t.journal
before_longer s t p = omega (arith, before_length s t p)
