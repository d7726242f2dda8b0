-- One occurrence after the other is replaced.
use Rattle.std.proofs.Common.{◌≡◌, ℕ, zero, suc, ◌+◌, ◌-◌, ◌<◌, ◌≤◌, Bool, true, false, cond, List, [], ◌∷◌, ◌++◌, length, take, drop, Option, Some, None, option_map, nat_le, refl, sym, ap, ◌∙◌, arith, append_assoc, length-append, leb-true, ◌==◌}
use Rattle.gl_text.specs.Texts.{begins_with, first_at}
use Rattle.gl_text.specs.Changing.{replaced_behind, replaced}

-- what a first occurrence behind so many bytes says of the front
record Behind (part : List ℕ) (b : ℕ) (text : List ℕ) (k : ℕ) : Type 0 where
  test : begins_with part (b ∷ text) ≡ false
  later : first_at part text ≡ Some k

past : (part : List ℕ) (b : ℕ) (text : List ℕ) (t : Bool) → begins_with part (b ∷ text) ≡ t → first_at part (b ∷ text) ≡ cond t (Some 0) (option_map suc (first_at part text))
unfolding first_at
past part b text t e = ap (λ v. cond v (Some 0) (option_map suc (first_at part text))) e

at_front : (part : List ℕ) (b : ℕ) (text : List ℕ) → first_at part (b ∷ text) ≡ Some 0 → begins_with part (b ∷ text) ≡ true
at_front part b text e = pick (begins_with part (b ∷ text)) refl
  where
    none_at : (o : Option ℕ) → option_map suc o ≡ Some 0 → ⊥
    none_at None h = cc h
    none_at (Some k) h = (let more : suc k ≡ 0 = cc in omega arith)

    pick : (t : Bool) → begins_with part (b ∷ text) ≡ t → begins_with part (b ∷ text) ≡ true
    pick true h = h
    pick false h = absurd (none_at (first_at part text) (sym (past part b text false h) ∙ e))

not_yet : (part : List ℕ) (b : ℕ) (text : List ℕ) (k : ℕ) → first_at part (b ∷ text) ≡ Some (suc k) → Behind part b text k
not_yet part b text k e = pick (begins_with part (b ∷ text)) refl
  where
    less : (o : Option ℕ) → option_map suc o ≡ Some (suc k) → o ≡ Some k
    less None h = cc h
    less (Some j) h = cc h

    pick : (t : Bool) → begins_with part (b ∷ text) ≡ t → Behind part b text k
    pick true h = (let none : Some 0 ≡ Some (suc k) = sym (past part b text true h) ∙ e in absurd (let zero_is : 0 ≡ suc k = cc in omega arith))
    pick false h = record { test = h; later = less (first_at part text) (sym (past part b text false h) ∙ e) }

nowhere : (part : List ℕ) (b : ℕ) (text : List ℕ) → first_at part (b ∷ text) ≡ None → (begins_with part (b ∷ text) ≡ false) × (first_at part text ≡ None)
nowhere part b text e = pick (begins_with part (b ∷ text)) refl
  where
    none : (o : Option ℕ) → option_map suc o ≡ None → o ≡ None
    none None h = refl
    none (Some j) h = cc h

    pick : (t : Bool) → begins_with part (b ∷ text) ≡ t → (begins_with part (b ∷ text) ≡ false) × (first_at part text ≡ None)
    pick true h = absurd (let some : Some 0 ≡ None = sym (past part b text true h) ∙ e in cc)
    pick false h = (h, none (first_at part text) (sym (past part b text false h) ∙ e))

behind_all : (n : ℕ) (part new text : List ℕ) → replaced_behind n part new text ≡ replaced_behind 0 part new (drop n text)
unfolding replaced_behind
behind_all zero part new text = refl
behind_all (suc n) part new [] = refl
behind_all (suc n) part new (b ∷ text) = behind_all n part new text

at_test : (part new : List ℕ) (b : ℕ) (text : List ℕ) (t : Bool) → begins_with part (b ∷ text) ≡ t
    → replaced_behind 0 part new (b ∷ text) ≡ cond t (new ++ replaced_behind (length part - 1) part new text) (b ∷ replaced_behind 0 part new text)
unfolding replaced_behind
at_test part new b text t e = ap (λ v. cond v (new ++ replaced_behind (length part - 1) part new text) (b ∷ replaced_behind 0 part new text)) e

drop_more : (n : ℕ) (b : ℕ) (text : List ℕ) → 0 < n → drop (n - 1) text ≡ drop n (b ∷ text)
drop_more zero b text some = absurd (omega arith)
drop_more (suc n) b text some = ap (λ m. drop m text) (let e : suc n - 1 ≡ n = omega arith in e)

-- a text up to its first occurrence, then the new part, and then what is made of what stands behind
pub one : (part new text : List ℕ) (k : ℕ) → 0 < length part → first_at part text ≡ Some k
    → replaced_behind 0 part new text ≡ take k text ++ (new ++ replaced_behind 0 part new (drop (k + length part) text))
unfolding first_at begins_with
one part new [] k some e = absurd (empty part some k e)
  where
    empty : (part : List ℕ) → 0 < length part → (k : ℕ) → first_at part [] ≡ Some k → ⊥
    empty [] some k e = omega arith
    empty (b ∷ part) some k e = cc e
one part new (b ∷ text) zero some e =
    at_test part new b text true (at_front part b text e)
    ∙ ap (λ t. new ++ t) (behind_all (length part - 1) part new text ∙ ap (replaced_behind 0 part new) (drop_more (length part) b text some ∙ ap (λ n. drop n (b ∷ text)) (let plus : length part ≡ 0 + length part = omega arith in plus)))
one part new (b ∷ text) (suc k) some e =
    let r = not_yet part b text k e in
    at_test part new b text false r.test
    ∙ ap (λ t. b ∷ t) (one part new text k some r.later)
    ∙ ap (λ n. b ∷ (take k text ++ (new ++ replaced_behind 0 part new (drop n (b ∷ text))))) (let plus : suc (k + length part) ≡ suc k + length part = omega arith in plus)

pub none : (part new text : List ℕ) → first_at part text ≡ None → replaced_behind 0 part new text ≡ text
unfolding replaced_behind
none part new [] e = refl
none part new (b ∷ text) e =
    let r = nowhere part b text e in
    at_test part new b text false r.0 ∙ ap (λ t. b ∷ t) (none part new text r.1)

pub of_some : (part new text : List ℕ) → (length part == 0) ≡ false → replaced part new text ≡ replaced_behind 0 part new text
of_some part new text some = ap (λ t. cond t text (replaced_behind 0 part new text)) some

-- one turn of the loop

module _ (part new rest out front whole : List ℕ) (k : ℕ) (some : (length part == 0) ≡ false) (here : first_at part rest ≡ Some k) (cut : front ≡ take (k - 0) rest) (before : out ++ replaced_behind 0 part new rest ≡ whole) where
  split : out ++ (front ++ (new ++ replaced_behind 0 part new (drop (k + length part) rest))) ≡ whole
  split =
      ap (λ t. out ++ (t ++ (new ++ replaced_behind 0 part new (drop (k + length part) rest)))) (cut ∙ ap (λ n. take n rest) (let same : k - 0 ≡ k = omega arith in same))
      ∙ ap (λ t. out ++ t) (sym (one part new rest k (more_than_none (length part) some) here))
      ∙ before
    where
      more_than_none : (n : ℕ) → (n == 0) ≡ false → 0 < n
      more_than_none zero e = cc e
      more_than_none (suc n) e = omega arith

  pub turned : (first second behind : List ℕ) → first ≡ out ++ front → second ≡ first ++ new → behind ≡ drop (k + length part) rest → second ++ replaced_behind 0 part new behind ≡ whole
  turned first second behind e f g =
      ap (λ t. t ++ replaced_behind 0 part new behind) (f ∙ ap (λ t. t ++ new) e)
      ∙ ap (λ t. ((out ++ front) ++ new) ++ replaced_behind 0 part new t) g
      ∙ append_assoc (out ++ front) new (replaced_behind 0 part new (drop (k + length part) rest))
      ∙ append_assoc out front (new ++ replaced_behind 0 part new (drop (k + length part) rest))
      ∙ split

  pub front_len : length out + length front ≤ length whole
  front_len = omega (arith, ap length split, length-append out (front ++ (new ++ replaced_behind 0 part new (drop (k + length part) rest))), length-append front (new ++ replaced_behind 0 part new (drop (k + length part) rest)))

  pub new_len : (first : List ℕ) → first ≡ out ++ front → length first + length new ≤ length whole
  new_len first e =
      omega (arith, ap length split, ap length e, length-append out front, length-append out (front ++ (new ++ replaced_behind 0 part new (drop (k + length part) rest))), length-append front (new ++ replaced_behind 0 part new (drop (k + length part) rest)), length-append new (replaced_behind 0 part new (drop (k + length part) rest)))

pub too_long : (part new text whole : List ℕ) (most : ℕ) → (length part == 0) ≡ false → replaced_behind 0 part new text ≡ whole → most < length whole
    → None ≡ cond (nat_le (length (replaced part new text)) most) (Some (replaced part new text)) None
too_long part new text whole most some e long =
    ap (λ b. cond b (Some (replaced part new text)) None)
    (sym (not_at_most (nat_le (length (replaced part new text)) most) (λ h.
    let le : length (replaced part new text) ≤ most = leb-true (length (replaced part new text)) most h in
    omega (arith, ap length (of_some part new text some ∙ e)))))
  where
    not_at_most : (b : Bool) → (b ≡ true → ⊥) → b ≡ false
    not_at_most true h = absurd (h refl)
    not_at_most false h = refl

-- what is left behind the last occurrence
pub ended : (part new text rest out : List ℕ) → (length part == 0) ≡ false → first_at part rest ≡ None → out ++ replaced_behind 0 part new rest ≡ replaced_behind 0 part new text
    → out ++ rest ≡ replaced part new text
ended part new text rest out some nowhere_more before =
    ap (λ t. out ++ t) (sym (none part new rest nowhere_more)) ∙ before ∙ sym (of_some part new text some)
