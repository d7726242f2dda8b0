-- Numbers in a row, from one on.
use Rattle.std.proofs.Common.{◌≡◌, ◌⊎◌, ⊎_elim, ℕ, zero, suc, ◌+◌, ◌<◌, ◌≤◌, Bool, true, false, ◌&&◌, cond, find, Option, Some, None, refl, ◌∙◌, ap, arith}
use Rattle.std.specs.List.{list_all, range_with_len, prefix_len}

lt_or_same : (x y : ℕ) → x ≤ y → (x ≡ y) ⊎ (x < y)
lt_or_same x y h = grind arith

find_next : (b : Bool) (a : ℕ) (rest r : Option ℕ) → b ≡ false → rest ≡ r → cond b (Some a) rest ≡ r
find_next true a rest r h so_far = cc h
find_next false a rest r h so_far = so_far

find_here : (b : Bool) (a : ℕ) (rest : Option ℕ) → b ≡ true → cond b (Some a) rest ≡ Some a
find_here true a rest h = refl
find_here false a rest h = cc h

prefix_cons : (b : Bool) (m n : ℕ) → b ≡ true → m ≡ n → cond b (1 + m) 0 ≡ suc n
prefix_cons true m n h so_far = omega arith
prefix_cons false m n h so_far = cc h

and_true : (b c : Bool) → b ≡ true → c ≡ true → (b && c) ≡ true
and_true true c h so_far = so_far
and_true false c h so_far = cc h

and_later : (b c : Bool) → c ≡ false → (b && c) ≡ false
and_later true c h = h
and_later false c h = refl

and_here : (b c : Bool) → b ≡ false → (b && c) ≡ false
and_here true c h = cc h
and_here false c h = refl

module _ (p : ℕ → Bool) where
  -- the first that passes
  pub find_in_range : (a n k : ℕ) → ((j : ℕ) → a ≤ j → j < k → p j ≡ false) → a ≤ k → k < a + n → p k ≡ true → find p (range_with_len a n) ≡ Some k
  find_in_range a zero k before le lt passes = absurd (omega arith)
  find_in_range a (suc n) k before le lt passes = ⊎_elim
      (λ same. find_here (p a) a (find p (range_with_len (a + 1) n)) (ap p same ∙ passes) ∙ ap (λ x. Some x) same)
      (λ less. find_next (p a) a (find p (range_with_len (a + 1) n)) (Some k) (before a (omega arith) less)
      (find_in_range (a + 1) n k (λ j from to. before j (omega arith) to) (omega arith) (omega arith) passes))
      (lt_or_same a k le)

  pub find_none_in_range : (a n : ℕ) → ((j : ℕ) → a ≤ j → j < a + n → p j ≡ false) → find p (range_with_len a n) ≡ None
  find_none_in_range a zero fails = refl
  find_none_in_range a (suc n) fails =
      find_next (p a) a (find p (range_with_len (a + 1) n)) None (fails a (omega arith) (omega arith)) (find_none_in_range (a + 1) n (λ j from to. fails j (omega arith) (omega arith)))

  -- where each passes, the prefix that passes is the whole
  pub prefix_of_range : (a n : ℕ) → ((j : ℕ) → a ≤ j → j < a + n → p j ≡ true) → prefix_len p (range_with_len a n) ≡ n
  prefix_of_range a zero all = refl
  prefix_of_range a (suc n) all =
      prefix_cons (p a) (prefix_len p (range_with_len (a + 1) n)) n (all a (omega arith) (omega arith)) (prefix_of_range (a + 1) n (λ j from to. all j (omega arith) (omega arith)))

  pub all_in_range : (a n : ℕ) → ((j : ℕ) → a ≤ j → j < a + n → p j ≡ true) → list_all p (range_with_len a n) ≡ true
  all_in_range a zero all = refl
  all_in_range a (suc n) all =
      and_true (p a) (list_all p (range_with_len (a + 1) n)) (all a (omega arith) (omega arith)) (all_in_range (a + 1) n (λ j from to. all j (omega arith) (omega arith)))

  pub not_all_in_range : (a n k : ℕ) → a ≤ k → k < a + n → p k ≡ false → list_all p (range_with_len a n) ≡ false
  not_all_in_range a zero k from to fails = absurd (omega arith)
  not_all_in_range a (suc n) k from to fails = ⊎_elim
      (λ same. and_here (p a) (list_all p (range_with_len (a + 1) n)) (ap p same ∙ fails))
      (λ less. and_later (p a) (list_all p (range_with_len (a + 1) n)) (not_all_in_range (a + 1) n k (omega arith) (omega arith) fails))
      (lt_or_same a k from)
