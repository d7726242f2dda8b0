-- The words of one key: what one of them has, and what a change to one of them leaves.
use Rattle.std.proofs.Common.{◌≡◌, ℕ, zero, suc, ◌+◌, ◌<◌, ◌≤◌, Bool, true, false, cond, ◌&&◌, List, [], ◌∷◌, ◌++◌, length, map, ◌==◌, get_or, set, position, nat_lt, Option, Some, None, bytes_eq, not, refl, sym, ap, ◌∙◌, subst, arith}
use Rattle.std.specs.Char.{to_ascii_lowercase}
use Rattle.std.specs.List.{list_all, position_or_len}
use Rattle.std.proofs.lemmas.Bool.{and_parts, and_from, both_ways, false_from_ne_true, not-true}
use Rattle.std.proofs.lemmas.Bool.Decides.{nat_tests}
use Rattle.std.proofs.lemmas.List.Quantifiers.{position-Some}
use Rattle.std.proofs.lemmas.List.Sums.{prefix_len_passes}
use Rattle.std.proofs.lemmas.Slice.Eq.{bytes_eq-Decides}
use Rattle.gl_words.specs.declared.word.Word.{Word}
use Rattle.gl_words.specs.Inside.{is_same, positions_of}

pub same_bytes : (a b : List ℕ) → bytes_eq a b ≡ true → a ≡ b
same_bytes a b h = (bytes_eq-Decides a b).0 h

pub tests_same : (a b : List ℕ) → a ≡ b → bytes_eq a b ≡ true
tests_same a b h = (bytes_eq-Decides a b).1 h

pub same_both : (f t g s : List ℕ) → is_same f t g s ≡ true → (f ≡ g) × (t ≡ s)
same_both f t g s h =
    let parts = and_parts (bytes_eq f g) (bytes_eq s t) h in
    (same_bytes f g parts.0, sym (same_bytes s t parts.1))

pub both_same : (f t g s : List ℕ) → f ≡ g → t ≡ s → is_same f t g s ≡ true
both_same f t g s e i = and_from (bytes_eq f g) (bytes_eq s t) (tests_same f g e) (tests_same s t (sym i))

abbrev pub lower : List ℕ → List ℕ
lower token = map to_ascii_lowercase token

-- a word is this token in this field
abbrev pub is_named : List ℕ → List ℕ → Word → Bool
is_named f t word = is_same word.field word.token f t

-- the first of the words that is it stands at this place
pub record IsFirst (f t : List ℕ) (ws : List Word) (i : ℕ) (d : Word) : Type 0 where
  pub within : i < length ws
  pub here : is_named f t (get_or ws i d) ≡ true
  pub before : (k : ℕ) → k < i → is_named f t (get_or ws k d) ≡ false

abbrev pub AreOthers : List ℕ → List ℕ → List Word → Type 0
AreOthers f t ws = (k : ℕ) (d : Word) → k < length ws → is_named f t (get_or ws k d) ≡ false

pub first_from : (f t : List ℕ) (ws : List Word) (i : ℕ) (d : Word) → position (is_named f t) ws ≡ Some i → IsFirst f t ws i d
first_from f t ws i d e =
    let at = position-Some (is_named f t) ws i d e in
    record { within = at.0; here = at.1; before = at.2 }

pub others_from : (f t : List ℕ) (ws : List Word) → position (is_named f t) ws ≡ None → AreOthers f t ws
others_from f t ws e = λ k d lt. not-true (is_named f t (get_or ws k d)) (prefix_len_passes (λ (w : Word). not (is_named f t w)) ws k d (omega (arith, past (position_or_len (is_named f t) ws) (length ws) e, lt)))
  where
    past : (a b : ℕ) → cond (nat_lt a b) (Some a) None ≡ None → b ≤ a
    past a b h = over (nat_lt a b) refl h
      where
        far : nat_lt a b ≡ false → b ≤ a
        far h = grind (arith, nat_tests)

        over : (x : Bool) → nat_lt a b ≡ x → cond x (Some a) None ≡ None → b ≤ a
        over true is h = cc h
        over false is h = far is

first_tail : (f t : List ℕ) (w : Word) (ws : List Word) (i : ℕ) (d : Word) → IsFirst f t (w ∷ ws) (suc i) d → IsFirst f t ws i d
first_tail f t w ws i d h = record { within = omega (arith, h.within); here = h.here; before = λ k lt. h.before (suc k) (omega (arith, lt)) }

-- ---- what is found
pub found_at : (f t : List ℕ) (ws : List Word) (i : ℕ) (d : Word) → IsFirst f t ws i d → positions_of f t ws ≡ (get_or ws i d).positions
found_at f t [] i d h = absurd (omega (arith, h.within))
found_at f t (w ∷ ws) zero d h = pick (is_named f t w) h.here
  where
    pick : (b : Bool) → b ≡ true → cond b w.positions (positions_of f t ws) ≡ w.positions
    pick true e = refl
    pick false e = cc e
found_at f t (w ∷ ws) (suc i) d h = pick (is_named f t w) (h.before zero (omega arith)) (found_at f t ws i d (first_tail f t w ws i d h))
  where
    pick : (b : Bool) → b ≡ false → positions_of f t ws ≡ (get_or ws i d).positions → cond b w.positions (positions_of f t ws) ≡ (get_or ws i d).positions
    pick true e rest = cc e
    pick false e rest = rest

pub found_none : (f t : List ℕ) (ws : List Word) → AreOthers f t ws → positions_of f t ws ≡ []
found_none f t [] h = refl
found_none f t (w ∷ ws) h = pick (is_named f t w) (h zero w (omega arith)) (found_none f t ws (λ k d lt. h (suc k) d (omega (arith, lt))))
  where
    pick : (b : Bool) → b ≡ false → positions_of f t ws ≡ [] → cond b w.positions (positions_of f t ws) ≡ []
    pick true e rest = cc e
    pick false e rest = rest

-- ---- what a change leaves
module _ (f t : List ℕ) (change : List ℕ → List ℕ) where
  -- the positions of a word, changed where it is this one
  abbrev pub changed : List ℕ → List ℕ → List ℕ → List ℕ
  changed g s ps = cond (is_same f t g s) (change ps) ps

  same_here : (w : Word) → is_named f t w ≡ true → (g s : List ℕ) → is_same w.field w.token g s ≡ is_same f t g s
  same_here w named g s =
      let both = same_both w.field w.token f t named in
      ap (λ (x : List ℕ). is_same x w.token g s) both.0 ∙ ap (λ (x : List ℕ). is_same f x g s) both.1

  other_here : (w : Word) → is_named f t w ≡ false → (g s : List ℕ) → is_same w.field w.token g s ≡ true → is_same f t g s ≡ false
  other_here w named g s is = false_from_ne_true (is_same f t g s) (λ h.
      let here = same_both f t g s h in
      let there = same_both w.field w.token g s is in
      both_ways (is_named f t w) named (both_same w.field w.token f t (there.0 ∙ sym here.0) (there.1 ∙ sym here.1)))

  head_case : (x y : Bool) (a rest : List ℕ) → x ≡ y → cond x (change a) rest ≡ cond y (change (cond x a rest)) (cond x a rest)
  head_case true true a rest e = refl
  head_case true false a rest e = cc e
  head_case false true a rest e = cc e
  head_case false false a rest e = refl

  tail_case : (x y : Bool) (a rest after : List ℕ) → (x ≡ true → y ≡ false) → after ≡ cond y (change rest) rest → cond x a after ≡ cond y (change (cond x a rest)) (cond x a rest)
  tail_case true true a rest after apart e = cc (apart refl)
  tail_case true false a rest after apart e = refl
  tail_case false y a rest after apart e = e

  set_first : (ws : List Word) (i : ℕ) (d new : Word) → IsFirst f t ws i d → new.field ≡ (get_or ws i d).field → new.token ≡ (get_or ws i d).token → new.positions ≡ change (get_or ws i d).positions
      → (g s : List ℕ) → positions_of g s (set ws i new) ≡ changed g s (positions_of g s ws)
  set_first [] i d new h ef et ep g s = absurd (omega (arith, h.within))
  set_first (w ∷ ws) zero d new h ef et ep g s =
      ap (λ (x : List ℕ). cond (is_same x new.token g s) new.positions (positions_of g s ws)) ef
      ∙ ap (λ (x : List ℕ). cond (is_same w.field x g s) new.positions (positions_of g s ws)) et
      ∙ ap (λ (x : List ℕ). cond (is_same w.field w.token g s) x (positions_of g s ws)) ep
      ∙ head_case (is_same w.field w.token g s) (is_same f t g s) w.positions (positions_of g s ws) (same_here w h.here g s)
  set_first (w ∷ ws) (suc i) d new h ef et ep g s =
      tail_case (is_same w.field w.token g s) (is_same f t g s) w.positions (positions_of g s ws) (positions_of g s (set ws i new))
      (other_here w (h.before zero (omega arith)) g s)
      (set_first ws i d new (first_tail f t w ws i d h) ef et ep g s)

  pub set_changes : (ws : List Word) (i : ℕ) (d new : Word) → position (is_named f t) ws ≡ Some i → new.field ≡ (get_or ws i d).field → new.token ≡ (get_or ws i d).token → new.positions ≡ change (get_or ws i d).positions
      → (g s : List ℕ) → positions_of g s (set ws i new) ≡ changed g s (positions_of g s ws)
  set_changes ws i d new at = set_first ws i d new (first_from f t ws i d at)

  push_others : (ws : List Word) (new : Word) → AreOthers f t ws → new.field ≡ f → new.token ≡ t → new.positions ≡ change []
      → (g s : List ℕ) → positions_of g s (ws ++ new ∷ []) ≡ changed g s (positions_of g s ws)
  push_others [] new h ef et ep g s =
      ap (λ (x : List ℕ). cond (is_same x new.token g s) new.positions []) ef
      ∙ ap (λ (x : List ℕ). cond (is_same f x g s) new.positions []) et
      ∙ ap (λ (x : List ℕ). cond (is_same f t g s) x []) ep
  push_others (w ∷ ws) new h ef et ep g s =
      tail_case (is_same w.field w.token g s) (is_same f t g s) w.positions (positions_of g s ws) (positions_of g s (ws ++ new ∷ []))
      (other_here w (h zero w (omega arith)) g s)
      (push_others ws new (λ k d lt. h (suc k) d (omega (arith, lt))) ef et ep g s)

  pub push_changes : (ws : List Word) (new : Word) → position (is_named f t) ws ≡ None → new ≡ record { field = f; token = t; positions = change [] }
      → (g s : List ℕ) → positions_of g s (ws ++ new ∷ []) ≡ changed g s (positions_of g s ws)
  push_changes ws new at e = push_others ws new (others_from f t ws at) (ap (λ (w : Word). w.field) e) (ap (λ (w : Word). w.token) e) (ap (λ (w : Word). w.positions) e)

  none_others : (ws : List Word) → AreOthers f t ws → change [] ≡ [] → (g s : List ℕ) → positions_of g s ws ≡ changed g s (positions_of g s ws)
  none_others [] h e g s = sym (pick (is_same f t g s))
    where
      pick : (b : Bool) → cond b (change []) [] ≡ []
      pick true = e
      pick false = refl
  none_others (w ∷ ws) h e g s =
      tail_case (is_same w.field w.token g s) (is_same f t g s) w.positions (positions_of g s ws) (positions_of g s ws)
      (other_here w (h zero w (omega arith)) g s)
      (none_others ws (λ k d lt. h (suc k) d (omega (arith, lt))) e g s)

  pub none_changes : (ws : List Word) → position (is_named f t) ws ≡ None → change [] ≡ [] → (g s : List ℕ) → positions_of g s ws ≡ changed g s (positions_of g s ws)
  none_changes ws at = none_others ws (others_from f t ws at)

-- words that have no positions
pub none_left : (ws : List Word) → list_all (λ (w : Word). length w.positions == 0) ws ≡ true → (g s : List ℕ) → positions_of g s ws ≡ []
none_left [] h g s = refl
none_left (w ∷ ws) h g s =
    let parts = and_parts (length w.positions == 0) (list_all (λ (w : Word). length w.positions == 0) ws) h in
    pick (is_same w.field w.token g s) (empty w.positions parts.0) (none_left ws parts.1 g s)
  where
    empty : (ps : List ℕ) → (length ps == 0) ≡ true → ps ≡ []
    empty [] h = refl
    empty (p ∷ ps) h = absurd (apart (length ps) h)
      where
        apart : (n : ℕ) → (suc n == 0) ≡ true → ⊥
        apart n h = grind (arith, nat_tests)

    pick : (b : Bool) → w.positions ≡ [] → positions_of g s ws ≡ [] → cond b w.positions (positions_of g s ws) ≡ []
    pick true here rest = here
    pick false here rest = rest
