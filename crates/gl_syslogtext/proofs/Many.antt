-- What stands one behind the other, as a loop reads it.
use Rattle.std.proofs.Common.{◌≡◌, ℕ, zero, suc, ◌-◌, ◌<◌, ◌≤◌, ◌==◌, true, false, List, [], ◌∷◌, ◌++◌, length, get_or, refl, sym, ap, ◌∙◌, arith}
use Rattle.std.specs.Prelude.{Option, Some, None}
use Rattle.gl_syslogtext.specs.declared.unread.Unread.{Unread}
use Rattle.gl_syslogtext.specs.declared.unread.Unread.TheVariants as unread
use Rattle.gl_syslogtext.specs.Sections.{Stops}
use Rattle.gl_syslogtext.specs.Data.{many_at, param_at, params_at, element_at, elements_at}

-- what was read, and what is left, give what all gives
pub record Turns {X : Type 0} (sign : ℕ) (one : List ℕ → Option (X × List ℕ)) (text : List ℕ) (xs : List X) (rest : List ℕ) : Type 0 where
  pub turns : ℕ
  pub enough : length rest ≤ turns
  pub so_far : many_at sign one turns xs rest ≡ many_at sign one (length text) [] text

module _ {X : Type 0} (sign : ℕ) (one : List ℕ → Option (X × List ℕ)) where
  pub starts : (text : List ℕ) → Turns sign one text [] text
  starts text = record { turns = length text; enough = omega arith; so_far = refl }

  pub one_more : (n : ℕ) (xs : List X) (rest : List ℕ) (x : X) (after : List ℕ) → (get_or rest 0 0 == sign) ≡ true → one rest ≡ Some (x, after)
      → many_at sign one (suc n) xs rest ≡ many_at sign one n (xs ++ x ∷ []) after
  unfolding many_at
  one_more n xs rest x after test h = rw (test, h) refl

  pub none_more : (n : ℕ) (xs : List X) (rest : List ℕ) → (get_or rest 0 0 == sign) ≡ true → one rest ≡ None → many_at sign one (suc n) xs rest ≡ None
  unfolding many_at
  none_more n xs rest test h = rw (test, h) refl

  pub goes_on : (text : List ℕ) (xs : List X) (rest : List ℕ) (x : X) (after : List ℕ) → Turns sign one text xs rest → get_or rest 0 0 ≡ sign → one rest ≡ Some (x, after)
      → length after < length rest → Turns sign one text (xs ++ x ∷ []) after
  goes_on text xs rest x after t is h less =
      let k : t.turns ≡ suc (t.turns - 1) = omega (arith, t.enough, less) in
      let test : (get_or rest 0 0 == sign) ≡ true = grind arith in
      let step : many_at sign one t.turns xs rest ≡ many_at sign one (t.turns - 1) (xs ++ x ∷ []) after = ap (λ (n : ℕ). many_at sign one n xs rest) k ∙ one_more (t.turns - 1) xs rest x after test h in
      record { turns = t.turns - 1; enough = omega (arith, t.enough, less); so_far = sym step ∙ t.so_far }

  pub stops : (stop : Unread) (text : List ℕ) (xs : List X) (rest : List ℕ) → Turns sign one text xs rest → get_or rest 0 0 ≡ sign → 0 < length rest → Stops stop (one rest)
      → Stops stop (many_at sign one (length text) [] text)
  stops unread.OutOfMemory text xs rest t is some h = tt
  stops unread.Other text xs rest t is some h =
      let k : t.turns ≡ suc (t.turns - 1) = omega (arith, t.enough, some) in
      let test : (get_or rest 0 0 == sign) ≡ true = grind arith in
      let step : many_at sign one t.turns xs rest ≡ None = ap (λ (n : ℕ). many_at sign one n xs rest) k ∙ none_more (t.turns - 1) xs rest test h in
      sym t.so_far ∙ step

  pub last : (n : ℕ) (xs : List X) (rest : List ℕ) → (get_or rest 0 0 == sign) ≡ false → many_at sign one n xs rest ≡ Some (xs, rest)
  unfolding many_at
  last zero xs rest h = refl
  last (suc n) xs rest h = rw h refl

  pub is_done : (text : List ℕ) (xs : List X) (rest : List ℕ) → Turns sign one text xs rest → (get_or rest 0 0 ≡ sign → ⊥) → many_at sign one (length text) [] text ≡ Some (xs, rest)
  is_done text xs rest t other =
      let test : (get_or rest 0 0 == sign) ≡ false = grind arith in
      sym t.so_far ∙ last t.turns xs rest test

pub params_are : (text : List ℕ) → params_at text ≡ many_at 32 param_at (length text) [] text
unfolding params_at
params_are text = refl

pub elements_are : (text : List ℕ) → elements_at text ≡ many_at 91 element_at (length text) [] text
unfolding elements_at
elements_are text = refl
