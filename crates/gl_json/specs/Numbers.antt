-- Numbers (RFC 8259, section 6): [ minus ] int [ frac ] [ exp ].
use Rattle.std.specs.Prelude.{◌≡◌, ℕ, Bool, true, false, ◌&&◌, List, [], ◌∷◌, ◌++◌, ◌==◌, if◌then◌else◌}
use Rattle.std.specs.List.{list_all}
use Rattle.std.specs.Int.{is_in_range}
use Rattle.gl_base.specs.Bytes.{is_digit, is_sign, is_e}

-- one digit or more
abbrev pub are_digits : List ℕ → Bool
are_digits [] = false
are_digits (d ∷ ds) = is_digit d && list_all is_digit ds

abbrev pub is_minus : List ℕ → Bool
is_minus [] = true
is_minus (b ∷ []) = b == 45
is_minus (b ∷ c ∷ bs) = false

-- no zero stands before another digit
abbrev pub is_int : List ℕ → Bool
is_int [] = false
is_int (d ∷ []) = is_digit d
is_int (d ∷ e ∷ ds) = is_in_range 49 57 d && are_digits (e ∷ ds)

abbrev pub is_frac : List ℕ → Bool
is_frac [] = true
is_frac (b ∷ ds) = (b == 46) && are_digits ds

abbrev pub are_signed_digits : List ℕ → Bool
are_signed_digits [] = false
are_signed_digits (b ∷ ds) = if is_sign b then are_digits ds else are_digits (b ∷ ds)

abbrev pub is_exp : List ℕ → Bool
is_exp [] = true
is_exp (b ∷ ds) = is_e b && are_signed_digits ds

pub record IsNumber (text : List ℕ) : Type 0 where
  pub minus : List ℕ
  pub int : List ℕ
  pub frac : List ℕ
  pub exp : List ℕ
  pub parts : text ≡ minus ++ (int ++ (frac ++ exp))
  pub minus_is : is_minus minus ≡ true
  pub int_is : is_int int ≡ true
  pub frac_is : is_frac frac ≡ true
  pub exp_is : is_exp exp ≡ true
