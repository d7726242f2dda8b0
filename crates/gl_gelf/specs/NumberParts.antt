-- The parts of a number, between private functions alone.
use Rattle.std.specs.Prelude.{◌≡◌, true, List, ℕ}
use Rattle.std.specs.List.{list_all}
use Rattle.gl_base.specs.Bytes.{is_digit}
use Rattle.gl_json.specs.Numbers.{is_exp}
use Rattle.gl_gelf.specs.declared.number.Number.{Number}
use Rattle.gl_gelf.specs.Decimals.{is_negative, int_of, frac_digits as digits_behind, exp_of, is_number}

-- the parts of a number, as the code holds them
pub record IsNumberIn (n : Number) (text : List ℕ) : Type 0 where
  pub is : is_number text ≡ true
  pub negative : n.negative ≡ is_negative text
  pub int : n.int.now ≡ int_of text
  pub frac : n.frac.now ≡ digits_behind text
  pub exp : n.exp.now ≡ exp_of text
  pub int_digits : list_all is_digit n.int.now ≡ true
  pub frac_digits : list_all is_digit n.frac.now ≡ true
  pub is_exp : is_exp n.exp.now ≡ true
