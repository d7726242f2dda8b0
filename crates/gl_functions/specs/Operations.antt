-- What the signs of expressions make of values (this project). What comes out of bounds is missing: `bounded` says so.
use Rattle.std.specs.Prelude.{ℤ, pos, negsuc, ◌+ℤ◌, ◌-ℤ◌, ◌*ℤ◌, neg_ℤ, int_lt, int_le, int_div, int_rem, Bool, false, not, ◌&&◌, ◌||◌, ◌==◌, Option, Some, None, if◌then◌else◌}
use Rattle.gl_rulelang.specs.declared.rule.Unary.{Unary}
use Rattle.gl_rulelang.specs.declared.rule.Unary.TheVariants as prefixes
use Rattle.gl_rulelang.specs.declared.rule.Binary.{Binary}
use Rattle.gl_rulelang.specs.declared.rule.Binary.TheVariants as infixes
use Rattle.gl_check.specs.Values.{Value, whole, truth, missing, is_true, is_equal}
use Rattle.gl_functions.specs.Contents.{whole_in}

-- both whole numbers, where both are some
abbrev pub pair_of : Option ℤ → Option ℤ → Option (ℤ × ℤ)
pair_of None b = None
pair_of (Some a) None = None
pair_of (Some a) (Some b) = Some (a, b)

abbrev pub both : Value → Value → Option (ℤ × ℤ)
both a b = pair_of (whole_in a) (whole_in b)

abbrev pub of_pair : (ℤ → ℤ → Value) → Option (ℤ × ℤ) → Value
of_pair f None = missing
of_pair f (Some p) = f p.0 p.1

-- of two whole numbers; with anything else there is no result
abbrev pub of_numbers : (ℤ → ℤ → Value) → Value → Value → Value
of_numbers f a b = of_pair f (both a b)

abbrev pub is_zero : ℤ → Bool
is_zero (pos n) = n == 0
is_zero (negsuc n) = false

-- no result of a division by zero
abbrev pub unless_zero : (ℤ → ℤ → ℤ) → ℤ → ℤ → Value
unless_zero f a b = if is_zero b then missing else whole (f a b)

abbrev pub pair_passes : (ℤ → ℤ → Bool) → Option (ℤ × ℤ) → Bool
pair_passes f None = false
pair_passes f (Some p) = f p.0 p.1

-- two whole numbers in this order; false with anything else
abbrev pub in_order : (ℤ → ℤ → Bool) → Value → Value → Value
in_order f a b = truth (pair_passes f (both a b))

abbrev pub negated : Option ℤ → Value
negated None = missing
negated (Some n) = whole (neg_ℤ n)

abbrev pub prefixed : Unary → Value → Value
prefixed prefixes.Minus v = negated (whole_in v)
prefixed prefixes.Not v = truth (not (is_true v))

-- division cuts toward zero, and a remainder has the sign of the left side
abbrev pub infixed : Binary → Value → Value → Value
infixed infixes.Or a b = truth (is_true a || is_true b)
infixed infixes.And a b = truth (is_true a && is_true b)
infixed infixes.Equal a b = truth (is_equal a b)
infixed infixes.NotEqual a b = truth (not (is_equal a b))
infixed infixes.Less a b = in_order int_lt a b
infixed infixes.AtMost a b = in_order int_le a b
infixed infixes.Greater a b = in_order int_lt b a
infixed infixes.AtLeast a b = in_order int_le b a
infixed infixes.Plus a b = of_numbers (λ x y. whole (x +ℤ y)) a b
infixed infixes.Minus a b = of_numbers (λ x y. whole (x -ℤ y)) a b
infixed infixes.Times a b = of_numbers (λ x y. whole (x *ℤ y)) a b
infixed infixes.Divide a b = of_numbers (unless_zero int_div) a b
infixed infixes.Remainder a b = of_numbers (unless_zero int_rem) a b

-- a whole number, if there is one
abbrev pub number_or_missing : Option ℤ → Value
number_or_missing None = missing
number_or_missing (Some n) = whole n
