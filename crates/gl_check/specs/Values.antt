-- What expressions of rules compute (this project).
use Rattle.std.specs.Prelude.{ℕ, ℤ, pos, negsuc, int_le, nat_le, Bool, true, false, ◌&&◌, not, List, [], length, if◌then◌else◌, codes}
use Rattle.std.specs.Fmt.{signed_decimal}
use Rattle.std.specs.Str.{bytes_eq}

-- a text, a whole number, a truth value, or nothing
pub data Value : Type 0 where
  text : List ℕ → Value
  whole : ℤ → Value
  truth : Bool → Value
  missing : Value

-- a text has at most 1,048,576 bytes, and a whole number 64 bits, one of them for the sign
abbrev pub is_within : Value → Bool
is_within (text t) = nat_le (length t) 1048576
is_within (whole n) = int_le (negsuc 9223372036854775807) n && int_le n (pos 9223372036854775807)
is_within (truth b) = true
is_within missing = true

-- what is out of bounds is missing
abbrev pub bounded : Value → Value
bounded v = if is_within v then v else missing

abbrev pub is_missing : Value → Bool
is_missing (text t) = false
is_missing (whole n) = false
is_missing (truth b) = false
is_missing missing = true

abbrev pub is_true : Value → Bool
is_true (text t) = false
is_true (whole n) = false
is_true (truth b) = b
is_true missing = false

abbrev pub is_text : Value → Bool
is_text (text t) = true
is_text (whole n) = false
is_text (truth b) = false
is_text missing = false

abbrev pub is_whole : Value → Bool
is_whole (text t) = false
is_whole (whole n) = true
is_whole (truth b) = false
is_whole missing = false

abbrev pub truth_text : Bool → List ℕ
truth_text b = if b then codes "true" else codes "false"

-- the text of a value: of a whole number its decimal
abbrev pub text_of : Value → List ℕ
text_of (text t) = t
text_of (whole n) = signed_decimal n
text_of (truth b) = truth_text b
text_of missing = []

-- both are there, of one type and equal
abbrev pub is_equal : Value → Value → Bool
is_equal (text a) (text b) = bytes_eq a b
is_equal (whole a) (whole b) = int_le a b && int_le b a
is_equal (truth a) (truth b) = if a then b else not b
is_equal _ _ = false
