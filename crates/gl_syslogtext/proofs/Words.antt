-- The last byte of digits, and of letters and digits, at a text's front is ASCII.
use Rattle.std.proofs.Common.{◌≡◌, ℕ, ◌-◌, ◌<◌, ◌≤◌, true, List, get_or, arith}
use Rattle.std.specs.List.{prefix_len}
use Rattle.std.specs.Char.{is_ascii_digit, is_ascii_alphanumeric}
use Rattle.std.proofs.lemmas.List.Sums.{prefix_len_passes}

digit_ascii : (b : ℕ) → is_ascii_digit b ≡ true → b < 128
digit_ascii b h = grind arith

word_ascii : (b : ℕ) → is_ascii_alphanumeric b ≡ true → b < 128
word_ascii b h = grind arith

pub last_digit : (text : List ℕ) (len : ℕ) → len ≡ prefix_len is_ascii_digit text → 1 ≤ len → get_or text (len - 1) 0 < 128
last_digit text len e some = digit_ascii (get_or text (len - 1) 0) (prefix_len_passes is_ascii_digit text (len - 1) 0 (omega arith))

pub last_of_word : (text : List ℕ) (len : ℕ) → len ≡ prefix_len is_ascii_alphanumeric text → 1 ≤ len → get_or text (len - 1) 0 < 128
last_of_word text len e some = word_ascii (get_or text (len - 1) 0) (prefix_len_passes is_ascii_alphanumeric text (len - 1) 0 (omega arith))
