-- Bytes that stand in a row.
use Rattle.std.proofs.Common.{◌≡◌, ℕ, suc, ◌-◌, ◌<◌, Bool, true, false, List, [], ◌∷◌, length, get_or, take, refl, ap, arith}
use Rattle.std.specs.List.{prefix_len}
use Rattle.std.proofs.lemmas.List.Sums.{prefix_len_passes}
use Rattle.gl_rulelang.specs.declared.text.Class.TheVariants.{Name}
use Rattle.std.specs.Char.{is_ascii_digit}
use Rattle.gl_rulelang.specs.Bytes.{in_class, is_letter}

name_is_ascii : (b : ℕ) → in_class Name b ≡ true → b < 128
name_is_ascii b h = grind arith

digit_is_ascii : (b : ℕ) → is_ascii_digit b ≡ true → b < 128
digit_is_ascii b h = grind arith

-- the last byte of a name, and of a number, is ASCII
pub name_ends : (bs : List ℕ) → 0 < prefix_len (in_class Name) bs → get_or bs (prefix_len (in_class Name) bs - 1) 0 < 128
name_ends bs h = name_is_ascii (get_or bs (prefix_len (in_class Name) bs - 1) 0) (prefix_len_passes (in_class Name) bs (prefix_len (in_class Name) bs - 1) 0 (omega arith))

pub digits_end : (bs : List ℕ) → 0 < prefix_len is_ascii_digit bs → get_or bs (prefix_len is_ascii_digit bs - 1) 0 < 128
digits_end bs h = digit_is_ascii (get_or bs (prefix_len is_ascii_digit bs - 1) 0) (prefix_len_passes is_ascii_digit bs (prefix_len is_ascii_digit bs - 1) 0 (omega arith))

all_step : (t : Bool) (b : ℕ) (bs : List ℕ) → is_ascii_digit b ≡ t → prefix_len is_ascii_digit (take (prefix_len is_ascii_digit bs) bs) ≡ length (take (prefix_len is_ascii_digit bs) bs)
    → prefix_len is_ascii_digit (take (prefix_len is_ascii_digit (b ∷ bs)) (b ∷ bs)) ≡ length (take (prefix_len is_ascii_digit (b ∷ bs)) (b ∷ bs))
all_step true b bs e h =
    let more : prefix_len is_ascii_digit (b ∷ bs) ≡ suc (prefix_len is_ascii_digit bs) = rw e (omega arith) in
    let whole : prefix_len is_ascii_digit (b ∷ take (prefix_len is_ascii_digit bs) bs) ≡ suc (prefix_len is_ascii_digit (take (prefix_len is_ascii_digit bs) bs)) = rw e (omega arith) in
    rw (more, whole) (ap suc h)
all_step false b bs e h =
    let none : prefix_len is_ascii_digit (b ∷ bs) ≡ 0 = rw e refl in
    rw none refl

-- the digits at the front are digits all through
pub all_digits : (bs : List ℕ) → prefix_len is_ascii_digit (take (prefix_len is_ascii_digit bs) bs) ≡ length (take (prefix_len is_ascii_digit bs) bs)
all_digits [] = refl
all_digits (b ∷ bs) = all_step (is_ascii_digit b) b bs refl (all_digits bs)

first_step : (p : ℕ → Bool) (bs : List ℕ) → 0 < length bs → p (get_or bs 0 0) ≡ true → 0 < prefix_len p bs
first_step p [] n h = absurd (omega arith)
first_step p (b ∷ bs) n h = rw h (omega arith)

pub some_digits : (bs : List ℕ) → is_ascii_digit (get_or bs 0 0) ≡ true → 0 < prefix_len is_ascii_digit bs
some_digits [] h = absurd cc
some_digits (b ∷ bs) h = first_step is_ascii_digit (b ∷ bs) (omega arith) h

pub some_name : (bs : List ℕ) → is_letter (get_or bs 0 0) ≡ true → 0 < prefix_len (in_class Name) bs
some_name [] h = absurd cc
some_name (b ∷ bs) h = first_step (in_class Name) (b ∷ bs) (omega arith) (grind arith)
