-- The text of an id is read as the id.
use Rattle.std.specs.Prelude.{◌≡◌, ℕ, zero, suc, ◌+◌, ◌-◌, ◌*◌, ◌/◌, ◌%◌, ◌^◌, ◌<◌, ◌≤◌, ◌==◌, ◌&&◌, ◌||◌, not, Bool, true, false, nat_lt, nat_le, List, [], ◌∷◌, ◌++◌, length, replicate, Result, Ok, Err, Some, if◌then◌else◌, IsUtf8}
use Rattle.std.proofs.Common.{refl, inl, inr, ◌∙◌, ap, sym, subst, arith, get_or, lit<, eqb-true, append-nil, length-append}
use Rattle.std.proofs.lemmas.Bool.{agree_below_at, lt-ltb, ltb-true, leb-true, false_from_ne_true, and_parts, or_cases}
use Rattle.std.proofs.lemmas.Option.{cond_some}
use Rattle.std.proofs.lemmas.Str.Parse.{without_leading_plus_none}
use Rattle.std.proofs.lemmas.Fmt.{digits_is_IsNumeral}
use Rattle.std.proofs.lemmas.List.{length-replicate}
use Rattle.std.proofs.Math.Nat.{pow-suc}
use Rattle.std.specs.Fmt.{digit_glyph, digits_onto, digits, padded_integral, format_spec, char_count}
use Rattle.std.specs.Int.{is_in_range}
use Rattle.std.specs.List.{list_all}
use Rattle.std.specs.Char.{digit_value}
use Rattle.std.specs.Result.{OkIff, result_ok}
use Rattle.std.specs.Str.Parse.{AllDigits, IsNumeral, ParsesUnsigned, digits_value, digits_value_after}
use Rattle.std.proofs.lemmas.Str.{IsUtf8-from_ascii}
use Rattle.std.specs.Str.{IsAscii}
use Rattle.gl_text.specs.Ids.{is_hex_digit, id_text, is_id, read_id}

-- what `{:024x}` writes
pub padded_id : (numeral : List ℕ) → padded_integral (format_spec 32 0 4 24 (2 ^ 64 - 1)) false [] numeral ≡ replicate (24 - length numeral) 48 ++ numeral
unfolding padded_integral char_count
padded_id numeral =
    let zeros : 24 - length numeral - 0 - 0 ≡ 24 - length numeral = omega arith in
    rw (zeros, append-nil numeral) refl

-- what holds of each digit holds of the digits
onto_all : (p : ℕ → Bool) → ((d : ℕ) → d < 16 → p (digit_glyph false d) ≡ true) → (k n : ℕ) (later : List ℕ) → list_all p later ≡ true → list_all p (digits_onto k 16 false n later) ≡ true
onto_all p each zero n later h = h
onto_all p each (suc k) n later h =
    let one : p (digit_glyph false (n % 16)) ≡ true = each (n % 16) (omega arith) in
    let more : list_all p (digit_glyph false (n % 16) ∷ later) ≡ true = ap (λ v. v && list_all p later) one ∙ h in
    elim (n / 16 == 0) as (λ v. list_all p (if v then digit_glyph false (n % 16) ∷ later else digits_onto k 16 false (n / 16) (digit_glyph false (n % 16) ∷ later)) ≡ true) [
      | true ↦ more
      | false ↦ onto_all p each k (n / 16) (digit_glyph false (n % 16) ∷ later) more
    ]

length-onto : (j k n : ℕ) (later : List ℕ) → n < 16 ^ suc k → length (digits_onto j 16 false n later) ≤ suc k + length later
length-onto zero k n later h = omega arith
length-onto (suc j) zero n later h =
    let none : n / 16 ≡ 0 = omega (arith, h, pow-suc 16 0) in
    let last : (n / 16 == 0) ≡ true = ap (λ m. m == 0) none in
    rw last (omega arith)
length-onto (suc j) (suc k) n later h =
    let fewer : n / 16 < 16 ^ suc k = omega (arith, h, pow-suc 16 (suc k)) in
    let rest : length (digits_onto j 16 false (n / 16) (digit_glyph false (n % 16) ∷ later)) ≤ suc k + suc (length later) = length-onto j k (n / 16) (digit_glyph false (n % 16) ∷ later) fewer in
    elim (n / 16 == 0) as (λ v. length (if v then digit_glyph false (n % 16) ∷ later else digits_onto j 16 false (n / 16) (digit_glyph false (n % 16) ∷ later)) ≤ suc (suc k) + length later) [
      | true ↦ omega arith
      | false ↦ omega (arith, rest)
    ]

digits_all : (p : ℕ → Bool) → ((d : ℕ) → d < 16 → p (digit_glyph false d) ≡ true) → (n : ℕ) → list_all p (digits 16 false n) ≡ true
unfolding digits
digits_all p each n = onto_all p each 64 n [] refl

length-digits : (n : ℕ) → n < 2 ^ 64 → length (digits 16 false n) ≤ 16
unfolding digits
length-digits n h =
    let few : n < 16 ^ suc 15 = omega arith in
    let most : length (digits_onto 64 16 false n []) ≤ suc 15 + 0 = length-onto 64 15 n [] few in
    omega (arith, most)

-- zeros before digits

zeros_value : (m : ℕ) (ds : List ℕ) → digits_value 16 (replicate m 48 ++ ds) ≡ digits_value 16 ds
zeros_value zero ds = refl
zeros_value (suc m) ds = zeros_value m ds

zeros_all : (p : ℕ → Bool) → p 48 ≡ true → (m : ℕ) (ds : List ℕ) → list_all p ds ≡ true → list_all p (replicate m 48 ++ ds) ≡ true
zeros_all p zero_is zero ds h = h
zeros_all p zero_is (suc m) ds h = ap (λ v. v && list_all p (replicate m 48 ++ ds)) zero_is ∙ zeros_all p zero_is m ds h

text_all : (p : ℕ → Bool) → p 48 ≡ true → ((d : ℕ) → d < 16 → p (digit_glyph false d) ≡ true) → (id : ℕ) → list_all p (id_text id) ≡ true
text_all p zero_is each id = zeros_all p zero_is (24 - length (digits 16 false id)) (digits 16 false id) (digits_all p each id)

length-id_text : (id : ℕ) → id < 2 ^ 64 → length (id_text id) ≡ 24
length-id_text id h =
    let ds = digits 16 false id in
    omega (arith, length-append (replicate (24 - length ds) 48) ds, length-replicate {A = ℕ} (24 - length ds) 48, length-digits id h)

read_id-digits : (text : List ℕ) (id : ℕ) → length text ≡ 24 → list_all is_hex_digit text ≡ true → digits_value 16 text ≡ id → id < 2 ^ 64 → read_id text ≡ Some id
read_id-digits text id long spelled value small =
    let counted : (length text == 24) ≡ true = ap (λ n. n == 24) long in
    let fits : nat_lt (digits_value 16 text) (2 ^ 64) ≡ true = lt-ltb _ _ (omega (arith, value, small)) in
    rw (counted, spelled, fits) (ap Some value)

pub read_id-id_text : (id : ℕ) → id < 2 ^ 64 → read_id (id_text id) ≡ Some id
read_id-id_text id h =
    let ds = digits 16 false id in
    let value : digits_value 16 (id_text id) ≡ id = zeros_value (24 - length ds) ds ∙ (digits_is_IsNumeral 16 false (omega arith) (omega arith) id (omega arith)).1 in
    let spelled : list_all is_hex_digit (id_text id) ≡ true = text_all is_hex_digit refl (λ d k. agree_below_at (λ b. is_hex_digit (digit_glyph false b)) (λ b. true) 16 d refl k) id in
    read_id-digits (id_text id) id (length-id_text id h) spelled value h

ascii : (bytes : List ℕ) → list_all (λ b. nat_lt b 128) bytes ≡ true → IsAscii bytes
ascii [] h i = lit< tt
ascii (b ∷ bytes) h zero = ltb-true b 128 (and_parts (nat_lt b 128) (list_all (λ b. nat_lt b 128) bytes) h).0
ascii (b ∷ bytes) h (suc i) = ascii bytes (and_parts (nat_lt b 128) (list_all (λ b. nat_lt b 128) bytes) h).1 i

pub IsUtf8-id_text : (id : ℕ) → IsUtf8 (id_text id)
IsUtf8-id_text id =
    let small : list_all (λ b. nat_lt b 128) (id_text id) ≡ true = text_all (λ b. nat_lt b 128) refl (λ d k. agree_below_at (λ b. nat_lt (digit_glyph false b) 128) (λ b. true) 16 d refl k) id in
    IsUtf8-from_ascii (id_text id) (ascii (id_text id) small)

-- what is parsed of a text

digit_small : (b : ℕ) → is_hex_digit b ≡ true → b < 103
digit_small b h =
    elim (or_cases (is_in_range 48 57 b) (is_in_range 97 102 b) h) [
      | inl low ↦ omega (arith, leb-true b 57 (and_parts (nat_le 48 b) (nat_le b 57) low).1)
      | inr high ↦ omega (arith, leb-true b 102 (and_parts (nat_le 97 b) (nat_le b 102) high).1)
    ]

digit_fits : (b : ℕ) → is_hex_digit b ≡ true → digit_value b < 16
digit_fits b h =
    let either : (not (is_hex_digit b) || nat_lt (digit_value b) 16) ≡ true
    = agree_below_at (λ d. not (is_hex_digit d) || nat_lt (digit_value d) 16) (λ d. true) 103 b refl (digit_small b h) in
    ltb-true (digit_value b) 16 (ap (λ v. not v || nat_lt (digit_value b) 16) (sym h) ∙ either)

are_digits : (text : List ℕ) → list_all is_hex_digit text ≡ true → AllDigits 16 text
are_digits [] h = tt
are_digits (b ∷ bytes) h =
    let parts : (is_hex_digit b ≡ true) × (list_all is_hex_digit bytes ≡ true) = and_parts (is_hex_digit b) (list_all is_hex_digit bytes) h in
    (digit_fits b parts.0, are_digits bytes parts.1)

no_plus : (text : List ℕ) → length text ≡ 24 → list_all is_hex_digit text ≡ true → get_or text 0 0 ≡ 43 → ⊥
no_plus [] long h e = absurd (omega (arith, long))
no_plus (b ∷ bytes) long h e =
    let plus : is_hex_digit 43 ≡ true = ap is_hex_digit (sym e) ∙ (and_parts (is_hex_digit b) (list_all is_hex_digit bytes) h).0 in
    cc

by_result : {E : Type 0} (text : List ℕ) (r : Result ℕ E) → length text ≡ 24 → list_all is_hex_digit text ≡ true
    → OkIff r (IsNumeral 16 text × (digits_value 16 text < 2 ^ 64)) (digits_value 16 text) → result_ok r ≡ read_id text
by_result text (Ok id) long spelled h = sym (read_id-digits text id long spelled (sym h.1) (omega (arith, h.0.1, h.1)))
by_result text (Err e) long spelled h =
    let counted : (length text == 24) ≡ true = ap (λ n. n == 24) long in
    let some : 0 < length text = omega (arith, long) in
    let large : nat_lt (digits_value 16 text) (2 ^ 64) ≡ false
    = false_from_ne_true (nat_lt (digits_value 16 text) (2 ^ 64)) (λ small. h ((some, are_digits text spelled), ltb-true (digits_value 16 text) (2 ^ 64) small)) in
    rw (counted, spelled, large) refl

pub read_id-parsed : {E : Type 0} (text : List ℕ) (r : Result ℕ E) → length text ≡ 24 → list_all is_hex_digit text ≡ true → ParsesUnsigned 64 16 text r → result_ok r ≡ read_id text
read_id-parsed text r long spelled h =
    by_result text r long spelled
    (subst (λ bytes. OkIff r (IsNumeral 16 bytes × (digits_value 16 bytes < 2 ^ 64)) (digits_value 16 bytes)) (without_leading_plus_none text (no_plus text long spelled)) h)

-- texts of one length write different numbers

glyph_back : (b : ℕ) → is_hex_digit b ≡ true → digit_glyph false (digit_value b) ≡ b
glyph_back b h =
    let either : (not (is_hex_digit b) || (digit_glyph false (digit_value b) == b)) ≡ true
    = agree_below_at (λ d. not (is_hex_digit d) || (digit_glyph false (digit_value d) == d)) (λ d. true) 103 b refl (digit_small b h) in
    eqb-true (digit_glyph false (digit_value b)) b (ap (λ v. not v || (digit_glyph false (digit_value b) == b)) (sym h) ∙ either)

apart : (a b c d : ℕ) → c < 16 → d < 16 → a * 16 + c ≡ b * 16 + d → (a ≡ b) × (c ≡ d)
apart a b c d small less e = (omega arith, omega arith)

one_text : (m n : ℕ) (a b : List ℕ) → length a ≡ length b → list_all is_hex_digit a ≡ true → list_all is_hex_digit b ≡ true
    → digits_value_after 16 m a ≡ digits_value_after 16 n b → (m ≡ n) × (a ≡ b)
one_text m n [] [] long h k e = (e, refl)
one_text m n [] (d ∷ b) long h k e = absurd (omega (arith, long))
one_text m n (c ∷ a) [] long h k e = absurd (omega (arith, long))
one_text m n (c ∷ a) (d ∷ b) long h k e =
    let left : (is_hex_digit c ≡ true) × (list_all is_hex_digit a ≡ true) = and_parts (is_hex_digit c) (list_all is_hex_digit a) h in
    let right : (is_hex_digit d ≡ true) × (list_all is_hex_digit b ≡ true) = and_parts (is_hex_digit d) (list_all is_hex_digit b) k in
    let rest : (m * 16 + digit_value c ≡ n * 16 + digit_value d) × (a ≡ b) = one_text (m * 16 + digit_value c) (n * 16 + digit_value d) a b (omega (arith, long)) left.1 right.1 e in
    let both = apart m n (digit_value c) (digit_value d) (digit_fits c left.0) (digit_fits d right.0) rest.0 in
    let first : c ≡ d = sym (glyph_back c left.0) ∙ ap (digit_glyph false) both.1 ∙ glyph_back d right.0 in
    (both.0, ap (λ x. x ∷ a) first ∙ ap (λ t. d ∷ t) rest.1)

record WritesId (text : List ℕ) (id : ℕ) : Type 0 where
  long : length text ≡ 24
  spelled : list_all is_hex_digit text ≡ true
  value : digits_value 16 text ≡ id
  small : id < 2 ^ 64

of_read : (text : List ℕ) (id : ℕ) → read_id text ≡ Some id → WritesId text id
of_read text id h =
    let all = cond_some (is_id text) (digits_value 16 text) id h in
    let outer : ((length text == 24) && list_all is_hex_digit text ≡ true) × (nat_lt (digits_value 16 text) (2 ^ 64) ≡ true)
    = and_parts ((length text == 24) && list_all is_hex_digit text) (nat_lt (digits_value 16 text) (2 ^ 64)) all.0 in
    let inner : ((length text == 24) ≡ true) × (list_all is_hex_digit text ≡ true) = and_parts (length text == 24) (list_all is_hex_digit text) outer.0 in
    record {
      long = eqb-true (length text) 24 inner.0;
      spelled = inner.1;
      value = all.1;
      small = omega (arith, ltb-true (digits_value 16 text) (2 ^ 64) outer.1, all.1);
    }

pub text_of-read : (text : List ℕ) (id : ℕ) → read_id text ≡ Some id → text ≡ id_text id
text_of-read text id h =
    let given = of_read text id h in
    let own = of_read (id_text id) id (read_id-id_text id given.small) in
    (one_text 0 0 text (id_text id) (given.long ∙ sym own.long) given.spelled own.spelled (given.value ∙ sym own.value)).1
