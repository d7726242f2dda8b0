-- A unit that is taken has the bytes of what it says, and the bytes of what is lawful are taken.
use Rattle.std.proofs.Common.{◌≡◌, ℕ, suc, ◌+◌, ◌^◌, ◌<◌, ◌≤◌, ◌&&◌, Bool, true, false, cond, leb, List, [], ◌∷◌, ◌++◌, length, get_or, take, drop, Result, Ok, Err, refl, sym, ap, subst, ◌∙◌, append_assoc, arith, inl, inr}
use Rattle.std.specs.List.{All}
use Rattle.std.specs.Int.{Width, w16, w32, w64, byte_len, from_be_bytes, to_be_bytes, is_in_range}
use Rattle.std.specs.Str.{IsUtf8, is_utf8}
use Rattle.std.proofs.lemmas.Bool.{cases_lt, leb-true, le-leb, and_parts, and_from, and_right, false_from_ne_true}
use Rattle.std.proofs.lemmas.List.{take_at, drop_at, take-append-drop, length-append, length-take, get_or-drop, get_or-take, get_or_past, get_or_default}
use Rattle.std.proofs.lemmas.Nat.{be_bytes_2, be_bytes_4, be_bytes_8, from_be_bytes-to_be_bytes_2, from_be_bytes-to_be_bytes_4, from_be_bytes-to_be_bytes_8}
use Rattle.std.proofs.lemmas.Str.{IsUtf8-from_is_utf8, is_utf8-from_IsUtf8}
use Rattle.gl_fields.specs.Entries.{short_text, long_text}
use Rattle.gl_fields.specs.Units.{◌>>=◌, byte_at, number_at, text_at, short_text_at, long_text_at}

-- what the code's text has, and hasn't
pub text_read : (bytes text rest : List ℕ) (len : ℕ) → len ≤ length bytes → text ≡ take len bytes → rest ≡ drop len bytes → IsUtf8 text → text_at is_utf8 len bytes ≡ Ok (text, rest)
unfolding text_at
text_read bytes text rest len le text_is rest_is utf8 =
    let lawful : is_utf8 (take len bytes) ≡ true = rw (← text_is) (is_utf8-from_IsUtf8 text utf8) in
    rw (and_from (leb len (length bytes)) (is_utf8 (take len bytes)) (le-leb len (length bytes) le) lawful, text_is, rest_is) refl

pub text_unread : (bytes text : List ℕ) (len : ℕ) → text ≡ take len bytes → (IsUtf8 text → ⊥) → text_at is_utf8 len bytes ≡ Err (length bytes)
unfolding text_at
text_unread bytes text len text_is none =
    let unlawful : is_utf8 (take len bytes) ≡ false = rw (← text_is) (false_from_ne_true (is_utf8 text) (λ e. none (IsUtf8-from_is_utf8 text e))) in
    rw (and_right (leb len (length bytes)) (is_utf8 (take len bytes)) unlawful) refl

-- steps that didn't fail

pub bind_ok : {A B : Type 0} (r : Result A ℕ) (f : A → Result B ℕ) (y : B) → (r >>= f) ≡ Ok y → (x : A) × (r ≡ Ok x) × (f x ≡ Ok y)
bind_ok (Ok x) f y e = (x, refl, e)
bind_ok (Err left) f y e = absurd cc

pub guard_ok : {A : Type 0} (b : Bool) (left : ℕ) (x y : A) → cond b (Ok x) (Err left) ≡ Ok y → (b ≡ true) × (x ≡ y)
guard_ok true left x y e = (refl, cc)
guard_ok false left x y e = absurd cc

pub ok_is : {A : Type 0} (x y : A) → (let r : Result A ℕ = Ok x in r) ≡ Ok y → x ≡ y
ok_is x y e = cc

-- bytes

abbrev pub IsBytes : List ℕ → Type 0
IsBytes bytes = (i : ℕ) → get_or bytes i 0 < 256

IsBytes-drop : (n : ℕ) (bytes : List ℕ) → IsBytes bytes → IsBytes (drop n bytes)
IsBytes-drop n bytes h i = rw get_or-drop (h (n + i))

IsBytes-take : (n : ℕ) (bytes : List ℕ) → IsBytes bytes → IsBytes (take n bytes)
IsBytes-take n bytes h i =
    elim (cases_lt i n) [
      | inl lt ↦ rw (get_or-take n bytes i 0 lt) (h i)
      | inr le ↦ rw (get_or_past (take n bytes) i 0 (omega (arith, length-take n bytes))) (omega arith)
    ]

pub all_bytes : (bytes : List ℕ) → IsBytes bytes → All (λ (b : ℕ). b < 256) bytes
all_bytes bytes h = λ k d lt. rw (get_or_default bytes k d 0 lt) (h k)

-- what was taken from the front
pub record Takes (bytes text rest : List ℕ) : Type 0 where
  pub parts : bytes ≡ text ++ rest
  pub rest_fits : IsBytes rest

pub Takes-then : (a x b y c : List ℕ) → Takes a x b → Takes b y c → Takes a (x ++ y) c
Takes-then a x b y c p q = record { parts = p.parts ∙ ap (λ (t : List ℕ). x ++ t) q.parts ∙ sym (append_assoc x y c); rest_fits = q.rest_fits }

pub Takes-none : (bytes : List ℕ) → IsBytes bytes → Takes bytes [] bytes
Takes-none bytes fits = record { parts = refl; rest_fits = fits }

-- numbers

pub record IsWithin (least most n : ℕ) : Type 0 where
  pub low : least ≤ n
  pub high : n ≤ most

within : (least most n : ℕ) → is_in_range least most n ≡ true → IsWithin least most n
within least most n e =
    let parts = and_parts (leb least n) (leb n most) e in
    record { low = leb-true least n parts.0; high = leb-true n most parts.1 }

lawful : (least most n : ℕ) → IsWithin least most n → is_in_range least most n ≡ true
lawful least most n w = and_from (leb least n) (leb n most) (le-leb least n w.low) (le-leb n most w.high)

pub byte_takes : (least most : ℕ) (bytes : List ℕ) (n : ℕ) (rest : List ℕ) → IsBytes bytes → byte_at least most bytes ≡ Ok (n, rest) → Takes bytes (n ∷ []) rest × IsWithin least most n
unfolding byte_at
byte_takes least most [] n rest fits e = absurd cc
byte_takes least most (b ∷ bytes) n rest fits e =
    let g = guard_ok (is_in_range least most b) (length (b ∷ bytes)) (b, bytes) (n, rest) e in
    subst (λ (p : ℕ × List ℕ). Takes (b ∷ bytes) (p.0 ∷ []) p.1 × IsWithin least most p.0) g.1
    (record { parts = refl; rest_fits = λ i. fits (suc i) }, within least most b g.0)

pub byte_again : (least most n : ℕ) (rest : List ℕ) → IsWithin least most n → byte_at least most (n ∷ rest) ≡ Ok (n, rest)
unfolding byte_at
byte_again least most n rest w = rw (lawful least most n w) refl

pub record IsWide (w : Width) (limit : ℕ) : Type 0 where
  pub len : (n : ℕ) → length (to_be_bytes w n) ≡ byte_len w
  pub back : (bytes : List ℕ) → length bytes ≡ byte_len w → IsBytes bytes → to_be_bytes w (from_be_bytes w bytes) ≡ bytes
  pub again : (n : ℕ) → n < limit → from_be_bytes w (to_be_bytes w n) ≡ n
  pub below : (bytes : List ℕ) → IsBytes bytes → from_be_bytes w bytes < limit

pub wide16 : IsWide w16 (2 ^ 16)
wide16 = record {
  len = λ n. refl;
  back = λ bytes len fits. be_bytes_2 bytes _ len fits refl;
  again = λ n lt. from_be_bytes-to_be_bytes_2 n lt;
  below = λ bytes fits. omega (arith, fits 0, fits 1);
}

pub wide32 : IsWide w32 (2 ^ 32)
wide32 = record {
  len = λ n. refl;
  back = λ bytes len fits. be_bytes_4 bytes _ len fits refl;
  again = λ n lt. from_be_bytes-to_be_bytes_4 n lt;
  below = λ bytes fits. omega (arith, fits 0, fits 1, fits 2, fits 3);
}

pub wide64 : IsWide w64 (2 ^ 64)
wide64 = record {
  len = λ n. refl;
  back = λ bytes len fits. be_bytes_8 bytes _ len fits refl;
  again = λ n lt. from_be_bytes-to_be_bytes_8 n lt;
  below = λ bytes fits. omega (arith, fits 0, fits 1, fits 2, fits 3, fits 4, fits 5, fits 6, fits 7);
}

pub record IsNumber (limit least most n : ℕ) : Type 0 where
  pub within : IsWithin least most n
  pub below : n < limit

pub number_takes : (w : Width) (limit : ℕ) (wide : IsWide w limit) (least most : ℕ) (bytes : List ℕ) (n : ℕ) (rest : List ℕ) → IsBytes bytes → number_at w least most bytes ≡ Ok (n, rest)
    → Takes bytes (to_be_bytes w n) rest × IsNumber limit least most n
unfolding number_at
number_takes w limit wide least most bytes n rest fits e =
    let front : List ℕ = take (byte_len w) bytes in
    let g = guard_ok (leb (byte_len w) (length bytes) && is_in_range least most (from_be_bytes w front)) (length bytes) (from_be_bytes w front, drop (byte_len w) bytes) (n, rest) e in
    let tests = and_parts (leb (byte_len w) (length bytes)) (is_in_range least most (from_be_bytes w front)) g.0 in
    let long : byte_len w ≤ length bytes = leb-true (byte_len w) (length bytes) tests.0 in
    let parts : bytes ≡ to_be_bytes w (from_be_bytes w front) ++ drop (byte_len w) bytes =
    rw (wide.back front (omega (arith, length-take (byte_len w) bytes)) (IsBytes-take (byte_len w) bytes fits)) (sym (take-append-drop (byte_len w) bytes)) in
    subst (λ (p : ℕ × List ℕ). Takes bytes (to_be_bytes w p.0) p.1 × IsNumber limit least most p.0) g.1 (
      record { parts = parts; rest_fits = IsBytes-drop (byte_len w) bytes fits },
      record { within = within least most (from_be_bytes w front) tests.1; below = wide.below front (IsBytes-take (byte_len w) bytes fits) },
    )

pub number_high : (w : Width) (least most : ℕ) (bytes : List ℕ) (n : ℕ) (rest : List ℕ) → number_at w least most bytes ≡ Ok (n, rest) → n ≤ most
unfolding number_at
number_high w least most bytes n rest e =
    let front : List ℕ = take (byte_len w) bytes in
    let g = guard_ok (leb (byte_len w) (length bytes) && is_in_range least most (from_be_bytes w front)) (length bytes) (from_be_bytes w front, drop (byte_len w) bytes) (n, rest) e in
    let tests = and_parts (leb (byte_len w) (length bytes)) (is_in_range least most (from_be_bytes w front)) g.0 in
    subst (λ (p : ℕ × List ℕ). p.0 ≤ most) g.1 (within least most (from_be_bytes w front) tests.1).high

pub number_again : (w : Width) (limit : ℕ) (wide : IsWide w limit) (least most n : ℕ) (rest : List ℕ) → IsNumber limit least most n → number_at w least most (to_be_bytes w n ++ rest) ≡ Ok (n, rest)
unfolding number_at
number_again w limit wide least most n rest is =
    let len = wide.len n in
    let long : leb (byte_len w) (length (to_be_bytes w n ++ rest)) ≡ true = le-leb (byte_len w) (length (to_be_bytes w n ++ rest)) (omega (arith, length-append (to_be_bytes w n) rest)) in
    rw (take_at (to_be_bytes w n) rest (byte_len w) len, drop_at (to_be_bytes w n) rest (byte_len w) len, wide.again n is.below, long, lawful least most n is.within) refl

-- texts

pub record IsRun (is_lawful : List ℕ → Bool) (len : ℕ) (text : List ℕ) : Type 0 where
  pub whole : length text ≡ len
  pub lawful : is_lawful text ≡ true

pub text_takes : (is_lawful : List ℕ → Bool) (len : ℕ) (bytes text rest : List ℕ) → IsBytes bytes → text_at is_lawful len bytes ≡ Ok (text, rest)
    → Takes bytes text rest × IsRun is_lawful len text × IsBytes text
unfolding text_at
text_takes is_lawful len bytes text rest fits e =
    let g = guard_ok (leb len (length bytes) && is_lawful (take len bytes)) (length bytes) (take len bytes, drop len bytes) (text, rest) e in
    let tests = and_parts (leb len (length bytes)) (is_lawful (take len bytes)) g.0 in
    let long : len ≤ length bytes = leb-true len (length bytes) tests.0 in
    subst (λ (p : List ℕ × List ℕ). Takes bytes p.0 p.1 × IsRun is_lawful len p.0 × IsBytes p.0) g.1 (
      record { parts = sym (take-append-drop len bytes); rest_fits = IsBytes-drop len bytes fits },
      record { whole = omega (arith, length-take len bytes); lawful = tests.1 },
      IsBytes-take len bytes fits,
    )

pub text_again : (is_lawful : List ℕ → Bool) (text rest : List ℕ) → is_lawful text ≡ true → text_at is_lawful (length text) (text ++ rest) ≡ Ok (text, rest)
unfolding text_at
text_again is_lawful text rest lawful =
    let long : leb (length text) (length (text ++ rest)) ≡ true = le-leb (length text) (length (text ++ rest)) (omega (arith, length-append text rest)) in
    rw (take_at text rest (length text) refl, drop_at text rest (length text) refl, long, lawful) refl

pub short_takes : (most : ℕ) (bytes text rest : List ℕ) → IsBytes bytes → short_text_at most bytes ≡ Ok (text, rest)
    → Takes bytes (short_text text) rest × IsWithin 1 most (length text) × IsUtf8 text
unfolding short_text_at
short_takes most bytes text rest fits e =
    let b = bind_ok (byte_at 1 most bytes) (λ len. text_at is_utf8 len.0 len.1) (text, rest) e in
    let first = byte_takes 1 most bytes b.0.0 b.0.1 fits b.1 in
    let second = text_takes is_utf8 b.0.0 b.0.1 text rest first.0.rest_fits b.2 in
    let both = Takes-then bytes (b.0.0 ∷ []) b.0.1 text rest first.0 second.0 in (
      subst (λ (n : ℕ). Takes bytes (n ∷ text) rest) (sym second.1.whole) both,
      subst (λ (n : ℕ). IsWithin 1 most n) (sym second.1.whole) first.1,
      IsUtf8-from_is_utf8 text second.1.lawful,
    )

pub short_again : (most : ℕ) (text rest : List ℕ) → IsWithin 1 most (length text) → IsUtf8 text → short_text_at most (short_text text ++ rest) ≡ Ok (text, rest)
unfolding short_text_at
short_again most text rest w utf8 =
    rw (byte_again 1 most (length text) (text ++ rest) w) (text_again is_utf8 text rest (is_utf8-from_IsUtf8 text utf8))

pub long_takes : (is_lawful : List ℕ → Bool) (least most : ℕ) (bytes text rest : List ℕ) → IsBytes bytes → long_text_at is_lawful least most bytes ≡ Ok (text, rest)
    → Takes bytes (long_text text) rest × IsNumber (2 ^ 32) least most (length text) × (is_lawful text ≡ true) × IsBytes text
unfolding long_text_at
long_takes is_lawful least most bytes text rest fits e =
    let b = bind_ok (number_at w32 least most bytes) (λ len. text_at is_lawful len.0 len.1) (text, rest) e in
    let first = number_takes w32 (2 ^ 32) wide32 least most bytes b.0.0 b.0.1 fits b.1 in
    let second = text_takes is_lawful b.0.0 b.0.1 text rest first.0.rest_fits b.2 in
    let both = Takes-then bytes (to_be_bytes w32 b.0.0) b.0.1 text rest first.0 second.0 in (
      subst (λ (n : ℕ). Takes bytes (to_be_bytes w32 n ++ text) rest) (sym second.1.whole) both,
      subst (λ (n : ℕ). IsNumber (2 ^ 32) least most n) (sym second.1.whole) first.1,
      second.1.lawful,
      second.2,
    )

pub long_again : (is_lawful : List ℕ → Bool) (least most : ℕ) (text rest : List ℕ) → IsNumber (2 ^ 32) least most (length text) → is_lawful text ≡ true
    → long_text_at is_lawful least most (long_text text ++ rest) ≡ Ok (text, rest)
unfolding long_text_at
long_again is_lawful least most text rest is lawful =
    ap (λ (l : List ℕ). number_at w32 least most l >>= λ len. text_at is_lawful len.0 len.1) (append_assoc (to_be_bytes w32 (length text)) text rest)
    ∙ rw (number_again w32 (2 ^ 32) wide32 least most (length text) (text ++ rest) is) (text_again is_lawful text rest lawful)
