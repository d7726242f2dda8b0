-- The bytes of a character are those of UTF-8.
use Rattle.std.proofs.Common.{◌≡◌, ℕ, ◌+◌, ◌-◌, ◌*◌, ◌/◌, ◌%◌, ◌<◌, ◌≤◌, ◌==◌, true, false, leb, nat_lt, [], ◌∷◌, refl, ap, ap₂, subst, ◌∙◌, inl, inr, arith}
use Rattle.std.proofs.lemmas.Bool.{and_parts, leb-true, cases_lt}
use Rattle.std.proofs.lemmas.Bool.Decides.{nat_tests}
use Rattle.std.proofs.lemmas.Str.{IsUtf8-encode, encode_ascii}
use Rattle.std.specs.Int.{is_in_range}
use Rattle.std.specs.Str.{IsUtf8}
use lib.Utf8.{scalar, encode, low_scalar}
use Rattle.gl_json.specs.Chars.{is_tail, is_second}
use Rattle.gl_json.proofs.Taking.{split}
use Rattle.gl_json.proofs.CharRead.{take_yes, take_no, eq_is}

pub record Within (least most n : ℕ) : Type 0 where
  pub low : least ≤ n
  pub high : n ≤ most

pub within : (least most n : ℕ) → is_in_range least most n ≡ true → Within least most n
within least most n e =
    let parts = and_parts (leb least n) (leb n most) e in
    record { low = leb-true least n parts.0; high = leb-true n most parts.1 }

below_test : (a b : ℕ) → a < b → nat_lt a b ≡ true
below_test a b h = grind (arith, nat_tests)

above_test : (a b : ℕ) → b ≤ a → nat_lt a b ≡ false
above_test a b h = grind (arith, nat_tests)

pub high_scalar : (c : ℕ) → 57344 ≤ c → c < 1114112 → scalar c ≡ true
high_scalar c low high = grind (arith, nat_tests)

pub utf8_one : (a : ℕ) → a < 128 → IsUtf8 (a ∷ [])
utf8_one a h = subst IsUtf8 (encode_ascii a h) (IsUtf8-encode a (low_scalar a (omega arith)))

two_code : (a b c : ℕ) → Within 194 223 a → Within 128 191 b → c ≡ (a - 192) * 64 + (b - 128) → encode c ≡ a ∷ b ∷ []
unfolding encode
two_code a b c ra rb e =
    let lead : 192 + c / 64 ≡ a = omega (arith, ra.low, ra.high, rb.low, rb.high, e) in
    let tail : 128 + c % 64 ≡ b = omega (arith, ra.low, ra.high, rb.low, rb.high, e) in
    take_no (nat_lt c 128) _ _ (above_test c 128 (omega (arith, ra.low, rb.low, e))) ∙ take_yes (nat_lt c 2048) _ _ (below_test c 2048 (omega (arith, ra.low, ra.high, rb.low, rb.high, e)))
    ∙ ap₂ (λ (x y : ℕ). x ∷ y ∷ []) lead tail

pub utf8_two : (a b : ℕ) → is_in_range 194 223 a ≡ true → is_tail b ≡ true → IsUtf8 (a ∷ b ∷ [])
utf8_two a b h k =
    let ra = within 194 223 a h in
    let rb = within 128 191 b k in
    subst IsUtf8 (two_code a b ((a - 192) * 64 + (b - 128)) ra rb refl) (IsUtf8-encode ((a - 192) * 64 + (b - 128)) (low_scalar ((a - 192) * 64 + (b - 128)) (omega (arith, ra.low, ra.high, rb.low, rb.high))))

-- what the second byte's range is
pub record Second (a b : ℕ) : Type 0 where
  pub low : 128 ≤ b
  pub high : b ≤ 191
  pub long_three : a ≡ 224 → 160 ≤ b
  pub surrogate : a ≡ 237 → b ≤ 159
  pub long_four : a ≡ 240 → 144 ≤ b
  pub past_end : a ≡ 244 → b ≤ 143

ne_is : (a b : ℕ) → (a == b) ≡ false → a ≡ b → ⊥
ne_is a b h e = grind arith

second_is : (a b : ℕ) → is_second a b ≡ true → Second a b
second_is a b h = elim (split (a == 224) _ _ true h) [
  | inl p ↦ let e = eq_is a 224 p.0 in let w = within 160 191 b p.1 in
      record { low = omega (arith, w.low); high = w.high; long_three = λ _. w.low; surrogate = λ k. absurd (omega (arith, e, k)); long_four = λ k. absurd (omega (arith, e, k)); past_end = λ k. absurd (omega (arith, e, k)) }
  | inr p ↦ elim (split (a == 237) _ _ true p.1) [
    | inl q ↦ let e = eq_is a 237 q.0 in let w = within 128 159 b q.1 in
        record { low = w.low; high = omega (arith, w.high); long_three = λ k. absurd (omega (arith, e, k)); surrogate = λ _. w.high; long_four = λ k. absurd (omega (arith, e, k)); past_end = λ k. absurd (omega (arith, e, k)) }
    | inr q ↦ elim (split (a == 240) _ _ true q.1) [
      | inl r ↦ let e = eq_is a 240 r.0 in let w = within 144 191 b r.1 in
          record { low = omega (arith, w.low); high = w.high; long_three = λ k. absurd (omega (arith, e, k)); surrogate = λ k. absurd (omega (arith, e, k)); long_four = λ _. w.low; past_end = λ k. absurd (omega (arith, e, k)) }
      | inr r ↦ elim (split (a == 244) _ _ true r.1) [
        | inl s ↦ let e = eq_is a 244 s.0 in let w = within 128 143 b s.1 in
            record { low = w.low; high = omega (arith, w.high); long_three = λ k. absurd (omega (arith, e, k)); surrogate = λ k. absurd (omega (arith, e, k)); long_four = λ k. absurd (omega (arith, e, k)); past_end = λ _. w.high }
        | inr s ↦ let w = within 128 191 b s.1 in
            record { low = w.low; high = w.high; long_three = λ k. absurd (ne_is a 224 p.0 k); surrogate = λ k. absurd (ne_is a 237 q.0 k); long_four = λ k. absurd (ne_is a 240 r.0 k); past_end = λ k. absurd (ne_is a 244 s.0 k) }
      ]
    ]
  ]
]

three_code : (a b d c : ℕ) → Within 224 239 a → Within 128 191 b → Within 128 191 d → (a ≡ 224 → 160 ≤ b) → c ≡ (a - 224) * 4096 + (b - 128) * 64 + (d - 128) → encode c ≡ a ∷ b ∷ d ∷ []
unfolding encode
three_code a b d c ra rb rd long e =
    let enough : 2048 ≤ c = elim (cases_lt a 225) [
      | inl h ↦ let low : 160 ≤ b = long (omega (arith, ra.low, h)) in omega (arith, ra.low, ra.high, rb.low, rb.high, rd.low, rd.high, low, e)
      | inr h ↦ omega (arith, ra.low, ra.high, rb.low, rb.high, rd.low, rd.high, h, e)
    ] in
    let lead : 224 + c / 4096 ≡ a = omega (arith, ra.low, ra.high, rb.low, rb.high, rd.low, rd.high, e) in
    let second : 128 + (c / 64) % 64 ≡ b = omega (arith, ra.low, ra.high, rb.low, rb.high, rd.low, rd.high, e) in
    let third : 128 + c % 64 ≡ d = omega (arith, ra.low, ra.high, rb.low, rb.high, rd.low, rd.high, e) in
    take_no (nat_lt c 128) _ _ (above_test c 128 (omega (arith, enough))) ∙ take_no (nat_lt c 2048) _ _ (above_test c 2048 enough)
    ∙ take_yes (nat_lt c 65536) _ _ (below_test c 65536 (omega (arith, ra.low, ra.high, rb.low, rb.high, rd.low, rd.high, e)))
    ∙ ap₂ (λ (x y : ℕ). x ∷ y ∷ (128 + c % 64) ∷ []) lead second ∙ ap (λ (x : ℕ). a ∷ b ∷ x ∷ []) third

pub utf8_three : (a b d : ℕ) → is_in_range 224 239 a ≡ true → is_second a b ≡ true → is_tail d ≡ true → IsUtf8 (a ∷ b ∷ d ∷ [])
utf8_three a b d h k m =
    let ra = within 224 239 a h in
    let s = second_is a b k in
    let rb : Within 128 191 b = record { low = s.low; high = s.high } in
    let rd = within 128 191 d m in
    let c : ℕ = (a - 224) * 4096 + (b - 128) * 64 + (d - 128) in
    let is : scalar ((a - 224) * 4096 + (b - 128) * 64 + (d - 128)) ≡ true = elim (cases_lt a 237) [
      | inl lt ↦ low_scalar ((a - 224) * 4096 + (b - 128) * 64 + (d - 128)) (omega (arith, ra.low, s.low, s.high, rd.low, rd.high, lt))
      | inr ge ↦ elim (cases_lt a 238) [
        | inl one ↦ let few : b ≤ 159 = s.surrogate (omega (arith, ge, one)) in low_scalar ((a - 224) * 4096 + (b - 128) * 64 + (d - 128)) (omega (arith, s.low, rd.low, rd.high, few, one, ge))
        | inr more ↦ high_scalar ((a - 224) * 4096 + (b - 128) * 64 + (d - 128)) (omega (arith, ra.high, s.low, s.high, rd.low, rd.high, more)) (omega (arith, ra.high, s.low, s.high, rd.low, rd.high, more))
      ]
    ] in
    subst IsUtf8 (three_code a b d ((a - 224) * 4096 + (b - 128) * 64 + (d - 128)) ra rb rd s.long_three refl) (IsUtf8-encode ((a - 224) * 4096 + (b - 128) * 64 + (d - 128)) is)

four_code : (a b d f c : ℕ) → Within 240 244 a → Within 128 191 b → Within 128 191 d → Within 128 191 f → (a ≡ 240 → 144 ≤ b)
    → c ≡ (a - 240) * 262144 + (b - 128) * 4096 + (d - 128) * 64 + (f - 128) → encode c ≡ a ∷ b ∷ d ∷ f ∷ []
unfolding encode
four_code a b d f c ra rb rd rf long e =
    let enough : 65536 ≤ c = elim (cases_lt a 241) [
      | inl h ↦ let low : 144 ≤ b = long (omega (arith, ra.low, h)) in omega (arith, ra.low, ra.high, rb.low, rb.high, rd.low, rd.high, rf.low, rf.high, low, e)
      | inr h ↦ omega (arith, ra.low, ra.high, rb.low, rb.high, rd.low, rd.high, rf.low, rf.high, h, e)
    ] in
    let lead : 240 + c / 262144 ≡ a = omega (arith, ra.low, ra.high, rb.low, rb.high, rd.low, rd.high, rf.low, rf.high, e) in
    let second : 128 + (c / 4096) % 64 ≡ b = omega (arith, ra.low, ra.high, rb.low, rb.high, rd.low, rd.high, rf.low, rf.high, e) in
    let third : 128 + (c / 64) % 64 ≡ d = omega (arith, ra.low, ra.high, rb.low, rb.high, rd.low, rd.high, rf.low, rf.high, e) in
    let last : 128 + c % 64 ≡ f = omega (arith, ra.low, ra.high, rb.low, rb.high, rd.low, rd.high, rf.low, rf.high, e) in
    take_no (nat_lt c 128) _ _ (above_test c 128 (omega (arith, enough))) ∙ take_no (nat_lt c 2048) _ _ (above_test c 2048 (omega (arith, enough)))
    ∙ take_no (nat_lt c 65536) _ _ (above_test c 65536 enough)
    ∙ ap₂ (λ (x y : ℕ). x ∷ y ∷ (128 + (c / 64) % 64) ∷ (128 + c % 64) ∷ []) lead second ∙ ap₂ (λ (x y : ℕ). a ∷ b ∷ x ∷ y ∷ []) third last

pub utf8_four : (a b d f : ℕ) → is_in_range 240 244 a ≡ true → is_second a b ≡ true → is_tail d ≡ true → is_tail f ≡ true → IsUtf8 (a ∷ b ∷ d ∷ f ∷ [])
utf8_four a b d f h k m n =
    let ra = within 240 244 a h in
    let s = second_is a b k in
    let rb : Within 128 191 b = record { low = s.low; high = s.high } in
    let rd = within 128 191 d m in
    let rf = within 128 191 f n in
    let few : (a - 240) * 262144 + (b - 128) * 4096 + (d - 128) * 64 + (f - 128) < 1114112 = elim (cases_lt a 244) [
      | inl lt ↦ omega (arith, ra.low, s.low, s.high, rd.low, rd.high, rf.low, rf.high, lt)
      | inr ge ↦ let end : b ≤ 143 = s.past_end (omega (arith, ra.high, ge)) in omega (arith, ra.high, s.low, rd.low, rd.high, rf.low, rf.high, ge, end)
    ] in
    let enough : 65536 ≤ (a - 240) * 262144 + (b - 128) * 4096 + (d - 128) * 64 + (f - 128) = elim (cases_lt a 241) [
      | inl lt ↦ let low : 144 ≤ b = s.long_four (omega (arith, ra.low, lt)) in omega (arith, ra.low, s.high, rd.low, rd.high, rf.low, rf.high, low, lt)
      | inr ge ↦ omega (arith, ra.high, s.low, s.high, rd.low, rd.high, rf.low, rf.high, ge)
    ] in
    subst IsUtf8 (four_code a b d f ((a - 240) * 262144 + (b - 128) * 4096 + (d - 128) * 64 + (f - 128)) ra rb rd rf s.long_four refl)
    (IsUtf8-encode ((a - 240) * 262144 + (b - 128) * 4096 + (d - 128) * 64 + (f - 128)) (high_scalar ((a - 240) * 262144 + (b - 128) * 4096 + (d - 128) * 64 + (f - 128)) (omega (arith, enough)) few))
