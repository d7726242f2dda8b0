-- A character that is read is lawful and has its bytes, and a lawful one is read.
use Rattle.std.proofs.Common.{◌≡◌, ℕ, zero, suc, ◌+◌, ◌-◌, ◌<◌, ◌≤◌, ◌&&◌, ◌==◌, Bool, true, false, cond, List, [], ◌∷◌, ◌++◌, length, get_or, Ok, Err, refl, sym, ap, subst, ◌∙◌, inl, inr, arith, append_assoc}
use Rattle.std.proofs.lemmas.Bool.{and_from, and_parts}
use Rattle.std.proofs.lemmas.List.{length-append}
use Rattle.std.specs.Int.{is_in_range}
use Rattle.std.specs.List.{list_all}
use Rattle.gl_json.specs.declared.bytes.Stop.{Stop}
use Rattle.gl_json.specs.declared.bytes.Stop.TheVariants.{At}
use Rattle.gl_json.specs.declared.chars.Char.{Char}
use Rattle.gl_json.specs.declared.chars.Char.TheVariants.{One, Two, Three, Four, Escape, Unicode}
use Rattle.gl_json.specs.Chars.{char_bytes, is_tail, is_second, is_plain, is_escape, is_hex, is_char, AreChars, inside}
use Rattle.gl_json.specs.JsonReading.{◌>>=◌, Read, past, one_at, unicode_at, escape_at, two_at, three_at, four_at, char_at, chars_end, string_at, sign_at, before}
use Rattle.gl_json.proofs.Taking.{bound, goes_on, ok_is, split, one_sound, one_complete, before_is, past_is}

pub record IsRead (bytes : List ℕ) (y : Char × List ℕ) : Type 0 where
  pub is : is_char y.0 ≡ true
  pub text : bytes ≡ char_bytes y.0 ++ y.1

two_sound : (a : ℕ) (bytes : List ℕ) (y : Char × List ℕ) → is_in_range 194 223 a ≡ true → two_at a bytes ≡ Ok y → IsRead (a ∷ bytes) y
unfolding two_at
two_sound a bytes y h e =
    let p = bound (one_at is_tail bytes) (λ b. Ok (Two a b.0, b.1)) y e in
    let b = one_sound is_tail bytes p.0 p.1 in
    subst (IsRead (a ∷ bytes)) (ok_is (Two a p.0.0, p.0.1) y p.2)
    (record { is = and_from (is_in_range 194 223 a) (is_tail p.0.0) h b.0; text = ap (λ (l : List ℕ). a ∷ l) b.1 })

three_sound : (a : ℕ) (bytes : List ℕ) (y : Char × List ℕ) → is_in_range 224 239 a ≡ true → three_at a bytes ≡ Ok y → IsRead (a ∷ bytes) y
unfolding three_at
three_sound a bytes y h e =
    let p = bound (one_at (is_second a) bytes) (λ b. one_at is_tail b.1 >>= (λ c. Ok (Three a b.0 c.0, c.1))) y e in
    let b = one_sound (is_second a) bytes p.0 p.1 in
    let q = bound (one_at is_tail p.0.1) (λ c. Ok (Three a p.0.0 c.0, c.1)) y p.2 in
    let c = one_sound is_tail p.0.1 q.0 q.1 in
    subst (IsRead (a ∷ bytes)) (ok_is (Three a p.0.0 q.0.0, q.0.1) y q.2)
    (record {
      is = and_from (is_in_range 224 239 a && is_second a p.0.0) (is_tail q.0.0) (and_from (is_in_range 224 239 a) (is_second a p.0.0) h b.0) c.0;
      text = ap (λ (l : List ℕ). a ∷ l) (b.1 ∙ ap (λ (l : List ℕ). p.0.0 ∷ l) c.1);
    })

four_sound : (a : ℕ) (bytes : List ℕ) (y : Char × List ℕ) → is_in_range 240 244 a ≡ true → four_at a bytes ≡ Ok y → IsRead (a ∷ bytes) y
unfolding four_at
four_sound a bytes y h e =
    let p = bound (one_at (is_second a) bytes) (λ b. one_at is_tail b.1 >>= (λ c. one_at is_tail c.1 >>= (λ d. Ok (Four a b.0 c.0 d.0, d.1)))) y e in
    let b = one_sound (is_second a) bytes p.0 p.1 in
    let q = bound (one_at is_tail p.0.1) (λ c. one_at is_tail c.1 >>= (λ d. Ok (Four a p.0.0 c.0 d.0, d.1))) y p.2 in
    let c = one_sound is_tail p.0.1 q.0 q.1 in
    let r = bound (one_at is_tail q.0.1) (λ d. Ok (Four a p.0.0 q.0.0 d.0, d.1)) y q.2 in
    let d = one_sound is_tail q.0.1 r.0 r.1 in
    subst (IsRead (a ∷ bytes)) (ok_is (Four a p.0.0 q.0.0 r.0.0, r.0.1) y r.2)
    (record {
      is = and_from (is_in_range 240 244 a && is_second a p.0.0 && is_tail q.0.0) (is_tail r.0.0)
          (and_from (is_in_range 240 244 a && is_second a p.0.0) (is_tail q.0.0) (and_from (is_in_range 240 244 a) (is_second a p.0.0) h b.0) c.0) d.0;
      text = ap (λ (l : List ℕ). a ∷ l) (b.1 ∙ ap (λ (l : List ℕ). p.0.0 ∷ l) (c.1 ∙ ap (λ (l : List ℕ). q.0.0 ∷ l) d.1));
    })

unicode_sound : (bytes : List ℕ) (y : Char × List ℕ) → unicode_at bytes ≡ Ok y → IsRead (92 ∷ 117 ∷ bytes) y
unfolding unicode_at
unicode_sound bytes y e =
    let p = bound (one_at is_hex bytes) (λ a. one_at is_hex a.1 >>= (λ b. one_at is_hex b.1 >>= (λ c. one_at is_hex c.1 >>= (λ d. Ok (Unicode a.0 b.0 c.0 d.0, d.1))))) y e in
    let a = one_sound is_hex bytes p.0 p.1 in
    let q = bound (one_at is_hex p.0.1) (λ b. one_at is_hex b.1 >>= (λ c. one_at is_hex c.1 >>= (λ d. Ok (Unicode p.0.0 b.0 c.0 d.0, d.1)))) y p.2 in
    let b = one_sound is_hex p.0.1 q.0 q.1 in
    let r = bound (one_at is_hex q.0.1) (λ c. one_at is_hex c.1 >>= (λ d. Ok (Unicode p.0.0 q.0.0 c.0 d.0, d.1))) y q.2 in
    let c = one_sound is_hex q.0.1 r.0 r.1 in
    let s = bound (one_at is_hex r.0.1) (λ d. Ok (Unicode p.0.0 q.0.0 r.0.0 d.0, d.1)) y r.2 in
    let d = one_sound is_hex r.0.1 s.0 s.1 in
    subst (IsRead (92 ∷ 117 ∷ bytes)) (ok_is (Unicode p.0.0 q.0.0 r.0.0 s.0.0, s.0.1) y s.2)
    (record {
      is = and_from (is_hex p.0.0 && is_hex q.0.0 && is_hex r.0.0) (is_hex s.0.0)
          (and_from (is_hex p.0.0 && is_hex q.0.0) (is_hex r.0.0) (and_from (is_hex p.0.0) (is_hex q.0.0) a.0 b.0) c.0) d.0;
      text = ap (λ (l : List ℕ). 92 ∷ 117 ∷ l) (a.1 ∙ ap (λ (l : List ℕ). p.0.0 ∷ l) (b.1 ∙ ap (λ (l : List ℕ). q.0.0 ∷ l) (c.1 ∙ ap (λ (l : List ℕ). r.0.0 ∷ l) d.1)));
    })

pub eq_is : (a b : ℕ) → (a == b) ≡ true → a ≡ b
eq_is a b h = grind arith

escape_sound : (bytes : List ℕ) (y : Char × List ℕ) → escape_at bytes ≡ Ok y → IsRead (92 ∷ bytes) y
unfolding escape_at
escape_sound [] y e = absurd cc
escape_sound (b ∷ rest) y e = elim (split (is_escape b) (Ok (Escape b, rest)) (cond (b == 117) (unicode_at rest) (Err (At (length (b ∷ rest))))) (Ok y) e) [
  | inl h ↦ subst (IsRead (92 ∷ b ∷ rest)) (ok_is (Escape b, rest) y h.1) (record { is = h.0; text = refl })
  | inr h ↦ elim (split (b == 117) (unicode_at rest) (Err (At (length (b ∷ rest)))) (Ok y) h.1) [
    | inl k ↦ let u : 117 ≡ b = sym (eq_is b 117 k.0) in subst (λ (x : ℕ). IsRead (92 ∷ x ∷ rest) y) u (unicode_sound rest y k.1)
    | inr k ↦ absurd (let f = k.1 in cc)
  ]
]

pub char_sound : (bytes : List ℕ) (y : Char × List ℕ) → char_at bytes ≡ Ok y → IsRead bytes y
unfolding char_at
char_sound [] y e = absurd cc
char_sound (a ∷ rest) y e = elim (split (a == 92) (escape_at rest) _ (Ok y) e) [
  | inl h ↦ let u : 92 ≡ a = sym (eq_is a 92 h.0) in subst (λ (x : ℕ). IsRead (x ∷ rest) y) u (escape_sound rest y h.1)
  | inr h ↦ elim (split (is_plain a) (Ok (One a, rest)) _ (Ok y) h.1) [
    | inl k ↦ subst (IsRead (a ∷ rest)) (ok_is (One a, rest) y k.1) (record { is = k.0; text = refl })
    | inr k ↦ elim (split (is_in_range 194 223 a) (two_at a rest) _ (Ok y) k.1) [
      | inl m ↦ two_sound a rest y m.0 m.1
      | inr m ↦ elim (split (is_in_range 224 239 a) (three_at a rest) _ (Ok y) m.1) [
        | inl n ↦ three_sound a rest y n.0 n.1
        | inr n ↦ elim (split (is_in_range 240 244 a) (four_at a rest) _ (Ok y) n.1) [
          | inl o ↦ four_sound a rest y o.0 o.1
          | inr o ↦ absurd (let f = o.1 in cc)
        ]
      ]
    ]
  ]
]

pub take_yes : {A : Type 0} (b : Bool) (x y : A) → b ≡ true → cond b x y ≡ x
take_yes b x y h = rw h refl

pub take_no : {A : Type 0} (b : Bool) (x y : A) → b ≡ false → cond b x y ≡ y
take_no b x y h = rw h refl

plain_no_escape : (a : ℕ) → is_plain a ≡ true → (a == 92) ≡ false
plain_no_escape a h = grind arith

pub plain_no_quote : (a : ℕ) → is_plain a ≡ true → (a == 34) ≡ false
plain_no_quote a h = grind arith

long_no_escape : (a : ℕ) → 128 ≤ a → (a == 92) ≡ false
long_no_escape a h = grind arith

long_no_quote : (a : ℕ) → 128 ≤ a → (a == 34) ≡ false
long_no_quote a h = grind arith

long_no_plain : (a : ℕ) → 128 ≤ a → is_plain a ≡ false
long_no_plain a h = grind arith

two_long : (a : ℕ) → is_in_range 194 223 a ≡ true → 128 ≤ a
two_long a h = grind arith

three_long : (a : ℕ) → is_in_range 224 239 a ≡ true → 128 ≤ a
three_long a h = grind arith

four_long : (a : ℕ) → is_in_range 240 244 a ≡ true → 128 ≤ a
four_long a h = grind arith

three_not_two : (a : ℕ) → is_in_range 224 239 a ≡ true → is_in_range 194 223 a ≡ false
three_not_two a h = grind arith

four_not_two : (a : ℕ) → is_in_range 240 244 a ≡ true → is_in_range 194 223 a ≡ false
four_not_two a h = grind arith

four_not_three : (a : ℕ) → is_in_range 240 244 a ≡ true → is_in_range 224 239 a ≡ false
four_not_three a h = grind arith

escape_not_u : is_escape 117 ≡ false
escape_not_u = refl

two_complete : (a b : ℕ) (rest : List ℕ) → is_tail b ≡ true → two_at a (b ∷ rest) ≡ Ok (Two a b, rest)
unfolding two_at
two_complete a b rest h = goes_on (one_at is_tail (b ∷ rest)) (λ b. Ok (Two a b.0, b.1)) (b, rest) (one_complete is_tail b rest h)

three_complete : (a b c : ℕ) (rest : List ℕ) → is_second a b ≡ true → is_tail c ≡ true → three_at a (b ∷ c ∷ rest) ≡ Ok (Three a b c, rest)
unfolding three_at
three_complete a b c rest h k =
    goes_on (one_at (is_second a) (b ∷ c ∷ rest)) (λ b. one_at is_tail b.1 >>= (λ c. Ok (Three a b.0 c.0, c.1))) (b, c ∷ rest) (one_complete (is_second a) b (c ∷ rest) h)
    ∙ goes_on (one_at is_tail (c ∷ rest)) (λ c. Ok (Three a b c.0, c.1)) (c, rest) (one_complete is_tail c rest k)

four_complete : (a b c d : ℕ) (rest : List ℕ) → is_second a b ≡ true → is_tail c ≡ true → is_tail d ≡ true → four_at a (b ∷ c ∷ d ∷ rest) ≡ Ok (Four a b c d, rest)
unfolding four_at
four_complete a b c d rest h k m =
    goes_on (one_at (is_second a) (b ∷ c ∷ d ∷ rest)) (λ b. one_at is_tail b.1 >>= (λ c. one_at is_tail c.1 >>= (λ d. Ok (Four a b.0 c.0 d.0, d.1)))) (b, c ∷ d ∷ rest) (one_complete (is_second a) b (c ∷ d ∷ rest) h)
    ∙ goes_on (one_at is_tail (c ∷ d ∷ rest)) (λ c. one_at is_tail c.1 >>= (λ d. Ok (Four a b c.0 d.0, d.1))) (c, d ∷ rest) (one_complete is_tail c (d ∷ rest) k)
    ∙ goes_on (one_at is_tail (d ∷ rest)) (λ d. Ok (Four a b c d.0, d.1)) (d, rest) (one_complete is_tail d rest m)

unicode_complete : (a b c d : ℕ) (rest : List ℕ) → is_hex a ≡ true → is_hex b ≡ true → is_hex c ≡ true → is_hex d ≡ true → unicode_at (a ∷ b ∷ c ∷ d ∷ rest) ≡ Ok (Unicode a b c d, rest)
unfolding unicode_at
unicode_complete a b c d rest h k m n =
    goes_on (one_at is_hex (a ∷ b ∷ c ∷ d ∷ rest)) (λ a. one_at is_hex a.1 >>= (λ b. one_at is_hex b.1 >>= (λ c. one_at is_hex c.1 >>= (λ d. Ok (Unicode a.0 b.0 c.0 d.0, d.1))))) (a, b ∷ c ∷ d ∷ rest) (one_complete is_hex a (b ∷ c ∷ d ∷ rest) h)
    ∙ goes_on (one_at is_hex (b ∷ c ∷ d ∷ rest)) (λ b. one_at is_hex b.1 >>= (λ c. one_at is_hex c.1 >>= (λ d. Ok (Unicode a b.0 c.0 d.0, d.1)))) (b, c ∷ d ∷ rest) (one_complete is_hex b (c ∷ d ∷ rest) k)
    ∙ goes_on (one_at is_hex (c ∷ d ∷ rest)) (λ c. one_at is_hex c.1 >>= (λ d. Ok (Unicode a b c.0 d.0, d.1))) (c, d ∷ rest) (one_complete is_hex c (d ∷ rest) m)
    ∙ goes_on (one_at is_hex (d ∷ rest)) (λ d. Ok (Unicode a b c d.0, d.1)) (d, rest) (one_complete is_hex d rest n)

pub char_complete : (c : Char) (rest : List ℕ) → is_char c ≡ true → char_at (char_bytes c ++ rest) ≡ Ok (c, rest)
unfolding char_at escape_at
char_complete (One a) rest h = take_no (a == 92) _ _ (plain_no_escape a h) ∙ take_yes (is_plain a) _ _ h
char_complete (Two a b) rest h =
    let p = and_parts (is_in_range 194 223 a) (is_tail b) h in
    let long = two_long a p.0 in
    take_no (a == 92) _ _ (long_no_escape a long) ∙ take_no (is_plain a) _ _ (long_no_plain a long) ∙ take_yes (is_in_range 194 223 a) _ _ p.0 ∙ two_complete a b rest p.1
char_complete (Three a b c) rest h =
    let p = and_parts (is_in_range 224 239 a && is_second a b) (is_tail c) h in
    let q = and_parts (is_in_range 224 239 a) (is_second a b) p.0 in
    let long = three_long a q.0 in
    take_no (a == 92) _ _ (long_no_escape a long) ∙ take_no (is_plain a) _ _ (long_no_plain a long) ∙ take_no (is_in_range 194 223 a) _ _ (three_not_two a q.0)
    ∙ take_yes (is_in_range 224 239 a) _ _ q.0 ∙ three_complete a b c rest q.1 p.1
char_complete (Four a b c d) rest h =
    let o = and_parts (is_in_range 240 244 a && is_second a b && is_tail c) (is_tail d) h in
    let p = and_parts (is_in_range 240 244 a && is_second a b) (is_tail c) o.0 in
    let q = and_parts (is_in_range 240 244 a) (is_second a b) p.0 in
    let long = four_long a q.0 in
    take_no (a == 92) _ _ (long_no_escape a long) ∙ take_no (is_plain a) _ _ (long_no_plain a long) ∙ take_no (is_in_range 194 223 a) _ _ (four_not_two a q.0)
    ∙ take_no (is_in_range 224 239 a) _ _ (four_not_three a q.0) ∙ take_yes (is_in_range 240 244 a) _ _ q.0 ∙ four_complete a b c d rest q.1 p.1 o.1
char_complete (Escape b) rest h = rw h refl
char_complete (Unicode a b c d) rest h =
    let o = and_parts (is_hex a && is_hex b && is_hex c) (is_hex d) h in
    let p = and_parts (is_hex a && is_hex b) (is_hex c) o.0 in
    let q = and_parts (is_hex a) (is_hex b) p.0 in
    unicode_complete a b c d rest q.0 q.1 p.1 o.1

-- no character begins with a quote
pub no_quote : (c : Char) (rest : List ℕ) → is_char c ≡ true → get_or (char_bytes c ++ rest) 0 0 == 34 ≡ false
no_quote (One a) rest h = plain_no_quote a h
no_quote (Two a b) rest h = long_no_quote a (two_long a (and_parts (is_in_range 194 223 a) (is_tail b) h).0)
no_quote (Three a b c) rest h = long_no_quote a (three_long a (and_parts (is_in_range 224 239 a) (is_second a b) (and_parts (is_in_range 224 239 a && is_second a b) (is_tail c) h).0).0)
no_quote (Four a b c d) rest h =
    let o = and_parts (is_in_range 240 244 a && is_second a b && is_tail c) (is_tail d) h in
    let p = and_parts (is_in_range 240 244 a && is_second a b) (is_tail c) o.0 in
    long_no_quote a (four_long a (and_parts (is_in_range 240 244 a) (is_second a b) p.0).0)
no_quote (Escape b) rest h = refl
no_quote (Unicode a b c d) rest h = refl

pub char_some : (c : Char) → 0 < length (char_bytes c)
char_some (One a) = omega arith
char_some (Two a b) = omega arith
char_some (Three a b c) = omega arith
char_some (Four a b c d) = omega arith
char_some (Escape b) = omega arith
char_some (Unicode a b c d) = omega arith

pub char_shorter : (bytes : List ℕ) (y : Char × List ℕ) → char_at bytes ≡ Ok y → length y.1 < length bytes
char_shorter bytes y e =
    let r = char_sound bytes y e in
    let n : length bytes ≡ length (char_bytes y.0) + length y.1 = ap length r.text ∙ length-append (char_bytes y.0) y.1 in
    omega (arith, n, char_some y.0)

-- one turn, behind the first byte
pub turn_quote : (n : ℕ) (bytes : List ℕ) → 0 < length bytes → length bytes ≤ n → get_or bytes 0 0 == 34 ≡ true → chars_end n bytes ≡ Ok bytes
unfolding chars_end
turn_quote n [] some enough h = absurd (omega arith)
turn_quote zero (b ∷ bytes) some enough h = absurd (omega arith)
turn_quote (suc n) (b ∷ bytes) some enough h = take_yes (b == 34) _ _ h

pub turn_goes : (n : ℕ) (bytes : List ℕ) → 0 < length bytes → length bytes ≤ n → get_or bytes 0 0 == 34 ≡ false → chars_end n bytes ≡ (char_at bytes >>= (λ c. chars_end (n - 1) c.1))
unfolding chars_end
turn_goes n [] some enough h = absurd (omega arith)
turn_goes zero (b ∷ bytes) some enough h = absurd (omega arith)
turn_goes (suc n) (b ∷ bytes) some enough h = let one : suc n - 1 ≡ n = omega arith in rw one (take_no (b == 34) _ _ h)

pub turn_none : (n : ℕ) (bytes : List ℕ) → length bytes ≡ 0 → chars_end n bytes ≡ Ok bytes
unfolding chars_end
turn_none zero [] h = refl
turn_none (suc n) [] h = refl
turn_none n (b ∷ bytes) h = absurd (omega arith)

-- the loop's turns so far
pub record Goes (bytes rest : List ℕ) : Type 0 where
  pub turns : ℕ
  pub enough : length rest ≤ turns
  pub same : chars_end turns rest ≡ chars_end (length bytes) bytes

pub end_quote : (bytes rest : List ℕ) → Goes bytes rest → 0 < length rest → get_or rest 0 0 == 34 ≡ true → chars_end (length bytes) bytes ≡ Ok rest
end_quote bytes rest g some h = sym g.same ∙ turn_quote g.turns rest some g.enough h

pub end_none : (bytes rest : List ℕ) → Goes bytes rest → length rest ≡ 0 → chars_end (length bytes) bytes ≡ Ok rest
end_none bytes rest g h = sym g.same ∙ turn_none g.turns rest h

pub end_stop : (bytes rest : List ℕ) (s : Stop) → Goes bytes rest → 0 < length rest → get_or rest 0 0 == 34 ≡ false → char_at rest ≡ Err s → chars_end (length bytes) bytes ≡ Err s
end_stop bytes rest s g some h e = sym g.same ∙ turn_goes g.turns rest some g.enough h ∙ ap (λ (r : Read Char). r >>= (λ c. chars_end (g.turns - 1) c.1)) e

pub end_goes : (bytes rest : List ℕ) (y : Char × List ℕ) → Goes bytes rest → 0 < length rest → get_or rest 0 0 == 34 ≡ false → char_at rest ≡ Ok y → Goes bytes y.1
end_goes bytes rest y g some h e = record {
  turns = g.turns - 1;
  enough = omega (arith, char_shorter rest y e, g.enough);
  same = sym (turn_goes g.turns rest some g.enough h ∙ goes_on (char_at rest) (λ c. chars_end (g.turns - 1) c.1) y e) ∙ g.same;
}

-- plain bytes are passed over

plain_turn : (bytes : List ℕ) (b : ℕ) (rest : List ℕ) (t : Bool) → is_plain b ≡ t → (Goes bytes rest → Goes bytes (past is_plain rest)) → Goes bytes (b ∷ rest) → Goes bytes (past is_plain (b ∷ rest))
unfolding past
plain_turn bytes b rest true h past_rest g =
    subst (Goes bytes) (sym (take_yes (is_plain b) (past is_plain rest) (b ∷ rest) h))
    (past_rest (end_goes bytes (b ∷ rest) (One b, rest) g (omega arith) (plain_no_quote b h) (char_complete (One b) rest h)))
plain_turn bytes b rest false h past_rest g = subst (Goes bytes) (sym (take_no (is_plain b) (past is_plain rest) (b ∷ rest) h)) g

pub goes_starts : (bytes : List ℕ) → Goes bytes bytes
goes_starts bytes = record { turns = length bytes; enough = omega arith; same = refl }

pub goes_past : (bytes rest : List ℕ) → Goes bytes rest → Goes bytes (past is_plain rest)
unfolding past
goes_past bytes [] g = g
goes_past bytes (b ∷ rest) g = plain_turn bytes b rest (is_plain b) refl (goes_past bytes rest) g

past_few : (bytes : List ℕ) → length (past is_plain bytes) ≤ length bytes
past_few bytes = let p = past_is is_plain bytes in omega (arith, ap length p.text, length-append p.front (past is_plain bytes))

pub past_shorter : (bytes : List ℕ) (y : Char × List ℕ) → char_at bytes ≡ Ok y → length (past is_plain y.1) < length bytes
past_shorter bytes y e = omega (arith, past_few y.1, char_shorter bytes y e)

-- the characters of a string

pub record CharsEnd (bytes rest : List ℕ) : Type 0 where
  pub cs : List Char
  pub are : AreChars cs
  pub text : bytes ≡ inside cs ++ rest

chars_more : (bytes rest : List ℕ) (y : Char × List ℕ) → IsRead bytes y → CharsEnd y.1 rest → CharsEnd bytes rest
chars_more bytes rest y r e = record {
  cs = y.0 ∷ e.cs;
  are = and_from (is_char y.0) (list_all is_char e.cs) r.is e.are;
  text = r.text ∙ ap (λ (l : List ℕ). char_bytes y.0 ++ l) e.text ∙ sym (append_assoc (char_bytes y.0) (inside e.cs) rest);
}

pub chars_sound : (n : ℕ) (bytes rest : List ℕ) → chars_end n bytes ≡ Ok rest → CharsEnd bytes rest
unfolding chars_end
chars_sound zero [] rest e = record { cs = []; are = refl; text = ok_is [] rest e }
chars_sound (suc n) [] rest e = record { cs = []; are = refl; text = ok_is [] rest e }
chars_sound zero (b ∷ bytes) rest e = absurd cc
chars_sound (suc n) (b ∷ bytes) rest e = elim (split (b == 34) (Ok (b ∷ bytes)) _ (Ok rest) e) [
  | inl h ↦ record { cs = []; are = refl; text = ok_is (b ∷ bytes) rest h.1 }
  | inr h ↦
      let p = bound (char_at (b ∷ bytes)) (λ c. chars_end n c.1) rest h.1 in
      chars_more (b ∷ bytes) rest p.0 (char_sound (b ∷ bytes) p.0 p.1) (chars_sound n p.0.1 rest p.2)
]

-- a quote stands there, or nothing
abbrev pub ends_string : List ℕ → Bool
ends_string [] = true
ends_string (b ∷ rest) = b == 34

pub chars_complete : (cs : List Char) (n : ℕ) (rest : List ℕ) → AreChars cs → length (inside cs ++ rest) ≤ n → ends_string rest ≡ true → chars_end n (inside cs ++ rest) ≡ Ok rest
chars_complete [] n [] are enough h = turn_none n [] refl
chars_complete [] n (b ∷ rest) are enough h = turn_quote n (b ∷ rest) (omega arith) enough h
chars_complete (c ∷ cs) n rest are enough h =
    let p = and_parts (is_char c) (list_all is_char cs) are in
    let group : (char_bytes c ++ inside cs) ++ rest ≡ char_bytes c ++ (inside cs ++ rest) = append_assoc (char_bytes c) (inside cs) rest in
    let len : length ((char_bytes c ++ inside cs) ++ rest) ≡ length (char_bytes c) + length (inside cs ++ rest) = ap length group ∙ length-append (char_bytes c) (inside cs ++ rest) in
    let some : 0 < length (char_bytes c ++ (inside cs ++ rest)) = omega (arith, len, ap length group, char_some c) in
    let few : length (char_bytes c ++ (inside cs ++ rest)) ≤ n = omega (arith, ap length group) in
    let left : length (inside cs ++ rest) ≤ n - 1 = omega (arith, len, char_some c) in
    ap (chars_end n) group ∙ turn_goes n (char_bytes c ++ (inside cs ++ rest)) some few (no_quote c (inside cs ++ rest) p.0)
    ∙ goes_on (char_at (char_bytes c ++ (inside cs ++ rest))) (λ d. chars_end (n - 1) d.1) (c, inside cs ++ rest) (char_complete c (inside cs ++ rest) p.0)
    ∙ chars_complete cs (n - 1) rest p.1 left h

-- a string behind its first quote

pub record IsString (bytes : List ℕ) (y : List ℕ × List ℕ) : Type 0 where
  pub cs : List Char
  pub are : AreChars cs
  pub inside_is : y.0 ≡ inside cs
  pub text : bytes ≡ inside cs ++ 34 ∷ y.1

pub string_sound : (bytes : List ℕ) (y : List ℕ × List ℕ) → string_at bytes ≡ Ok y → IsString bytes y
unfolding string_at
string_sound bytes y e =
    let p = bound (chars_end (length bytes) bytes) (λ rest. sign_at 34 rest >>= (λ quote. Ok (before rest bytes, quote.1))) y e in
    let q = bound (sign_at 34 p.0) (λ quote. Ok (before p.0 bytes, quote.1)) y p.2 in
    let s = chars_sound (length bytes) bytes p.0 p.1 in
    let o = one_sound (λ b. b == 34) p.0 q.0 q.1 in
    let quote : q.0.0 ≡ 34 = eq_is q.0.0 34 o.0 in
    let whole : bytes ≡ inside s.cs ++ 34 ∷ q.0.1 = s.text ∙ ap (λ (l : List ℕ). inside s.cs ++ l) (o.1 ∙ ap (λ (b : ℕ). b ∷ q.0.1) quote) in
    let front : before p.0 bytes ≡ inside s.cs = ap (before p.0) s.text ∙ before_is (inside s.cs) p.0 in
    subst (IsString bytes) (ok_is (before p.0 bytes, q.0.1) y q.2) (record { cs = s.cs; are = s.are; inside_is = front; text = whole })

pub string_complete : (cs : List Char) (rest : List ℕ) → AreChars cs → string_at (inside cs ++ 34 ∷ rest) ≡ Ok (inside cs, rest)
unfolding string_at
string_complete cs rest are =
    let bytes : List ℕ = inside cs ++ 34 ∷ rest in
    goes_on (chars_end (length (inside cs ++ 34 ∷ rest)) (inside cs ++ 34 ∷ rest)) (λ l. sign_at 34 l >>= (λ quote. Ok (before l (inside cs ++ 34 ∷ rest), quote.1))) (34 ∷ rest)
    (chars_complete cs (length (inside cs ++ 34 ∷ rest)) (34 ∷ rest) are (omega arith) refl)
    ∙ goes_on (sign_at 34 (34 ∷ rest)) (λ quote. Ok (before (34 ∷ rest) (inside cs ++ 34 ∷ rest), quote.1)) (34, rest) (one_complete (λ b. b == 34) 34 rest refl)
    ∙ ap (λ (l : List ℕ). Ok (l, rest)) (before_is (inside cs) (34 ∷ rest))
