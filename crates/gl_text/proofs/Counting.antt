-- Characters counted from the front, and the bytes that they have.
use Rattle.std.proofs.Common.{◌≡◌, ℕ, zero, suc, ◌+◌, ◌-◌, ◌<◌, ◌≤◌, cond, List, [], ◌∷◌, ◌++◌, length, take, drop, Option, Some, None, IsUtf8, IsCharBoundary, encode_utf8, encode_utf8_all, chars, nat_le, sym, ap, ◌∙◌, subst, arith, append_assoc, append-nil, length-append}
use Rattle.std.proofs.lemmas.Str.{chars_past_char, encodes-append, IsUtf8-past_char, IsCharBoundary-at_seam}
use Rattle.std.proofs.lemmas.Option.{cond_some}
use Rattle.gl_text.specs.Texts.{bytes_of}

-- so many characters of the text stand before the rest
pub record Ahead (text rest : List ℕ) (passed : ℕ) : Type 0 where
  pub split : encode_utf8_all (take passed (chars text)) ++ rest ≡ text
  pub left : chars rest ≡ drop passed (chars text)
  pub utf8 : IsUtf8 rest
  pub within : passed ≤ length (chars text)

record Head (cs : List ℕ) (n c : ℕ) (rest : List ℕ) : Type 0 where
  less : n < length cs
  front : take (suc n) cs ≡ take n cs ++ c ∷ []
  behind : drop (suc n) cs ≡ rest

head_of : (cs : List ℕ) (n c : ℕ) (rest : List ℕ) → drop n cs ≡ c ∷ rest → Head cs n c rest
head_of [] zero c rest h = cc h
head_of [] (suc n) c rest h = cc h
head_of (x ∷ xs) zero c rest h = record { less = omega arith; front = cc h; behind = cc h }
head_of (x ∷ xs) (suc n) c rest h =
    let r = head_of xs n c rest h in
    record { less = omega (arith, r.less); front = ap (λ t. x ∷ t) r.front; behind = r.behind }

pub one_more : (text rest next : List ℕ) (passed c : ℕ) → Ahead text rest passed → rest ≡ encode_utf8 c ++ next → Ahead text next (passed + 1)
one_more text rest next passed c a e =
    let cs = chars text in
    let head = head_of cs passed c (chars next) (sym a.left ∙ chars_past_char rest next c a.utf8 e) in
    let more : passed + 1 ≡ suc passed = omega arith in
    record {
      split =
          ap (λ n. encode_utf8_all (take n cs) ++ next) more
          ∙ ap (λ t. encode_utf8_all t ++ next) head.front
          ∙ ap (λ t. t ++ next) (encodes-append (take passed cs) (c ∷ []))
          ∙ ap (λ t. encode_utf8_all (take passed cs) ++ t ++ next) (append-nil (encode_utf8 c))
          ∙ append_assoc (encode_utf8_all (take passed cs)) (encode_utf8 c) next
          ∙ ap (λ t. encode_utf8_all (take passed cs) ++ t) (sym e)
          ∙ a.split;
      left = sym head.behind ∙ ap (λ n. drop n cs) (sym more);
      utf8 = IsUtf8-past_char rest next c a.utf8 e;
      within = omega (arith, head.less);
    }

len_before : (text rest : List ℕ) (passed : ℕ) → Ahead text rest passed → length text - length rest ≡ bytes_of passed text
len_before text rest passed a = omega (arith, length-append (encode_utf8_all (take passed (chars text))) rest, ap length a.split)

pub cut_before : (text rest : List ℕ) (passed : ℕ) → Ahead text rest passed → IsCharBoundary text (length text - length rest)
cut_before text rest passed a =
    subst (IsCharBoundary text) (sym (len_before text rest passed a))
    (IsCharBoundary-at_seam text (encode_utf8_all (take passed (chars text))) rest (sym a.split) a.utf8)

bytes_rise : (m n : ℕ) (cs : List ℕ) → m ≤ n → length (encode_utf8_all (take m cs)) ≤ length (encode_utf8_all (take n cs))
bytes_rise zero n cs h = omega arith
bytes_rise (suc m) zero cs h = absurd (omega arith)
bytes_rise (suc m) (suc n) [] h = omega arith
bytes_rise (suc m) (suc n) (c ∷ cs) h =
    omega (arith, bytes_rise m n cs (omega arith), length-append (encode_utf8 c) (encode_utf8_all (take m cs)), length-append (encode_utf8 c) (encode_utf8_all (take n cs)))

-- how a count of bytes is answered
abbrev counted : ℕ → List ℕ → Option ℕ
counted count text = cond (nat_le count (length (chars text))) (Some (bytes_of count text)) None

pub in_order : (begin end first last : ℕ) (text : List ℕ) → begin < end → Some last ≡ counted end text → Some first ≡ counted begin text → first ≤ last
in_order begin end first last text less h k =
    let e = cond_some (nat_le end (length (chars text))) (bytes_of end text) last (sym h) in
    let b = cond_some (nat_le begin (length (chars text))) (bytes_of begin text) first (sym k) in
    omega (arith, e.1, b.1, bytes_rise begin end (chars text) (omega arith))
