-- What is cut from UTF-8 at ASCII bytes is UTF-8, and so is what is written with ASCII bytes more or less (RFC 3629).
use Rattle.std.proofs.Common.{◌≡◌, ℕ, zero, suc, ◌<◌, ◌==◌, Bool, true, false, cond, not, ◌&&◌, ◌||◌, List, [], ◌∷◌, ◌++◌, length, get_or, codes, refl, sym, ap, ◌∙◌, subst, arith, append_assoc, add-zero}
use Rattle.std.specs.Str.{IsUtf8, IsCharBoundary}
use Rattle.std.specs.List.{flat_map}
use Rattle.std.proofs.lemmas.Str.{IsUtf8-append, IsUtf8-nil, IsUtf8-take, IsUtf8-drop, IsUtf8-from_ascii, IsCharBoundary-before_ascii, IsCharBoundary-after_ascii}
use Rattle.std.proofs.lemmas.List.{take-append-le, drop-append-le, get_or-append-add, take_all, drop_all, length-append}
use Rattle.std.proofs.lemmas.Bool.Decides.{nat_tests}
use Rattle.gl_query.specs.declared.term.Piece.TheVariants.{Byte, AnyRun, AnyOne}
use Rattle.gl_query.specs.Tokens.{ends_word}
use Rattle.gl_query.specs.Words.{plain, piece_of, pieces}
use Rattle.gl_query.specs.Printing.{spelled, name_byte, phrase_byte, piece_text, is_keyword, name_text, phrase_text, pattern_text}

pub utf8_byte : (b : ℕ) → b < 128 → IsUtf8 (b ∷ [])
utf8_byte b lt = IsUtf8-from_ascii (b ∷ []) (λ i. at i)
  where
    at : (i : ℕ) → get_or (b ∷ []) i 0 < 128
    at zero = lt
    at (suc i) = omega arith

module _ (front behind : List ℕ) (b : ℕ) (ascii : b < 128) (u : IsUtf8 (front ++ b ∷ behind)) where
  cut : IsCharBoundary (front ++ b ∷ behind) (length front)
  cut =
      IsCharBoundary-before_ascii (front ++ b ∷ behind) (length front) (omega (arith, length-append front (b ∷ behind)))
      (subst (λ x. x < 128) (sym (ap (λ i. get_or (front ++ b ∷ behind) i 0) (sym (add-zero (length front))) ∙ get_or-append-add front (b ∷ behind) 0 0)) ascii)

  pub utf8_before : IsUtf8 front
  utf8_before =
      subst IsUtf8 (take-append-le (length front) front (b ∷ behind) (omega arith) ∙ take_all (length front) front (omega arith))
      (IsUtf8-take (front ++ b ∷ behind) (length front) u cut)

  pub utf8_from : IsUtf8 (b ∷ behind)
  utf8_from =
      subst IsUtf8 (drop-append-le (length front) front (b ∷ behind) (omega arith) ∙ ap (λ x. x ++ b ∷ behind) (drop_all (length front) front (omega arith)))
      (IsUtf8-drop (front ++ b ∷ behind) (length front) u cut)

pub utf8_after : (behind : List ℕ) (b : ℕ) → b < 128 → IsUtf8 (b ∷ behind) → IsUtf8 behind
utf8_after behind b ascii u = IsUtf8-drop (b ∷ behind) 1 u (IsCharBoundary-after_ascii (b ∷ behind) 0 u (omega arith) ascii)

-- a list that is written for these bytes, in whatever place
abbrev Writes : List ℕ → List ℕ → Type 0
Writes bs out = (front : List ℕ) → IsUtf8 (front ++ bs) → IsUtf8 (front ++ out)

written : (y : Bool) (b : ℕ) (bs out : List ℕ) → (y ≡ true → b < 128) → Writes bs out → Writes (b ∷ bs) (spelled y b ++ out)
written true b bs out ascii w front u =
    let lt = ascii refl in
    IsUtf8-append front (92 ∷ b ∷ out) (utf8_before front bs b lt u) (IsUtf8-append (92 ∷ []) (b ∷ out) (utf8_byte 92 (omega arith)) (w (b ∷ []) (utf8_from front bs b lt u)))
written false b bs out ascii w front u = subst IsUtf8 (append_assoc front (b ∷ []) out) (w (front ++ b ∷ []) (subst IsUtf8 (sym (append_assoc front (b ∷ []) bs)) u))

left_out : (b : ℕ) (bs out : List ℕ) → b < 128 → Writes bs out → Writes (b ∷ bs) out
left_out b bs out lt w front u = IsUtf8-append front out (utf8_before front bs b lt u) (w [] (utf8_after bs b lt (utf8_from front bs b lt u)))

same_number : (b k : ℕ) → (b == k) ≡ true → b ≡ k
same_number b k h = grind (arith, nat_tests)

is_backslash : (e : Bool) (b : ℕ) → (not e && b == 92) ≡ true → b < 128
is_backslash true b h = cc h
is_backslash false b h = let e = same_number b 92 h in omega (arith, e)

writes_plain : (w : List ℕ) (e : Bool) → Writes w (plain e w)
unfolding plain
writes_plain [] e front u = u
writes_plain (b ∷ bs) e front u = step (not e && b == 92) (is_backslash e b) (λ x. writes_plain bs x) front u
  where
    step : (x : Bool) → (x ≡ true → b < 128) → ((x : Bool) → Writes bs (plain x bs)) → Writes (b ∷ bs) (cond x [] (b ∷ []) ++ plain x bs)
    step true lt w = left_out b bs (plain true bs) (lt refl) (w true)
    step false lt w = written false b bs (plain false bs) (λ h. cc h) (w false)

writes_flat : (special : ℕ → Bool) → ((b : ℕ) → special b ≡ true → b < 128) → (w : List ℕ) → Writes w (flat_map (λ b. spelled (special b) b) w)
writes_flat special ascii [] front u = u
writes_flat special ascii (b ∷ bs) front u = written (special b) b bs (flat_map (λ c. spelled (special c) c) bs) (ascii b) (λ f v. writes_flat special ascii bs f v) front u

or_ascii : (x y : Bool) (b : ℕ) → (x ≡ true → b < 128) → (y ≡ true → b < 128) → (x || y) ≡ true → b < 128
or_ascii true y b f g h = f refl
or_ascii false y b f g h = g h

equal_ascii : (b k : ℕ) → k < 128 → (b == k) ≡ true → b < 128
equal_ascii b k lt h = let e = same_number b k h in omega (arith, e, lt)

-- what ends a word is ASCII
pub end_ascii : (b : ℕ) → ends_word b ≡ true → b < 128
end_ascii b h = grind (arith, nat_tests)

pub utf8_plain : (w : List ℕ) → IsUtf8 w → IsUtf8 (plain false w)
utf8_plain w u = writes_plain w false [] u

utf8_mark : (x : Bool) → IsUtf8 (cond x (codes "\\") [])
utf8_mark true = utf8_byte 92 (omega arith)
utf8_mark false = IsUtf8-nil

pub utf8_name : (name : List ℕ) → IsUtf8 name → IsUtf8 (name_text name)
utf8_name name u =
    IsUtf8-append (cond (is_keyword name) (codes "\\") []) (flat_map name_byte name) (utf8_mark (is_keyword name))
    (writes_flat (λ b. ends_word b || b == 92) (λ b. or_ascii (ends_word b) (b == 92) b (end_ascii b) (equal_ascii b 92 (omega arith))) name [] u)

pub utf8_phrase : (text : List ℕ) → IsUtf8 text → IsUtf8 (phrase_text text)
utf8_phrase text u =
    IsUtf8-append (codes "\"") (flat_map phrase_byte text ++ codes "\"") (utf8_byte 34 (omega arith))
    (IsUtf8-append (flat_map phrase_byte text) (codes "\"")
    (writes_flat (λ b. b == 34 || b == 92) (λ b. or_ascii (b == 34) (b == 92) b (equal_ascii b 34 (omega arith)) (equal_ascii b 92 (omega arith))) text [] u)
    (utf8_byte 34 (omega arith)))

special_ascii : (b : ℕ) → (ends_word b || (b == 92 || (b == 42 || b == 63))) ≡ true → b < 128
special_ascii b =
    or_ascii (ends_word b) (b == 92 || (b == 42 || b == 63)) b (end_ascii b)
    (or_ascii (b == 92) (b == 42 || b == 63) b (equal_ascii b 92 (omega arith)) (or_ascii (b == 42) (b == 63) b (equal_ascii b 42 (omega arith)) (equal_ascii b 63 (omega arith))))

-- how a piece is spelled
record SpelledPiece (e : Bool) (b : ℕ) : Type 0 where
  y : Bool
  ascii : y ≡ true → b < 128
  is : piece_text (piece_of e b) ≡ spelled y b

spelled_piece : (e : Bool) (b : ℕ) → SpelledPiece e b
spelled_piece true b = record { y = ends_word b || (b == 92 || (b == 42 || b == 63)); ascii = special_ascii b; is = refl }
spelled_piece false b = pick (b == 42) (b == 63) refl refl
  where
    pick : (x z : Bool) → (b == 42) ≡ x → (b == 63) ≡ z → SpelledPiece false b
    pick true z s q = record { y = false; ascii = λ h. cc h; is = ap (λ v. piece_text (cond v AnyRun (cond (b == 63) AnyOne (Byte b)))) s ∙ ap (λ n. n ∷ []) (sym (same_number b 42 s)) }
    pick false true s q = record {
      y = false;
      ascii = λ h. cc h;
      is = ap (λ v. piece_text (cond v AnyRun (cond (b == 63) AnyOne (Byte b)))) s ∙ ap (λ v. piece_text (cond v AnyOne (Byte b))) q ∙ ap (λ n. n ∷ []) (sym (same_number b 63 q));
    }
    pick false false s q = record {
      y = ends_word b || (b == 92 || (b == 42 || b == 63));
      ascii = special_ascii b;
      is = ap (λ v. piece_text (cond v AnyRun (cond (b == 63) AnyOne (Byte b)))) s ∙ ap (λ v. piece_text (cond v AnyOne (Byte b))) q;
    }

writes_pattern : (w : List ℕ) (e : Bool) → Writes w (pattern_text (pieces e w))
unfolding pieces
writes_pattern [] e front u = u
writes_pattern (b ∷ bs) e front u = step (not e && b == 92) (is_backslash e b) (λ x. writes_pattern bs x) front u
  where
    step : (x : Bool) → (x ≡ true → b < 128) → ((x : Bool) → Writes bs (pattern_text (pieces x bs))) → Writes (b ∷ bs) (pattern_text (cond x [] (piece_of e b ∷ []) ++ pieces x bs))
    step true lt w = left_out b bs (pattern_text (pieces true bs)) (lt refl) (w true)
    step false lt w =
        let p = spelled_piece e b in
        subst (λ t. Writes (b ∷ bs) (t ++ pattern_text (pieces false bs))) (sym p.is) (written p.y b bs (pattern_text (pieces false bs)) p.ascii (w false))

pub utf8_pattern : (w : List ℕ) → IsUtf8 w → IsUtf8 (pattern_text (pieces false w))
utf8_pattern w u = writes_pattern w false [] u
