-- Where the front of a text ends: within the text, and between two characters.
use Rattle.std.proofs.Common.{◌≡◌, ℕ, suc, ◌+◌, ◌-◌, ◌<◌, ◌≤◌, ◌^◌, pos, Bool, true, false, cond, eqb, ltb, List, [], ◌∷◌, ◌++◌, length, get_or, take, drop, Option, Some, None, refl, sym, ap, subst, arith, inl, inr, lit<}
use Rattle.std.specs.Prelude.{option_map, ◌==◌, codes}
use Rattle.std.specs.List.{prefix_len, starts_with}
use Rattle.std.specs.Str.{IsUtf8}
use Rattle.std.proofs.lemmas.Bool.{eqb-true, cases_lt}
use Rattle.std.proofs.lemmas.Bool.Decides.{Decides-eqb}
use Rattle.std.proofs.lemmas.Slice.Eq.{starts_is}
use Rattle.std.proofs.lemmas.List.Sums.{prefix_len-le-length, prefix_len_stops}
use Rattle.std.proofs.lemmas.Str.{IsCharBoundary-after_ascii, IsCharBoundary-before_ascii, IsCharBoundary-end}
use Rattle.gl_rulelang.specs.declared.text.Class.TheVariants.{Name, Line}
use Rattle.std.specs.Char.{is_ascii_digit}
use Rattle.gl_base.specs.Digits.{decimal}
use Rattle.gl_rulelang.specs.Bytes.{in_class, is_letter, is_blank, string_len, comment_len}
use Rattle.gl_rulelang.specs.Tokens.{Lexeme, number, operator, sign}
use Rattle.gl_rulelang.specs.declared.rule.Binary.TheVariants as ops
use Rattle.gl_rulelang.specs.declared.token.Sign.TheVariants as signs
use Rattle.gl_rulelang.specs.Fronts.{EndsAt, Ends, Front, lexeme, bad, word_front, numeral_front, string_front, comment_front, slash, single, pair, message_front, punctuation, front_of}
use Rattle.gl_rulelang.proofs.Escapes.{counted, string_ends}
use Rattle.gl_rulelang.proofs.Runs.{name_ends, digits_end, some_name, some_digits}

ascii_end : (text : List ℕ) (n : ℕ) → IsUtf8 text → n < length text → get_or text n 0 < 128 → EndsAt text (n + 1)
ascii_end text n u lt low = record { some = omega arith; within = omega arith; boundary = IsCharBoundary-after_ascii text n u lt low }

choice : (b : Bool) (text : List ℕ) (x y : Front) → (b ≡ true → Ends text x) → (b ≡ false → Ends text y) → Ends text (cond b x y)
choice true text x y p q = p refl
choice false text x y p q = q refl

one : (b : ℕ) (text : List ℕ) → IsUtf8 (b ∷ text) → b < 128 → EndsAt (b ∷ text) 1
one b text u low = ascii_end (b ∷ text) 0 u (omega arith) low

two : (b c : ℕ) (text : List ℕ) → IsUtf8 (b ∷ c ∷ text) → c < 128 → EndsAt (b ∷ c ∷ text) 2
two b c text u low = ascii_end (b ∷ c ∷ text) 1 u (omega arith) low

at_end : (text : List ℕ) (n m : ℕ) → n ≡ m + 1 → IsUtf8 text → m < length text → get_or text m 0 < 128 → EndsAt text n
at_end text n m e u lt low = subst (EndsAt text) (sym e) (ascii_end text m u lt low)

word_end : (text : List ℕ) → IsUtf8 text → is_letter (get_or text 0 0) ≡ true → Ends text (word_front text)
word_end text u h =
    let n = prefix_len (in_class Name) text in
    let some = some_name text h in
    let within = prefix_len-le-length (in_class Name) text in
    at_end text n (n - 1) (omega arith) u (omega arith) (name_ends text some)

numeral_end : (text : List ℕ) → IsUtf8 text → is_ascii_digit (get_or text 0 0) ≡ true → Ends text (numeral_front text)
numeral_end text u h =
    let n = prefix_len is_ascii_digit text in
    let some = some_digits text h in
    let within = prefix_len-le-length is_ascii_digit text in
    let digits = take n text in
    choice (ltb (decimal 0 digits) (2 ^ 63)) text (lexeme (number (pos (decimal 0 digits))) n) bad
    (λ t. at_end text n (n - 1) (omega arith) u (omega arith) (digits_end text some)) (λ f. tt)

string_end : (b : ℕ) (text : List ℕ) (o : Option ℕ) → IsUtf8 (b ∷ text) → string_len false text ≡ o → Ends (b ∷ text) (string_front o text)
string_end b text None u e = tt
string_end b text (Some n) u e =
    let p = string_ends false text n e in
    at_end (b ∷ text) (n + 2) (suc n) (omega arith) u (omega (arith, p.0)) (omega (arith, p.1))

comment_step : (t : Bool) (b : ℕ) (bs : List ℕ) (n : ℕ) → ((m : ℕ) → comment_len (eqb b 42) bs ≡ Some m → (0 < m) × (m ≤ length bs) × (get_or bs (m - 1) 0 ≡ 47)) → (t ≡ true → b ≡ 47)
    → cond t (Some 1) (option_map suc (comment_len (eqb b 42) bs)) ≡ Some n → (0 < n) × (n ≤ suc (length bs)) × (get_or (b ∷ bs) (n - 1) 0 ≡ 47)
comment_step true b bs n h z e = let k : 1 ≡ n = cc in subst (λ (n : ℕ). (0 < n) × (n ≤ suc (length bs)) × (get_or (b ∷ bs) (n - 1) 0 ≡ 47)) k (omega arith, omega arith, z refl)
comment_step false b bs n h z e =
    let p = counted (comment_len (eqb b 42) bs) n e in
    let q = h p.0 p.1 in
    let k : suc p.0 - 1 ≡ suc (p.0 - 1) = omega (arith, q.0) in
    rw (p.2, k) (omega arith, omega (arith, q.1), q.2)

-- a comment ends behind its `/`
comment_ends : (s : Bool) (bs : List ℕ) (n : ℕ) → comment_len s bs ≡ Some n → (0 < n) × (n ≤ length bs) × (get_or bs (n - 1) 0 ≡ 47)
comment_ends s [] n e = absurd cc
comment_ends true (b ∷ bs) n e = comment_step (eqb b 47) b bs n (comment_ends (eqb b 42) bs) (λ t. eqb-true b 47 t) e
comment_ends false (b ∷ bs) n e = comment_step false b bs n (comment_ends (eqb b 42) bs) (λ t. absurd cc) e

comment_end : (b c : ℕ) (text : List ℕ) (o : Option ℕ) → IsUtf8 (b ∷ c ∷ text) → comment_len false text ≡ o → Ends (b ∷ c ∷ text) (comment_front o)
comment_end b c text None u e = tt
comment_end b c text (Some n) u e =
    let p = comment_ends false text n e in
    let k : get_or (b ∷ c ∷ text) (suc (suc (n - 1))) 0 ≡ 47 = p.2 in
    at_end (b ∷ c ∷ text) (n + 2) (suc (suc (n - 1))) (omega (arith, p.0)) u (omega (arith, p.0, p.1)) (omega (arith, k))

line_end : (b c : ℕ) (text : List ℕ) → EndsAt (b ∷ c ∷ text) (prefix_len (in_class Line) text + 2)
line_end b c text =
    let n = prefix_len (in_class Line) text in
    let within = prefix_len-le-length (in_class Line) text in
    let k : n + 2 ≡ suc (suc n) = omega arith in
    elim (cases_lt n (length text)) [
      | inl lt ↦
          let stops : in_class Line (get_or text n 0) ≡ false = prefix_len_stops (in_class Line) text 0 lt in
          let feed : get_or text n 0 ≡ 10 = grind (arith, stops) in
          rw k (record { some = omega arith; within = omega arith; boundary = IsCharBoundary-before_ascii (b ∷ c ∷ text) (suc (suc n)) (omega arith) (omega (arith, feed)) })
      | inr le ↦
          let all : suc (suc n) ≡ length (b ∷ c ∷ text) = omega arith in
          rw (k, all) (record { some = omega arith; within = omega arith; boundary = IsCharBoundary-end (b ∷ c ∷ text) })
    ]

slash_end : (b : ℕ) (text : List ℕ) → IsUtf8 (b ∷ text) → b < 128 → Ends (b ∷ text) (slash text)
slash_end b [] u low = one b [] u low
slash_end b (c ∷ text) u low = choice (eqb c 47) (b ∷ c ∷ text) _ _ (λ t. line_end b c text)
    (λ f. choice (eqb c 42) (b ∷ c ∷ text) _ _ (λ t. comment_end b c text (comment_len false text) u refl) (λ f. one b (c ∷ text) u low))

single_end : (b : ℕ) (text : List ℕ) (o : Option Lexeme) → IsUtf8 (b ∷ text) → b < 128 → Ends (b ∷ text) (single o)
single_end b text None u low = tt
single_end b text (Some l) u low = one b text u low

pair_end : (b second : ℕ) (l : Lexeme) (o : Option Lexeme) (text : List ℕ) → IsUtf8 (b ∷ text) → b < 128 → second < 128 → Ends (b ∷ text) (pair second l o text)
pair_end b second l o [] u low low2 = single_end b [] o u low
pair_end b second l o (c ∷ text) u low low2 = choice (eqb c second) (b ∷ c ∷ text) _ _
    (λ t. let e : c ≡ second = eqb-true c second t in two b c text u (omega arith)) (λ f. single_end b (c ∷ text) o u low)

message_end : (b : ℕ) (text : List ℕ) → IsUtf8 (b ∷ text) → Ends (b ∷ text) (message_front text)
message_end b text u = choice (starts_with ◌==◌ text (codes "message")) (b ∷ text) _ _
    (λ t. let e : text ≡ codes "message" ++ drop 7 text = (starts_is Decides-eqb text (codes "message") (starts_with ◌==◌ text (codes "message")) refl).0 t in
    let long : 7 ≤ length text = omega (arith, ap length e) in
    let last : get_or text 6 0 ≡ 101 = ap (λ (x : List ℕ). get_or x 6 0) e in
    at_end (b ∷ text) 8 7 refl u (omega (arith, long)) (omega (arith, last)))
    (λ f. tt)

punctuation_end : (b : ℕ) (text : List ℕ) → IsUtf8 (b ∷ text) → Ends (b ∷ text) (punctuation b text)
punctuation_end b text u =
    choice (eqb b 40) (b ∷ text) _ _ (λ t. let low : b < 128 = omega (arith, eqb-true b 40 t) in one b text u low) (λ f. choice (eqb b 41) (b ∷ text) _ _ (λ t. let low : b < 128 = omega (arith, eqb-true b 41 t) in one b text u low) (λ f. choice (eqb b 44) (b ∷ text) _ _ (λ t. let low : b < 128 = omega (arith, eqb-true b 44 t) in one b text u low) (λ f. choice (eqb b 59) (b ∷ text) _ _ (λ t. let low : b < 128 = omega (arith, eqb-true b 59 t) in one b text u low) (λ f. choice (eqb b 58) (b ∷ text) _ _ (λ t. let low : b < 128 = omega (arith, eqb-true b 58 t) in one b text u low) (λ f. choice (eqb b 46) (b ∷ text) _ _ (λ t. let low : b < 128 = omega (arith, eqb-true b 46 t) in one b text u low) (λ f. choice (eqb b 43) (b ∷ text) _ _ (λ t. let low : b < 128 = omega (arith, eqb-true b 43 t) in one b text u low) (λ f. choice (eqb b 45) (b ∷ text) _ _ (λ t. let low : b < 128 = omega (arith, eqb-true b 45 t) in one b text u low) (λ f. choice (eqb b 42) (b ∷ text) _ _ (λ t. let low : b < 128 = omega (arith, eqb-true b 42 t) in one b text u low) (λ f. choice (eqb b 37) (b ∷ text) _ _ (λ t. let low : b < 128 = omega (arith, eqb-true b 37 t) in one b text u low) (λ f. choice (eqb b 61) (b ∷ text) _ _ (λ t. let low : b < 128 = omega (arith, eqb-true b 61 t) in pair_end b 61 (operator ops.Equal) (Some (sign signs.Assign)) text u low (lit< tt)) (λ f. choice (eqb b 33) (b ∷ text) _ _ (λ t. let low : b < 128 = omega (arith, eqb-true b 33 t) in pair_end b 61 (operator ops.NotEqual) (Some (sign signs.Not)) text u low (lit< tt)) (λ f. choice (eqb b 60) (b ∷ text) _ _ (λ t. let low : b < 128 = omega (arith, eqb-true b 60 t) in pair_end b 61 (operator ops.AtMost) (Some (operator ops.Less)) text u low (lit< tt)) (λ f. choice (eqb b 62) (b ∷ text) _ _ (λ t. let low : b < 128 = omega (arith, eqb-true b 62 t) in pair_end b 61 (operator ops.AtLeast) (Some (operator ops.Greater)) text u low (lit< tt)) (λ f. choice (eqb b 38) (b ∷ text) _ _ (λ t. let low : b < 128 = omega (arith, eqb-true b 38 t) in pair_end b 38 (operator ops.And) (None) text u low (lit< tt)) (λ f. choice (eqb b 124) (b ∷ text) _ _ (λ t. let low : b < 128 = omega (arith, eqb-true b 124 t) in pair_end b 124 (operator ops.Or) (None) text u low (lit< tt)) (λ f. choice (eqb b 36) (b ∷ text) _ _ (λ t. let low : b < 128 = omega (arith, eqb-true b 36 t) in message_end b text u) (λ f. tt)))))))))))))))))

-- the front of a text ends within it, between two characters
pub front_ends : (text : List ℕ) → IsUtf8 text → Ends text (front_of text)
unfolding front_of
front_ends [] u = tt
front_ends (b ∷ text) u =
    choice (is_blank b) (b ∷ text) _ _ (λ t. one b text u (grind arith))
    (λ f. choice (is_letter b) (b ∷ text) _ _ (λ t. word_end (b ∷ text) u t)
    (λ f. choice (is_ascii_digit b) (b ∷ text) _ _ (λ t. numeral_end (b ∷ text) u t)
    (λ f. choice (eqb b 34) (b ∷ text) _ _ (λ t. string_end b text (string_len false text) u refl)
    (λ f. choice (eqb b 47) (b ∷ text) _ _ (λ t. slash_end b text u (omega (arith, eqb-true b 47 t)))
    (λ f. punctuation_end b text u)))))
