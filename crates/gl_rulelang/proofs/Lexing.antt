-- Text that is cut into given tokens: what is printed is cut into the tokens of the form in which it is shown.
use Rattle.std.proofs.Common.{◌≡◌, ℕ, zero, suc, ◌+◌, ◌-◌, ◌*◌, ◌<◌, ◌≤◌, ◌^◌, Bool, true, false, cond, eqb, ltb, List, [], ◌∷◌, ◌++◌, length, get_or, take, drop, map, Option, Some, None, Result, Ok, Err, refl, sym, ap, ap₂, subst, ◌∙◌, append_assoc, append-nil, arith, lit<}
use Rattle.std.specs.Prelude.{ℤ, pos, codes, option_map, ◌&&◌, ◌||◌, not}
use Rattle.std.specs.List.{flat_map, prefix_len, AllByRecursion}
use Rattle.std.specs.Fmt.{decimal as decimal_text, signed_decimal}
use Rattle.std.proofs.lemmas.Bool.{eqb-true, cond_both, or_parts, lt-ltb}
use Rattle.std.proofs.lemmas.List.{length-drop, take_at, drop_at, length-append}
use Rattle.std.proofs.lemmas.Fmt.{digits_decimal, digits_value-decimal, decimal_nonempty}
use Rattle.gl_rulelang.specs.declared.rule.Unary.{Unary}
use Rattle.gl_rulelang.specs.declared.rule.Unary.TheVariants as prefixes
use Rattle.gl_rulelang.specs.declared.rule.Binary.{Binary}
use Rattle.gl_rulelang.specs.declared.rule.Binary.TheVariants as ops
use Rattle.gl_rulelang.specs.declared.token.Sign.TheVariants as signs
use Rattle.gl_rulelang.specs.declared.text.Class.TheVariants as classes
use Rattle.std.specs.Char.{is_ascii_digit}
use Rattle.gl_base.specs.Digits.{decimal}
use Rattle.gl_rulelang.specs.Bytes.{in_class, is_letter, is_name_byte, is_blank, string_len}
use Rattle.gl_rulelang.specs.Tree.{Tree, text, whole, boolean, field, variable, unary, binary, call, Arguments, none, argument, is_operation}
use Rattle.gl_rulelang.specs.Tokens.{Lexeme, name, string, number, operator, sign, Tokens, end, token, escaped, unescape, unescaped}
use Rattle.gl_rulelang.specs.Faults.{Fault}
use Rattle.gl_rulelang.specs.Fronts.{Front, blank, lexeme, bad, word, word_front, numeral, numeral_front, string_front, next_is, single, pair, front_of}
use Rattle.gl_rulelang.specs.Cutting.{with_token, cut_front, cutting, tokens_of}
use Rattle.gl_rulelang.specs.Grammar.{Form, a_string, a_number, a_truth, a_field, a_name, Forms, no_more, one_more, prefix_lexeme, naming, spelled, first_spelled, rest_spelled, operand_form, form_of, forms_of}
use Rattle.gl_rulelang.specs.Printing.{spelled_byte, quote, prefix_text, infix_text, operand, name_text, tree_text, listed}
use Rattle.gl_rulelang.specs.Sentences.{lexemes, IsCut}
use Rattle.gl_rulelang.proofs.Cuts.{cutting-turn, cutting-end}
use Rattle.gl_rulelang.proofs.Numbers.{digits_model}

-- ---- one token after the other

-- wherever the text begins, and however many turns there are
abbrev pub Lexed : List ℕ → List Lexeme → Type 0
Lexed bytes xs = (n at : ℕ) → length bytes ≤ n → (ts : Tokens) × (cutting n at bytes ≡ Ok ts) × (lexemes ts ≡ xs)

pub lexed_end : Lexed [] []
lexed_end n at le = (end at, cutting-end n at [] refl, refl)

pub lexed_blank : (k : ℕ) (bytes : List ℕ) (xs : List Lexeme) → front_of bytes ≡ blank k → 0 < k → 0 < length bytes → Lexed (drop k bytes) xs → Lexed bytes xs
lexed_blank k bytes xs f some long rest n at le =
    let less = length-drop k bytes in
    let p = rest (n - 1) (at + k) (omega (arith, less, le, some, long)) in
    (p.0, cutting-turn n at bytes long le ∙ ap (λ (g : Front). cut_front g (cutting (n - 1)) at bytes) f ∙ p.1, p.2)

pub lexed_token : (k : ℕ) (l : Lexeme) (bytes : List ℕ) (xs : List Lexeme) → front_of bytes ≡ lexeme l k → 0 < k → 0 < length bytes → Lexed (drop k bytes) xs → Lexed bytes (l ∷ xs)
lexed_token k l bytes xs f some long rest n at le =
    let less = length-drop k bytes in
    let p = rest (n - 1) (at + k) (omega (arith, less, le, some, long)) in
    (token l at p.0, cutting-turn n at bytes long le ∙ ap (λ (g : Front). cut_front g (cutting (n - 1)) at bytes) f ∙ ap (with_token l at) p.1, ap (λ (ys : List Lexeme). l ∷ ys) p.2)

pub lexed_is_cut : (bytes : List ℕ) (xs : List Lexeme) → Lexed bytes xs → IsCut bytes xs
lexed_is_cut bytes xs h = let p = h (length bytes) 0 (omega arith) in record { tokens = p.0; read = p.1; same = p.2 }

-- a byte that is white space, and signs of one byte and of two
pub skips : (b : ℕ) (rest : List ℕ) (xs : List Lexeme) → front_of (b ∷ rest) ≡ blank 1 → Lexed rest xs → Lexed (b ∷ rest) xs
skips b rest xs f h = lexed_blank 1 (b ∷ rest) xs f (omega arith) (omega arith) h

pub one_byte : (b : ℕ) (l : Lexeme) (rest : List ℕ) (xs : List Lexeme) → front_of (b ∷ rest) ≡ lexeme l 1 → Lexed rest xs → Lexed (b ∷ rest) (l ∷ xs)
one_byte b l rest xs f h = lexed_token 1 l (b ∷ rest) xs f (omega arith) (omega arith) h

pub two_bytes : (b c : ℕ) (l : Lexeme) (rest : List ℕ) (xs : List Lexeme) → front_of (b ∷ c ∷ rest) ≡ lexeme l 2 → Lexed rest xs → Lexed (b ∷ c ∷ rest) (l ∷ xs)
two_bytes b c l rest xs f h = lexed_token 2 l (b ∷ c ∷ rest) xs f (omega arith) (omega arith) h

-- ---- names and words

-- no byte of a name or of a number stands at the front
abbrev pub Stops : List ℕ → Type 0
Stops rest = in_class classes.Name (get_or rest 0 32) ≡ false

run_ends : (p : ℕ → Bool) (rest : List ℕ) → p (get_or rest 0 32) ≡ false → prefix_len p rest ≡ 0
run_ends p [] h = refl
run_ends p (b ∷ rest) h = rw h refl

run_step : (p : ℕ → Bool) (b : ℕ) (w : List ℕ) → prefix_len p (b ∷ w) ≡ length (b ∷ w) → (p b ≡ true) × (prefix_len p w ≡ length w)
run_step p b w h = by_test (p b) refl h
  where
    by_test : (t : Bool) → p b ≡ t → cond t (1 + prefix_len p w) 0 ≡ suc (length w) → (p b ≡ true) × (prefix_len p w ≡ length w)
    by_test true e h = (e, omega arith)
    by_test false e h = absurd (omega arith)

run_whole : (p : ℕ → Bool) (w rest : List ℕ) → prefix_len p w ≡ length w → p (get_or rest 0 32) ≡ false → prefix_len p (w ++ rest) ≡ length w
run_whole p [] rest all h = run_ends p rest h
run_whole p (b ∷ w) rest all h =
    let s = run_step p b w all in
    let more = run_whole p w rest s.1 h in
    rw s.0 (omega (arith, more))

letter_no_blank : (b : ℕ) → is_letter b ≡ true → is_blank b ≡ false
letter_no_blank b h = grind arith

digit_no_blank : (b : ℕ) → is_ascii_digit b ≡ true → is_blank b ≡ false
digit_no_blank b h = grind arith

digit_no_letter : (b : ℕ) → is_ascii_digit b ≡ true → is_letter b ≡ false
digit_no_letter b h = grind arith

-- what is spelled as a word: a letter, and then letters and digits
pub record IsWord (w : List ℕ) : Type 0 where
  pub starts : is_letter (get_or w 0 0) ≡ true
  pub all : prefix_len (in_class classes.Name) w ≡ length w

word_is_front : (w rest : List ℕ) → IsWord w → Stops rest → front_of (w ++ rest) ≡ lexeme (word w) (length w)
unfolding front_of
word_is_front [] rest is stops = absurd cc
word_is_front (b ∷ w) rest is stops =
    let run = run_whole (in_class classes.Name) (b ∷ w) rest is.all stops in
    let front : take (length (b ∷ w)) ((b ∷ w) ++ rest) ≡ b ∷ w = take_at (b ∷ w) rest (length (b ∷ w)) refl in
    let first : front_of ((b ∷ w) ++ rest) ≡ word_front ((b ∷ w) ++ rest) = rw (letter_no_blank b is.starts, is.starts) refl in
    first ∙ ap (λ (n : ℕ). lexeme (word (take n ((b ∷ w) ++ rest))) n) run ∙ ap (λ (v : List ℕ). lexeme (word v) (length (b ∷ w))) front

word_some : (w : List ℕ) → IsWord w → 0 < length w
word_some [] is = absurd cc
word_some (b ∷ w) is = omega arith

pub lexed_word : (w : List ℕ) (l : Lexeme) (rest : List ℕ) (xs : List Lexeme) → IsWord w → word w ≡ l → Stops rest → Lexed rest xs → Lexed (w ++ rest) (l ∷ xs)
lexed_word w l rest xs is e stops h =
    let some = word_some w is in
    let long = length-append w rest in
    lexed_token (length w) l (w ++ rest) xs (word_is_front w rest is stops ∙ ap (λ (x : Lexeme). lexeme x (length w)) e) some (omega (arith, long, some))
    (subst (λ (x : List ℕ). Lexed x xs) (sym (drop_at w rest (length w) refl)) h)

-- a word that isn't a keyword
pub record IsName (n : List ℕ) : Type 0 where
  pub is_word : IsWord n
  pub plain : word n ≡ name n

pub lexed_name : (n rest : List ℕ) (xs : List Lexeme) → IsName n → Stops rest → Lexed rest xs → Lexed (n ++ rest) (name n ∷ xs)
lexed_name n rest xs is stops h = lexed_word n (name n) rest xs is.is_word is.plain stops h

-- ---- numbers

digits_are_front : (ds rest : List ℕ) → prefix_len is_ascii_digit ds ≡ length ds → 0 < length ds → decimal 0 ds < 2 ^ 63 → is_ascii_digit (get_or rest 0 32) ≡ false → front_of (ds ++ rest) ≡ lexeme (number (pos (decimal 0 ds))) (length ds)
unfolding front_of
digits_are_front [] rest all some fits stops = absurd (omega arith)
digits_are_front (b ∷ ds) rest all some fits stops =
    let run = run_whole is_ascii_digit (b ∷ ds) rest all stops in
    let digit = (run_step is_ascii_digit b ds all).0 in
    let front : take (length (b ∷ ds)) ((b ∷ ds) ++ rest) ≡ b ∷ ds = take_at (b ∷ ds) rest (length (b ∷ ds)) refl in
    let first : front_of ((b ∷ ds) ++ rest) ≡ numeral_front ((b ∷ ds) ++ rest) = rw (digit_no_blank b digit, digit_no_letter b digit, digit) refl in
    first ∙ ap (λ (n : ℕ). numeral (take n ((b ∷ ds) ++ rest)) n) run ∙ ap (λ (v : List ℕ). numeral v (length (b ∷ ds))) front
    ∙ ap (λ (t : Bool). cond t (lexeme (number (pos (decimal 0 (b ∷ ds)))) (length (b ∷ ds))) bad) (lt-ltb (decimal 0 (b ∷ ds)) (2 ^ 63) fits)

stops_digits : (b : ℕ) → in_class classes.Name b ≡ false → is_ascii_digit b ≡ false
stops_digits b h = (or_parts (is_letter b) (is_ascii_digit b) h).1

pub lexed_number : (n : ℕ) (rest : List ℕ) (xs : List Lexeme) → n < 2 ^ 63 → Stops rest → Lexed rest xs → Lexed (decimal_text n ++ rest) (number (pos n) ∷ xs)
lexed_number n rest xs fits stops h =
    let ds = decimal_text n in
    let small : n < 2 ^ 64 = omega (arith, fits) in
    let all = digits_decimal digits_model n small in
    let value : decimal 0 ds ≡ n = digits_value-decimal digits_model n small in
    let some = decimal_nonempty n small in
    let long = length-append ds rest in
    lexed_token (length ds) (number (pos n)) (ds ++ rest) xs
    (digits_are_front ds rest all some (subst (λ (m : ℕ). m < 2 ^ 63) (sym value) fits) (stops_digits (get_or rest 0 32) stops) ∙ ap (λ (m : ℕ). lexeme (number (pos m)) (length ds)) value)
    some (omega (arith, long, some)) (subst (λ (x : List ℕ). Lexed x xs) (sym (drop_at ds rest (length ds) refl)) h)

-- ---- strings

two_more : (o : Option ℕ) → option_map suc (option_map suc o) ≡ option_map (λ n. 2 + n) o
two_more None = refl
two_more (Some n) = ap (λ (m : ℕ). Some m) (omega arith)

one_more_byte : (o : Option ℕ) → option_map suc o ≡ option_map (λ n. 1 + n) o
one_more_byte None = refl
one_more_byte (Some n) = ap (λ (m : ℕ). Some m) (omega arith)

abbrev Measured : List ℕ → List ℕ → Type 0
Measured rest w = string_len false (w ++ rest) ≡ option_map (λ n. length w + n) (string_len false rest)

measured_byte : (b : ℕ) (rest : List ℕ) → Measured rest (spelled_byte b)
measured_byte b rest =
    cond_both (eqb b 34) _ _ (Measured rest) (λ t. two_more (string_len false rest)) (λ f34.
    cond_both (eqb b 92) _ _ (Measured rest) (λ t. two_more (string_len false rest)) (λ f92.
    cond_both (eqb b 10) _ _ (Measured rest) (λ t. two_more (string_len false rest)) (λ f10.
    cond_both (eqb b 13) _ _ (Measured rest) (λ t. two_more (string_len false rest)) (λ f13.
    cond_both (eqb b 9) _ _ (Measured rest) (λ t. two_more (string_len false rest)) (λ f9.
    rw (f34, f92) (one_more_byte (string_len false rest)))))))

added : (a b : ℕ) (o : Option ℕ) (m : ℕ) → o ≡ Some b → a + b ≡ m → option_map (λ n. a + n) o ≡ Some m
added a b o m e h = ap (option_map (λ n. a + n)) e ∙ ap (λ (x : ℕ). Some x) h

string_measured : (s rest : List ℕ) → string_len false (flat_map spelled_byte s ++ 34 ∷ rest) ≡ Some (length (flat_map spelled_byte s))
string_measured [] rest = refl
string_measured (b ∷ s) rest =
    ap (string_len false) (append_assoc (spelled_byte b) (flat_map spelled_byte s) (34 ∷ rest))
    ∙ measured_byte b (flat_map spelled_byte s ++ 34 ∷ rest)
    ∙ added (length (spelled_byte b)) (length (flat_map spelled_byte s)) _ (length (spelled_byte b ++ flat_map spelled_byte s)) (string_measured s rest) (sym (length-append (spelled_byte b) (flat_map spelled_byte s)))

abbrev Spelt : ℕ → List ℕ → List ℕ → Type 0
Spelt b rest w = unescape false (w ++ rest) ≡ b ∷ unescape false rest

spelt_byte : (b : ℕ) (rest : List ℕ) → Spelt b rest (spelled_byte b)
spelt_byte b rest =
    cond_both (eqb b 34) _ _ (Spelt b rest) (λ t. ap (λ (x : ℕ). x ∷ unescape false rest) (sym (eqb-true b 34 t))) (λ f34.
    cond_both (eqb b 92) _ _ (Spelt b rest) (λ t. ap (λ (x : ℕ). x ∷ unescape false rest) (sym (eqb-true b 92 t))) (λ f92.
    cond_both (eqb b 10) _ _ (Spelt b rest) (λ t. ap (λ (x : ℕ). x ∷ unescape false rest) (sym (eqb-true b 10 t))) (λ f10.
    cond_both (eqb b 13) _ _ (Spelt b rest) (λ t. ap (λ (x : ℕ). x ∷ unescape false rest) (sym (eqb-true b 13 t))) (λ f13.
    cond_both (eqb b 9) _ _ (Spelt b rest) (λ t. ap (λ (x : ℕ). x ∷ unescape false rest) (sym (eqb-true b 9 t))) (λ f9.
    rw f92 refl)))))

string_spelt : (s : List ℕ) → unescaped (flat_map spelled_byte s) ≡ s
string_spelt [] = refl
string_spelt (b ∷ s) = spelt_byte b (flat_map spelled_byte s) ∙ ap (λ (x : List ℕ). b ∷ x) (string_spelt s)

string_is_front : (bytes : List ℕ) → front_of (34 ∷ bytes) ≡ string_front (string_len false bytes) bytes
unfolding front_of
string_is_front bytes = refl

pub lexed_string : (s rest : List ℕ) (xs : List Lexeme) → Lexed rest xs → Lexed (quote s ++ rest) (string s ∷ xs)
lexed_string s rest xs h =
    let q = flat_map spelled_byte s in
    let behind = q ++ 34 ∷ rest in
    let whole_text : quote s ++ rest ≡ 34 ∷ behind = ap (λ (x : List ℕ). 34 ∷ x) (append_assoc q (34 ∷ []) rest) in
    let front : front_of (34 ∷ behind) ≡ lexeme (string s) (length q + 2)
    = string_is_front behind ∙ ap (λ (o : Option ℕ). string_front o behind) (string_measured s rest)
    ∙ ap (λ (w : List ℕ). lexeme (string (unescaped w)) (length q + 2)) (take_at q (34 ∷ rest) (length q) refl) ∙ ap (λ (w : List ℕ). lexeme (string w) (length q + 2)) (string_spelt s) in
    let two : length q + 2 ≡ suc (length q + 1) = omega arith in
    let left : drop (length q + 2) (34 ∷ behind) ≡ rest
    = ap (λ (n : ℕ). drop n (34 ∷ behind)) two ∙ ap (drop (length q + 1)) (sym (append_assoc q (34 ∷ []) rest)) ∙ drop_at (q ++ 34 ∷ []) rest (length q + 1) (length-append q (34 ∷ [])) in
    subst (λ (x : List ℕ). Lexed x (string s ∷ xs)) (sym whole_text)
    (lexed_token (length q + 2) (string s) (34 ∷ behind) xs front (omega arith) (omega arith) (subst (λ (x : List ℕ). Lexed x xs) (sym left) h))

-- ---- signs, as they are printed

pub infix_lexed : (op : Binary) (rest : List ℕ) (xs : List Lexeme) → Lexed rest xs → Lexed (infix_text op ++ rest) (operator op ∷ xs)
unfolding front_of
infix_lexed ops.Or rest xs h = skips 32 _ _ refl (two_bytes 124 124 (operator ops.Or) _ xs refl (skips 32 rest xs refl h))
infix_lexed ops.And rest xs h = skips 32 _ _ refl (two_bytes 38 38 (operator ops.And) _ xs refl (skips 32 rest xs refl h))
infix_lexed ops.Equal rest xs h = skips 32 _ _ refl (two_bytes 61 61 (operator ops.Equal) _ xs refl (skips 32 rest xs refl h))
infix_lexed ops.NotEqual rest xs h = skips 32 _ _ refl (two_bytes 33 61 (operator ops.NotEqual) _ xs refl (skips 32 rest xs refl h))
infix_lexed ops.Less rest xs h = skips 32 _ _ refl (one_byte 60 (operator ops.Less) _ xs refl (skips 32 rest xs refl h))
infix_lexed ops.AtMost rest xs h = skips 32 _ _ refl (two_bytes 60 61 (operator ops.AtMost) _ xs refl (skips 32 rest xs refl h))
infix_lexed ops.Greater rest xs h = skips 32 _ _ refl (one_byte 62 (operator ops.Greater) _ xs refl (skips 32 rest xs refl h))
infix_lexed ops.AtLeast rest xs h = skips 32 _ _ refl (two_bytes 62 61 (operator ops.AtLeast) _ xs refl (skips 32 rest xs refl h))
infix_lexed ops.Plus rest xs h = skips 32 _ _ refl (one_byte 43 (operator ops.Plus) _ xs refl (skips 32 rest xs refl h))
infix_lexed ops.Minus rest xs h = skips 32 _ _ refl (one_byte 45 (operator ops.Minus) _ xs refl (skips 32 rest xs refl h))
infix_lexed ops.Times rest xs h = skips 32 _ _ refl (one_byte 42 (operator ops.Times) _ xs refl (skips 32 rest xs refl h))
infix_lexed ops.Divide rest xs h = skips 32 _ _ refl (one_byte 47 (operator ops.Divide) _ xs refl (skips 32 rest xs refl h))
infix_lexed ops.Remainder rest xs h = skips 32 _ _ refl (one_byte 37 (operator ops.Remainder) _ xs refl (skips 32 rest xs refl h))

-- `!` before anything but `=`
prefix_lexed : (s : Unary) (rest : List ℕ) (xs : List Lexeme) → next_is 61 rest ≡ false → Lexed rest xs → Lexed (prefix_text s ++ rest) (prefix_lexeme s ∷ xs)
unfolding front_of
prefix_lexed prefixes.Minus rest xs n h = one_byte 45 (operator ops.Minus) rest xs refl h
prefix_lexed prefixes.Not rest xs n h = one_byte 33 (sign signs.Not) rest xs (ap (λ (t : Bool). cond t (lexeme (operator ops.NotEqual) 2) (lexeme (sign signs.Not) 1)) n) h

pub opens_lexed : (rest : List ℕ) (xs : List Lexeme) → Lexed rest xs → Lexed (40 ∷ rest) (sign signs.Open ∷ xs)
unfolding front_of
opens_lexed rest xs h = one_byte 40 (sign signs.Open) rest xs refl h

pub closes_lexed : (rest : List ℕ) (xs : List Lexeme) → Lexed rest xs → Lexed (41 ∷ rest) (sign signs.Close ∷ xs)
unfolding front_of
closes_lexed rest xs h = one_byte 41 (sign signs.Close) rest xs refl h

pub space_lexed : (rest : List ℕ) (xs : List Lexeme) → Lexed rest xs → Lexed (32 ∷ rest) xs
unfolding front_of
space_lexed rest xs h = skips 32 rest xs refl h

pub line_lexed : (rest : List ℕ) (xs : List Lexeme) → Lexed rest xs → Lexed (10 ∷ rest) xs
unfolding front_of
line_lexed rest xs h = skips 10 rest xs refl h

pub semicolon_lexed : (rest : List ℕ) (xs : List Lexeme) → Lexed rest xs → Lexed (59 ∷ rest) (sign signs.Semicolon ∷ xs)
unfolding front_of
semicolon_lexed rest xs h = one_byte 59 (sign signs.Semicolon) rest xs refl h

-- `=` and a space
pub assign_lexed : (rest : List ℕ) (xs : List Lexeme) → Lexed rest xs → Lexed (61 ∷ 32 ∷ rest) (sign signs.Assign ∷ xs)
unfolding front_of
assign_lexed rest xs h = one_byte 61 (sign signs.Assign) (32 ∷ rest) xs refl (skips 32 rest xs refl h)

comma_lexed : (rest : List ℕ) (xs : List Lexeme) → Lexed rest xs → Lexed (44 ∷ 32 ∷ rest) (sign signs.Comma ∷ xs)
unfolding front_of
comma_lexed rest xs h = one_byte 44 (sign signs.Comma) (32 ∷ rest) xs refl (skips 32 rest xs refl h)

colon_lexed : (rest : List ℕ) (xs : List Lexeme) → Lexed rest xs → Lexed (58 ∷ 32 ∷ rest) (sign signs.Colon ∷ xs)
unfolding front_of
colon_lexed rest xs h = one_byte 58 (sign signs.Colon) (32 ∷ rest) xs refl (skips 32 rest xs refl h)

message_lexed : (rest : List ℕ) (xs : List Lexeme) → Lexed rest xs → Lexed (codes "$message." ++ rest) (sign signs.Message ∷ sign signs.Dot ∷ xs)
unfolding front_of
message_lexed rest xs h = lexed_token 8 (sign signs.Message) (codes "$message." ++ rest) (sign signs.Dot ∷ xs) refl (omega arith) (omega arith) (one_byte 46 (sign signs.Dot) rest xs refl h)

-- ---- trees

-- numbers that a text can spell
abbrev pub IsSpelledNumber : ℤ → Type 0
IsSpelledNumber z = (n : ℕ) × (z ≡ pos n) × (n < 2 ^ 63)

abbrev pub IsNaming : Option (List ℕ) → Type 0
IsNaming None = Unit {0}
IsNaming (Some n) = IsName n

-- each name and number of it can be spelled
abbrev mutual
  pub IsPlain : Tree → Type 0
  IsPlain (text s) = Unit {0}
  IsPlain (whole z) = IsSpelledNumber z
  IsPlain (boolean b) = Unit {0}
  IsPlain (field f) = IsName f
  IsPlain (variable x) = IsName x
  IsPlain (unary s e) = IsPlain e
  IsPlain (binary op a b) = IsPlain a × IsPlain b
  IsPlain (call f given) = IsName f × ArePlain given

  pub ArePlain : Arguments → Type 0
  ArePlain none = Unit {0}
  ArePlain (argument n e given) = IsNaming n × IsPlain e × ArePlain given

-- this text before anything that ends a word is cut into these tokens
abbrev pub Lexes : List ℕ → List Lexeme → Type 0
Lexes body ls = (rest : List ℕ) (xs : List Lexeme) → Stops rest → Lexed rest xs → Lexed (body ++ rest) (ls ++ xs)

relexed : (a b : List ℕ) (xs ys : List Lexeme) → a ≡ b → xs ≡ ys → Lexed a xs → Lexed b ys
relexed a b xs ys e f h = subst (λ (y : List ℕ). Lexed y ys) e (subst (Lexed a) f h)

operand_lexes : (t : Bool) (body : List ℕ) (f : Form) → Lexes body (spelled f) → Lexes (operand t body) (spelled (operand_form t f))
operand_lexes true body f h rest xs stops k =
    opens_lexed ((body ++ 41 ∷ []) ++ rest) ((spelled f ++ sign signs.Close ∷ []) ++ xs)
    (relexed (body ++ 41 ∷ rest) ((body ++ 41 ∷ []) ++ rest) (spelled f ++ sign signs.Close ∷ xs) ((spelled f ++ sign signs.Close ∷ []) ++ xs) (sym (append_assoc body (41 ∷ []) rest)) (sym (append_assoc (spelled f) (sign signs.Close ∷ []) xs))
    (h (41 ∷ rest) (sign signs.Close ∷ xs) refl (closes_lexed rest xs k)))
operand_lexes false body f h rest xs stops k = h rest xs stops k

letter_no_equals : (b : ℕ) → is_letter b ≡ true → eqb b 61 ≡ false
letter_no_equals b h = grind arith

digit_no_equals : (b : ℕ) → is_ascii_digit b ≡ true → eqb b 61 ≡ false
digit_no_equals b h = grind arith

name_no_equals : (n rest : List ℕ) → is_letter (get_or n 0 0) ≡ true → next_is 61 (n ++ rest) ≡ false
name_no_equals [] rest h = absurd cc
name_no_equals (b ∷ n) rest h = letter_no_equals b h

digits_no_equals : (ds rest : List ℕ) → prefix_len is_ascii_digit ds ≡ length ds → 0 < length ds → next_is 61 (ds ++ rest) ≡ false
digits_no_equals [] rest all some = absurd (omega arith)
digits_no_equals (b ∷ ds) rest all some = digit_no_equals b (run_step is_ascii_digit b ds all).0

-- no operand begins with `=`
operand_no_equals : (t : Tree) (rest : List ℕ) → IsPlain t → next_is 61 (operand (is_operation t) (tree_text t) ++ rest) ≡ false
operand_no_equals (text s) rest p = refl
operand_no_equals (whole z) rest p =
    let small : p.0 < 2 ^ 64 = omega (arith, p.2) in
    ap (λ (x : ℤ). next_is 61 (signed_decimal x ++ rest)) p.1 ∙ digits_no_equals (decimal_text p.0) rest (digits_decimal digits_model p.0 small) (decimal_nonempty p.0 small)
operand_no_equals (boolean true) rest p = refl
operand_no_equals (boolean false) rest p = refl
operand_no_equals (field f) rest p = refl
operand_no_equals (variable x) rest p = name_no_equals x rest p.is_word.starts
operand_no_equals (unary s e) rest p = refl
operand_no_equals (binary op a b) rest p = refl
operand_no_equals (call f given) rest p = ap (next_is 61) (append_assoc f (40 ∷ (listed [] given ++ 41 ∷ [])) rest) ∙ name_no_equals f _ p.0.is_word.starts

naming_lexed : (n : Option (List ℕ)) (rest : List ℕ) (xs : List Lexeme) → IsNaming n → Lexed rest xs → Lexed (name_text n ++ rest) (naming n ++ xs)
naming_lexed None rest xs is h = h
naming_lexed (Some n) rest xs is h = subst (λ (y : List ℕ). Lexed y (name n ∷ sign signs.Colon ∷ xs)) (sym (append_assoc n (58 ∷ 32 ∷ []) rest)) (lexed_name n (58 ∷ 32 ∷ rest) (sign signs.Colon ∷ xs) is refl (colon_lexed rest xs h))

infix_stops : (op : Binary) (rest : List ℕ) → Stops (infix_text op ++ rest)
infix_stops ops.Or rest = refl
infix_stops ops.And rest = refl
infix_stops ops.Equal rest = refl
infix_stops ops.NotEqual rest = refl
infix_stops ops.Less rest = refl
infix_stops ops.AtMost rest = refl
infix_stops ops.Greater rest = refl
infix_stops ops.AtLeast rest = refl
infix_stops ops.Plus rest = refl
infix_stops ops.Minus rest = refl
infix_stops ops.Times rest = refl
infix_stops ops.Divide rest = refl
infix_stops ops.Remainder rest = refl

listed_stops : (given : Arguments) (rest : List ℕ) → Stops (listed (44 ∷ 32 ∷ []) given ++ 41 ∷ rest)
listed_stops none rest = refl
listed_stops (argument n e given) rest = refl

regroup : {A : Type 0} (a b c d : List A) → (a ++ (b ++ c)) ++ d ≡ a ++ (b ++ (c ++ d))
regroup a b c d = append_assoc a (b ++ c) d ∙ ap (λ x. a ++ x) (append_assoc b c d)

argument_lexed : (n : Option (List ℕ)) (e : Tree) (given : Arguments) → IsNaming n → (rest : List ℕ) (xs : List Lexeme) → Lexed (tree_text e ++ (listed (44 ∷ 32 ∷ []) given ++ 41 ∷ rest)) (spelled (form_of e) ++ (rest_spelled (forms_of given) ++ xs))
    → Lexed ((name_text n ++ (tree_text e ++ listed (44 ∷ 32 ∷ []) given)) ++ 41 ∷ rest) ((naming n ++ (spelled (form_of e) ++ rest_spelled (forms_of given))) ++ xs)
argument_lexed n e given is rest xs h =
    relexed (name_text n ++ (tree_text e ++ (listed (44 ∷ 32 ∷ []) given ++ 41 ∷ rest))) ((name_text n ++ (tree_text e ++ listed (44 ∷ 32 ∷ []) given)) ++ 41 ∷ rest)
    (naming n ++ (spelled (form_of e) ++ (rest_spelled (forms_of given) ++ xs))) ((naming n ++ (spelled (form_of e) ++ rest_spelled (forms_of given))) ++ xs)
    (sym (regroup (name_text n) (tree_text e) (listed (44 ∷ 32 ∷ []) given) (41 ∷ rest))) (sym (regroup (naming n) (spelled (form_of e)) (rest_spelled (forms_of given)) xs))
    (naming_lexed n (tree_text e ++ (listed (44 ∷ 32 ∷ []) given ++ 41 ∷ rest)) (spelled (form_of e) ++ (rest_spelled (forms_of given) ++ xs)) is h)

mutual
  pub tree_lexes : (t : Tree) → IsPlain t → Lexes (tree_text t) (spelled (form_of t))
  tree_lexes (text s) p rest xs stops h = lexed_string s rest xs h
  tree_lexes (whole z) p rest xs stops h = subst (λ (x : ℤ). Lexed (signed_decimal x ++ rest) (number x ∷ xs)) (sym p.1) (lexed_number p.0 rest xs p.2 stops h)
  tree_lexes (boolean true) p rest xs stops h = lexed_word (codes "true") (sign signs.True) rest xs (record { starts = refl; all = refl }) refl stops h
  tree_lexes (boolean false) p rest xs stops h = lexed_word (codes "false") (sign signs.False) rest xs (record { starts = refl; all = refl }) refl stops h
  tree_lexes (field f) p rest xs stops h = message_lexed (f ++ rest) (name f ∷ xs) (lexed_name f rest xs p stops h)
  tree_lexes (variable x) p rest xs stops h = lexed_name x rest xs p stops h
  tree_lexes (unary s e) p rest xs stops h =
      subst (λ (y : List ℕ). Lexed y (prefix_lexeme s ∷ (spelled (operand_form (is_operation e) (form_of e)) ++ xs))) (sym (append_assoc (prefix_text s) (operand (is_operation e) (tree_text e)) rest))
      (prefix_lexed s (operand (is_operation e) (tree_text e) ++ rest) (spelled (operand_form (is_operation e) (form_of e)) ++ xs) (operand_no_equals e rest p)
      (operand_lexes (is_operation e) (tree_text e) (form_of e) (tree_lexes e p) rest xs stops h))
  tree_lexes (binary op a b) p rest xs stops h =
      let left_text = operand (is_operation a) (tree_text a) in let right_text = operand (is_operation b) (tree_text b) in
      let left_form = spelled (operand_form (is_operation a) (form_of a)) in let right_form = spelled (operand_form (is_operation b) (form_of b)) in
      relexed (left_text ++ (infix_text op ++ (right_text ++ rest))) ((left_text ++ (infix_text op ++ right_text)) ++ rest) (left_form ++ operator op ∷ (right_form ++ xs)) ((left_form ++ operator op ∷ right_form) ++ xs)
      (sym (regroup left_text (infix_text op) right_text rest)) (sym (append_assoc left_form (operator op ∷ right_form) xs))
      (operand_lexes (is_operation a) (tree_text a) (form_of a) (tree_lexes a p.0) (infix_text op ++ (right_text ++ rest)) (operator op ∷ (right_form ++ xs)) (infix_stops op (right_text ++ rest))
      (infix_lexed op (right_text ++ rest) (right_form ++ xs)
      (operand_lexes (is_operation b) (tree_text b) (form_of b) (tree_lexes b p.1) rest xs stops h)))
  tree_lexes (call f given) p rest xs stops h =
      relexed (f ++ 40 ∷ (listed [] given ++ 41 ∷ rest)) ((f ++ 40 ∷ (listed [] given ++ 41 ∷ [])) ++ rest) (name f ∷ sign signs.Open ∷ (first_spelled (forms_of given) ++ xs)) (name f ∷ sign signs.Open ∷ (first_spelled (forms_of given) ++ xs))
      (ap (λ (y : List ℕ). f ++ 40 ∷ y) (sym (append_assoc (listed [] given) (41 ∷ []) rest)) ∙ sym (append_assoc f (40 ∷ (listed [] given ++ 41 ∷ [])) rest)) refl
      (lexed_name f (40 ∷ (listed [] given ++ 41 ∷ rest)) (sign signs.Open ∷ (first_spelled (forms_of given) ++ xs)) p.0 refl
      (opens_lexed (listed [] given ++ 41 ∷ rest) (first_spelled (forms_of given) ++ xs) (first_lexed given p.1 rest xs h)))

  -- the arguments of a call, and its closing parenthesis
  pub first_lexed : (given : Arguments) → ArePlain given → (rest : List ℕ) (xs : List Lexeme) → Lexed rest xs → Lexed (listed [] given ++ 41 ∷ rest) (first_spelled (forms_of given) ++ xs)
  first_lexed none p rest xs h = closes_lexed rest xs h
  first_lexed (argument n e given) p rest xs h = argument_lexed n e given p.0 rest xs (tree_lexes e p.1 (listed (44 ∷ 32 ∷ []) given ++ 41 ∷ rest) (rest_spelled (forms_of given) ++ xs) (listed_stops given rest) (rest_lexed given p.2 rest xs h))

  rest_lexed : (given : Arguments) → ArePlain given → (rest : List ℕ) (xs : List Lexeme) → Lexed rest xs → Lexed (listed (44 ∷ 32 ∷ []) given ++ 41 ∷ rest) (rest_spelled (forms_of given) ++ xs)
  rest_lexed none p rest xs h = closes_lexed rest xs h
  rest_lexed (argument n e given) p rest xs h =
      comma_lexed ((name_text n ++ (tree_text e ++ listed (44 ∷ 32 ∷ []) given)) ++ 41 ∷ rest) ((naming n ++ (spelled (form_of e) ++ rest_spelled (forms_of given))) ++ xs)
      (argument_lexed n e given p.0 rest xs (tree_lexes e p.1 (listed (44 ∷ 32 ∷ []) given ++ 41 ∷ rest) (rest_spelled (forms_of given) ++ xs) (listed_stops given rest) (rest_lexed given p.2 rest xs h)))
