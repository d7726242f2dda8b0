-- What the inside of a string says.
use Rattle.std.proofs.Common.{◌≡◌, ℕ, zero, suc, ◌+◌, ◌-◌, ◌<◌, ◌≤◌, ◌&&◌, Bool, true, false, cond, List, [], ◌∷◌, ◌++◌, length, Option, Some, None, Result, Ok, Err, refl, sym, ap, subst, ◌∙◌, arith, append_assoc, append-nil}
use Rattle.std.proofs.lemmas.Bool.{and_from, and_parts}
use Rattle.std.proofs.lemmas.List.{length-append}
use Rattle.std.proofs.lemmas.Str.{IsUtf8-append, IsUtf8-nil, IsUtf8-encode}
use Rattle.std.specs.Prelude.{IfSome, IfOk}
use Rattle.std.specs.Int.{is_in_range}
use Rattle.std.specs.List.{list_all}
use Rattle.std.specs.Str.{IsUtf8}
use lib.Utf8.{scalar, encode}
use Rattle.gl_json.specs.declared.bytes.Stop.{Stop}
use Rattle.gl_json.specs.declared.chars.Char.{Char}
use Rattle.gl_json.specs.declared.chars.Char.TheVariants.{One, Two, Three, Four, Escape, Unicode}
use Rattle.gl_json.specs.declared.refusal.JsonRefusal.{JsonRefusal}
use Rattle.gl_json.specs.Chars.{char_bytes, is_char, is_tail, is_second, is_plain, is_escape, AreChars, inside}
use Rattle.gl_json.specs.Escapes.{meaning, hex_value, code_unit, is_high, is_low, replacement, lone, scalar_text, surrogate_pair, unit_alone, unit_text, char_text, waits, decoded_behind, decoded, Says, said_by, chars_of, text_of}
use Rattle.gl_json.specs.JsonReading.{◌>>=◌, past, char_at, before}
use Rattle.gl_json.specs.Places.{refused, Answers}
use Rattle.gl_json.proofs.Taking.{bound, goes_on, ok_is, before_is, past_is}
use Rattle.gl_json.proofs.CharRead.{char_sound, char_complete, char_shorter, char_some}
use Rattle.gl_json.proofs.Encoding.{within, utf8_one, utf8_two, utf8_three, utf8_four}
use Rattle.gl_json.proofs.Whole.{refused_ok}

-- what is said is UTF-8

utf8_replacement : IsUtf8 replacement
unfolding encode
utf8_replacement = IsUtf8-encode 65533 refl

utf8_lone : (waiting : Option ℕ) → IsUtf8 (lone waiting)
utf8_lone None = IsUtf8-nil
utf8_lone (Some high) = utf8_replacement

scalar_other : (u : ℕ) → u < 1114112 → is_in_range 55296 57343 u ≡ false → scalar u ≡ true
scalar_other u h k = grind arith

utf8_scalar : (u : ℕ) (t : Bool) → u < 1114112 → is_in_range 55296 57343 u ≡ t → IsUtf8 (cond t replacement (encode u))
utf8_scalar u true h e = utf8_replacement
utf8_scalar u false h e = IsUtf8-encode u (scalar_other u h e)

utf8_alone : (u : ℕ) (t : Bool) → u < 65536 → is_high u ≡ t → IsUtf8 (cond t [] (scalar_text u))
utf8_alone u true h e = IsUtf8-nil
utf8_alone u false h e = utf8_scalar u (is_in_range 55296 57343 u) (omega (arith, h)) refl

pair_few : (high low : ℕ) → is_high high ≡ true → is_low low ≡ true → surrogate_pair high low < 1114112
pair_few high low h l =
    let a = within 55296 56319 high h in
    let b = within 56320 57343 low l in
    omega (arith, a.low, a.high, b.low, b.high)

utf8_pair : (high u : ℕ) (t : Bool) → u < 65536 → is_high high ≡ true → is_low u ≡ t → IsUtf8 (cond t (scalar_text (surrogate_pair high u)) (replacement ++ unit_alone u))
utf8_pair high u true h k e = utf8_scalar (surrogate_pair high u) (is_in_range 55296 57343 (surrogate_pair high u)) (pair_few high u k e) refl
utf8_pair high u false h k e = IsUtf8-append replacement (unit_alone u) utf8_replacement (utf8_alone u (is_high u) h refl)

utf8_unit : (waiting : Option ℕ) (u : ℕ) → u < 65536 → IfSome waiting (λ h. is_high h ≡ true) → IsUtf8 (unit_text waiting u)
utf8_unit None u h k = utf8_alone u (is_high u) h refl
utf8_unit (Some high) u h k = utf8_pair high u (is_low u) h k refl

hex_few : (b : ℕ) → hex_value b < 16
hex_few b = grind arith

unit_few : (a b c d : ℕ) → code_unit a b c d < 65536
unit_few a b c d = omega (arith, hex_few a, hex_few b, hex_few c, hex_few d)

pub plain_low : (a : ℕ) → is_plain a ≡ true → a < 128
plain_low a h = grind arith

meaning_low : (b : ℕ) → is_escape b ≡ true → meaning b < 128
meaning_low b h = grind arith

utf8_char : (waiting : Option ℕ) (c : Char) → is_char c ≡ true → IfSome waiting (λ h. is_high h ≡ true) → IsUtf8 (char_text waiting c)
unfolding char_text
utf8_char waiting (One a) h k = IsUtf8-append (lone waiting) (a ∷ []) (utf8_lone waiting) (utf8_one a (plain_low a h))
utf8_char waiting (Two a b) h k =
    let p = and_parts (is_in_range 194 223 a) (is_tail b) h in
    IsUtf8-append (lone waiting) (a ∷ b ∷ []) (utf8_lone waiting) (utf8_two a b p.0 p.1)
utf8_char waiting (Three a b c) h k =
    let p = and_parts (is_in_range 224 239 a && is_second a b) (is_tail c) h in
    let q = and_parts (is_in_range 224 239 a) (is_second a b) p.0 in
    IsUtf8-append (lone waiting) (a ∷ b ∷ c ∷ []) (utf8_lone waiting) (utf8_three a b c q.0 q.1 p.1)
utf8_char waiting (Four a b c d) h k =
    let o = and_parts (is_in_range 240 244 a && is_second a b && is_tail c) (is_tail d) h in
    let p = and_parts (is_in_range 240 244 a && is_second a b) (is_tail c) o.0 in
    let q = and_parts (is_in_range 240 244 a) (is_second a b) p.0 in
    IsUtf8-append (lone waiting) (a ∷ b ∷ c ∷ d ∷ []) (utf8_lone waiting) (utf8_four a b c d q.0 q.1 p.1 o.1)
utf8_char waiting (Escape b) h k = IsUtf8-append (lone waiting) (meaning b ∷ []) (utf8_lone waiting) (utf8_one (meaning b) (meaning_low b h))
utf8_char waiting (Unicode a b c d) h k = utf8_unit waiting (code_unit a b c d) (unit_few a b c d) k

high_unit : (u : ℕ) (t : Bool) → is_high u ≡ t → IfSome (cond t (Some u) None) (λ h. is_high h ≡ true)
high_unit u true e = e
high_unit u false e = tt

high_waits : (c : Char) → IfSome (waits c) (λ h. is_high h ≡ true)
unfolding waits
high_waits (One a) = tt
high_waits (Two a b) = tt
high_waits (Three a b c) = tt
high_waits (Four a b c d) = tt
high_waits (Escape b) = tt
high_waits (Unicode a b c d) = high_unit (code_unit a b c d) (is_high (code_unit a b c d)) refl

-- the loop's turns

abbrev pub with_text : List ℕ → Result (List ℕ) Stop → Result (List ℕ) Stop
with_text out (Ok text) = Ok (out ++ text)
with_text out (Err stop) = Err stop

pub record Spelling (raw out : List ℕ) (waiting : Option ℕ) (rest : List ℕ) : Type 0 where
  pub turns : ℕ
  pub enough : length rest ≤ turns
  pub same : with_text out (said_by waiting (chars_of turns rest)) ≡ said_by None (chars_of (length raw) raw)
  pub utf8 : IsUtf8 out
  pub high : IfSome waiting (λ h. is_high h ≡ true)

text_none : (r : Result (List ℕ) Stop) → with_text [] r ≡ r
text_none (Ok text) = refl
text_none (Err stop) = refl

pub spell_starts : (raw out : List ℕ) → out ≡ [] → Spelling raw out None raw
spell_starts raw out e = subst (λ (l : List ℕ). Spelling raw l None raw) (sym e) (record {
  turns = length raw;
  enough = omega arith;
  same = text_none (said_by None (chars_of (length raw) raw));
  utf8 = IsUtf8-nil;
  high = tt;
})

turn : (n : ℕ) (bytes : List ℕ) → 0 < length bytes → length bytes ≤ n → chars_of n bytes ≡ (char_at bytes >>= (λ c. chars_of (n - 1) c.1 >>= (λ cs. Ok (c.0 ∷ cs))))
unfolding chars_of
turn n [] some enough = absurd (omega arith)
turn zero (b ∷ bytes) some enough = absurd (omega arith)
turn (suc n) (b ∷ bytes) some enough = let one : suc n - 1 ≡ n = omega arith in rw one refl

turn_none : (n : ℕ) (bytes : List ℕ) → length bytes ≡ 0 → chars_of n bytes ≡ Ok []
unfolding chars_of
turn_none zero [] h = refl
turn_none (suc n) [] h = refl
turn_none n (b ∷ bytes) h = absurd (omega arith)

pub spell_stop : (raw out : List ℕ) (waiting : Option ℕ) (rest : List ℕ) (s : Stop) → Spelling raw out waiting rest → 0 < length rest → char_at rest ≡ Err s
    → said_by None (chars_of (length raw) raw) ≡ Err s
spell_stop raw out waiting rest s k some e =
    sym k.same ∙ ap (λ (r : Result (List Char) Stop). with_text out (said_by waiting r)) (turn k.turns rest some k.enough
    ∙ ap (λ (r : Result (Char × List ℕ) Stop). r >>= (λ c. chars_of (k.turns - 1) c.1 >>= (λ cs. Ok (c.0 ∷ cs)))) e)

text_also : (out : List ℕ) (waiting : Option ℕ) (c : Char) (r : Result (List Char) Stop)
    → with_text out (said_by waiting (r >>= (λ cs. Ok (c ∷ cs)))) ≡ with_text (out ++ char_text waiting c) (said_by (waits c) r)
unfolding decoded_behind
text_also out waiting c (Ok cs) = ap Ok (sym (append_assoc out (char_text waiting c) (decoded_behind (waits c) cs)))
text_also out waiting c (Err s) = refl

pub spell_goes : (raw out more : List ℕ) (waiting : Option ℕ) (rest : List ℕ) (y : Char × List ℕ) → Spelling raw out waiting rest → 0 < length rest → char_at rest ≡ Ok y
    → more ≡ out ++ char_text waiting y.0 → Spelling raw more (waits y.0) y.1
spell_goes raw out more waiting rest y k some e grown = subst (λ (l : List ℕ). Spelling raw l (waits y.0) y.1) (sym grown) (record {
  turns = k.turns - 1;
  enough = omega (arith, char_shorter rest y e, k.enough);
  same = sym (ap (λ (r : Result (List Char) Stop). with_text out (said_by waiting r)) (turn k.turns rest some k.enough
      ∙ goes_on (char_at rest) (λ c. chars_of (k.turns - 1) c.1 >>= (λ cs. Ok (c.0 ∷ cs))) y e)
      ∙ text_also out waiting y.0 (chars_of (k.turns - 1) y.1)) ∙ k.same;
  utf8 = IsUtf8-append out (char_text waiting y.0) k.utf8 (utf8_char waiting y.0 (char_sound rest y e).is k.high);
  high = high_waits y.0;
})

-- plain bytes say themselves
spell_run : (raw out front rest : List ℕ) → list_all is_plain front ≡ true → Spelling raw out None (front ++ rest) → Spelling raw (out ++ front) None rest
unfolding char_text waits
spell_run raw out [] rest are k = subst (λ (l : List ℕ). Spelling raw l None rest) (sym (append-nil out)) k
spell_run raw out (b ∷ front) rest are k =
    let p = and_parts (is_plain b) (list_all is_plain front) are in
    subst (λ (l : List ℕ). Spelling raw l None rest) (append_assoc out (b ∷ []) front)
    (spell_run raw (out ++ b ∷ []) front rest p.1
    (spell_goes raw out (out ++ b ∷ []) None (b ∷ (front ++ rest)) (One b, front ++ rest) k (omega arith) (char_complete (One b) (front ++ rest) p.0) refl))

spell_front : (raw out : List ℕ) (waiting : Option ℕ) (front rest : List ℕ) → 0 < length front → list_all is_plain front ≡ true → Spelling raw out waiting (front ++ rest)
    → Spelling raw ((out ++ lone waiting) ++ front) None rest
unfolding char_text waits
spell_front raw out waiting [] rest some are k = absurd (omega arith)
spell_front raw out waiting (b ∷ front) rest some are k =
    let p = and_parts (is_plain b) (list_all is_plain front) are in
    let grown : (out ++ lone waiting) ++ b ∷ [] ≡ out ++ char_text waiting (One b) = append_assoc out (lone waiting) (b ∷ []) in
    subst (λ (l : List ℕ). Spelling raw l None rest) (append_assoc (out ++ lone waiting) (b ∷ []) front)
    (spell_run raw ((out ++ lone waiting) ++ b ∷ []) front rest p.1
    (spell_goes raw out ((out ++ lone waiting) ++ b ∷ []) waiting (b ∷ (front ++ rest)) (One b, front ++ rest) k (omega arith) (char_complete (One b) (front ++ rest) p.0) grown))

pub spell_past : (raw out more : List ℕ) (waiting : Option ℕ) (rest behind plain : List ℕ) → Spelling raw out waiting rest → behind ≡ past is_plain rest → length behind < length rest
    → plain ≡ before behind rest → more ≡ (out ++ lone waiting) ++ plain → Spelling raw more None behind
spell_past raw out more waiting rest behind plain k passed fewer plain_is grown =
    let p = past_is is_plain rest in
    let text : rest ≡ p.front ++ behind = p.text ∙ ap (λ (l : List ℕ). p.front ++ l) (sym passed) in
    let front : plain ≡ p.front = plain_is ∙ ap (before behind) text ∙ before_is p.front behind in
    let some : 0 < length p.front = omega (arith, fewer, ap length text, length-append p.front behind) in
    subst (λ (l : List ℕ). Spelling raw l None behind) (sym (grown ∙ ap (λ (l : List ℕ). (out ++ lone waiting) ++ l) front))
    (spell_front raw out waiting p.front behind some p.are (subst (Spelling raw out waiting) text k))

pub spell_ends : (raw out more : List ℕ) (waiting : Option ℕ) (rest : List ℕ) → Spelling raw out waiting rest → length rest ≡ 0 → more ≡ out ++ lone waiting
    → said_by None (chars_of (length raw) raw) ≡ Ok more
unfolding decoded_behind
spell_ends raw out more waiting rest k none grown =
    sym k.same ∙ ap (λ (r : Result (List Char) Stop). with_text out (said_by waiting r)) (turn_none k.turns rest none) ∙ ap Ok (sym grown)

pub spell_utf8 : (raw out more : List ℕ) (waiting : Option ℕ) (rest : List ℕ) → Spelling raw out waiting rest → more ≡ out ++ lone waiting → IsUtf8 more
spell_utf8 raw out more waiting rest k grown = subst IsUtf8 (sym grown) (IsUtf8-append out (lone waiting) k.utf8 (utf8_lone waiting))

-- whole strings

pub record AllChars (bytes : List ℕ) (cs : List Char) : Type 0 where
  pub are : AreChars cs
  pub text : bytes ≡ inside cs

chars_sound : (n : ℕ) (bytes : List ℕ) (cs : List Char) → chars_of n bytes ≡ Ok cs → AllChars bytes cs
unfolding chars_of
chars_sound zero [] cs e = subst (AllChars []) (ok_is [] cs e) (record { are = refl; text = refl })
chars_sound (suc n) [] cs e = subst (AllChars []) (ok_is [] cs e) (record { are = refl; text = refl })
chars_sound zero (b ∷ bytes) cs e = absurd cc
chars_sound (suc n) (b ∷ bytes) cs e =
    let p = bound (char_at (b ∷ bytes)) (λ c. chars_of n c.1 >>= (λ cs. Ok (c.0 ∷ cs))) cs e in
    let q = bound (chars_of n p.0.1) (λ cs. Ok (p.0.0 ∷ cs)) cs p.2 in
    let r = char_sound (b ∷ bytes) p.0 p.1 in
    let a = chars_sound n p.0.1 q.0 q.1 in
    subst (AllChars (b ∷ bytes)) (ok_is (p.0.0 ∷ q.0) cs q.2)
    (record { are = and_from (is_char p.0.0) (list_all is_char q.0) r.is a.are; text = r.text ∙ ap (λ (l : List ℕ). char_bytes p.0.0 ++ l) a.text })

chars_complete : (cs : List Char) (n : ℕ) → AreChars cs → length (inside cs) ≤ n → chars_of n (inside cs) ≡ Ok cs
chars_complete [] n are enough = turn_none n [] refl
chars_complete (c ∷ cs) n are enough =
    let p = and_parts (is_char c) (list_all is_char cs) are in
    let len : length (char_bytes c ++ inside cs) ≡ length (char_bytes c) + length (inside cs) = length-append (char_bytes c) (inside cs) in
    turn n (char_bytes c ++ inside cs) (omega (arith, len, char_some c)) enough
    ∙ goes_on (char_at (char_bytes c ++ inside cs)) (λ d. chars_of (n - 1) d.1 >>= (λ ds. Ok (d.0 ∷ ds))) (c, inside cs) (char_complete c (inside cs) p.0)
    ∙ goes_on (chars_of (n - 1) (inside cs)) (λ ds. Ok (c ∷ ds)) cs (chars_complete cs (n - 1) p.1 (omega (arith, len, char_some c)))

said_ok : (r : Result (List Char) Stop) (text : List ℕ) → said_by None r ≡ Ok text → (cs : List Char) × (r ≡ Ok cs) × (decoded cs ≡ text)
said_ok (Ok cs) text e = (cs, refl, ok_is (decoded cs) text e)
said_ok (Err s) text e = absurd cc

text_says : (raw text : List ℕ) → text_of raw ≡ Ok text → Says raw text
unfolding text_of
text_says raw text e =
    let p = said_ok (chars_of (length raw) raw) text (refused_ok raw (said_by None (chars_of (length raw) raw)) text e) in
    let a = chars_sound (length raw) raw p.0 p.1 in
    record { cs = p.0; are = a.are; written = a.text; said = sym p.2 }

pub text_only : (raw : List ℕ) (cs : List Char) → AreChars cs → raw ≡ inside cs → text_of raw ≡ Ok (decoded cs)
unfolding text_of
text_only raw cs are e =
    let read : chars_of (length raw) raw ≡ Ok cs = ap (chars_of (length raw)) e ∙ chars_complete cs (length raw) are (omega (arith, ap length e)) in
    ap (λ (r : Result (List Char) Stop). refused raw (said_by None r)) read

pub said_found : {X : Type 0} (view : X → List ℕ) (raw : List ℕ) (result : Result X JsonRefusal) → Answers view result (text_of raw) → IfOk result (λ x. Says raw (view x))
said_found view raw (Ok x) h = text_says raw (view x) h
said_found view raw (Err e) h = tt

pub said_only : {X : Type 0} (view : X → List ℕ) (raw : List ℕ) (result : Result X JsonRefusal) (cs : List Char) → AreChars cs → raw ≡ inside cs → Answers view result (text_of raw) → Answers view result (Ok (decoded cs))
said_only view raw result cs are e h = subst (Answers view result) (text_only raw cs are e) h

pub says_read : (raw said : List ℕ) → Says raw said → text_of raw ≡ Ok said
says_read raw said s = text_only raw s.cs s.are s.written ∙ ap (λ (t : List ℕ). Ok t) (sym s.said)

pub read_says : (raw said : List ℕ) → text_of raw ≡ Ok said → Says raw said
read_says raw said e = said_found {X = List ℕ} (λ t. t) raw (Ok said) e
