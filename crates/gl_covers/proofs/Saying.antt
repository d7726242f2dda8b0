-- Where a text is said of a field, each of its words stands in the field; of a number no text with words is said.
use Rattle.std.proofs.Common.{◌≡◌, ℕ, zero, suc, ◌/◌, ◌%◌, ◌<◌, ◌==◌, nat_le, Bool, true, false, not, cond, ◌||◌, List, [], ◌∷◌, map, filter, Option, Some, None, ℤ, pos, negsuc, refl, sym, ap, ◌∙◌, subst, arith}
use Rattle.std.proofs.lemmas.Bool.{and_parts, and_from}
use Rattle.std.proofs.lemmas.Bool.Decides.{nat_tests}
use Rattle.std.specs.Char.{is_ascii_digit, to_ascii_lowercase}
use Rattle.std.specs.Int.{is_in_range}
use Rattle.std.specs.Fmt.{digits, decimal, digits_onto, digit_glyph, signed_decimal}
use Rattle.std.specs.List.{list_all, list_any}
use Rattle.std.specs.Str.{bytes_eq}
use Rattle.gl_fields.specs.Fields.{value_of}
use Rattle.gl_fields.specs.declared.field.Field.{Field}
use Rattle.gl_fields.specs.declared.value.Value.{Value}
use Rattle.gl_fields.specs.declared.value.Value.TheVariants.{Whole}
use Rattle.gl_fields.specs.declared.value.Value.TheVariants as value
use Rattle.gl_query.specs.Matching.{says, holds_of, field_holds}
use Rattle.gl_query.specs.Required.{lower_tokens, is_number, has_token, has_required}
use Rattle.gl_query.specs.Texts.{is_token_byte, put, runs_of, has_some, text_tokens, begins, some_end}
use Rattle.gl_query.proofs.Spelling.{bytes_same}
use Rattle.gl_covers.specs.Covers.{is_word}

-- The text of a number is digits, behind a sign where it is negative.
small_glyph : (d : ℕ) → d < 10 → is_ascii_digit (digit_glyph false d) ≡ true
small_glyph d lt = grind (arith, nat_tests)

-- digits, and at least one
abbrev AreDigits : List ℕ → Type 0
AreDigits text = (has_some text ≡ true) × (list_all is_ascii_digit text ≡ true)

either_way : (x : Bool) (a b : List ℕ) → AreDigits a → AreDigits b → AreDigits (cond x a b)
either_way true a b h k = h
either_way false a b h k = k

onto_digits : (k n : ℕ) (more : List ℕ) → AreDigits more → AreDigits (digits_onto k 10 false n more)
onto_digits zero n more h = h
onto_digits (suc k) n more h =
    let glyph : AreDigits (digit_glyph false (n % 10) ∷ more) = (refl, and_from _ _ (small_glyph (n % 10) (omega arith)) h.1) in
    either_way (n / 10 == 0) _ _ glyph (onto_digits k (n / 10) (digit_glyph false (n % 10) ∷ more) glyph)

decimal_digits : (n : ℕ) → AreDigits (decimal n)
unfolding digits
decimal_digits n =
    let glyph : AreDigits (digit_glyph false (n % 10) ∷ []) = (refl, and_from _ _ (small_glyph (n % 10) (omega arith)) refl) in
    either_way (n / 10 == 0) (digit_glyph false (n % 10) ∷ []) (digits_onto 63 10 false (n / 10) (digit_glyph false (n % 10) ∷ [])) glyph (onto_digits 63 (n / 10) (digit_glyph false (n % 10) ∷ []) glyph)

-- So no word is among its tokens.
digit_of_token : (d : ℕ) → is_ascii_digit d ≡ true → is_token_byte d ≡ true
digit_of_token d h = ap (λ b. b || is_in_range 65 90 d || is_in_range 97 122 d || d == 95 || nat_le 128 d) h

digit_stays : (d : ℕ) → is_ascii_digit d ≡ true → is_ascii_digit (to_ascii_lowercase d) ≡ true
digit_stays d h = grind (arith, nat_tests)

one_run : (d : ℕ) (ds : List ℕ) → AreDigits (d ∷ ds) → runs_of (d ∷ ds) ≡ (d ∷ ds) ∷ []
unfolding runs_of
one_run d [] h = ap (λ b. put b d ([] ∷ [])) (digit_of_token d (and_parts _ _ h.1).0)
one_run d (e ∷ es) h =
    ap (λ b. put b d (runs_of (e ∷ es))) (digit_of_token d (and_parts _ _ h.1).0)
    ∙ ap (put true d) (one_run e es (refl, (and_parts _ _ h.1).1))

abbrev lower : List ℕ → List ℕ
lower token = map to_ascii_lowercase token

lower_digits : (ds : List ℕ) → list_all is_ascii_digit ds ≡ true → is_number (lower ds) ≡ true
lower_digits [] h = refl
lower_digits (d ∷ ds) h = and_from _ _ (digit_stays d (and_parts _ _ h).0) (lower_digits ds (and_parts _ _ h).1)

abbrev HasNoWord : List ℕ → Type 0
HasNoWord text = filter is_word (lower_tokens text) ≡ []

-- a run of digits, and one behind what ends another
no_word : (d : ℕ) (ds : List ℕ) → AreDigits (d ∷ ds) → HasNoWord (d ∷ ds)
unfolding text_tokens
no_word d ds h =
    ap (λ runs. filter is_word (map (map to_ascii_lowercase) (filter has_some runs))) (one_run d ds h)
    ∙ ap (λ b. cond {A = List (List ℕ)} (not b) (lower (d ∷ ds) ∷ []) []) (lower_digits (d ∷ ds) h.1)

no_signed_word : (d : ℕ) (ds : List ℕ) → AreDigits (d ∷ ds) → HasNoWord (45 ∷ d ∷ ds)
unfolding text_tokens runs_of
no_signed_word d ds h =
    ap (λ runs. filter is_word (map (map to_ascii_lowercase) (filter has_some ([] ∷ runs)))) (one_run d ds h)
    ∙ ap (λ b. cond {A = List (List ℕ)} (not b) (lower (d ∷ ds) ∷ []) []) (lower_digits (d ∷ ds) h.1)

of_digits : (ds : List ℕ) → AreDigits ds → HasNoWord ds
of_digits [] h = cc h.0
of_digits (d ∷ ds) h = no_word d ds h

of_negative : (ds : List ℕ) → AreDigits ds → HasNoWord (45 ∷ ds)
of_negative [] h = cc h.0
of_negative (d ∷ ds) h = no_signed_word d ds h

number_has_no_word : (z : ℤ) → HasNoWord (signed_decimal z)
number_has_no_word (pos n) = of_digits (decimal n) (decimal_digits n)
number_has_no_word (negsuc n) = of_negative (decimal (suc n)) (decimal_digits (suc n))

-- Where tokens stand one after another among others, each is one of those.

-- each of the first, in lower case, is one of the others
abbrev AreAmong : List (List ℕ) → List (List ℕ) → Type 0
AreAmong ws ts = list_all (λ w. list_any (bytes_eq (lower w)) (map lower ts)) ws ≡ true

among_more : (ws : List (List ℕ)) (t : List ℕ) (ts : List (List ℕ)) → AreAmong ws ts → AreAmong ws (t ∷ ts)
among_more [] t ts h = refl
among_more (w ∷ ws) t ts h = and_from _ _ (found (bytes_eq (lower w) (lower t)) (and_parts _ _ h).0) (among_more ws t ts (and_parts _ _ h).1)
  where
    found : (x : Bool) {y : Bool} → y ≡ true → (x || y) ≡ true
    found true e = refl
    found false e = e

begins_among : (ws ts : List (List ℕ)) → begins ws ts ≡ true → AreAmong ws ts
begins_among [] ts h = refl
begins_among (w ∷ ws) [] h = cc h
begins_among (w ∷ ws) (t ∷ ts) h =
    and_from _ _ (ap (λ b. b || list_any (bytes_eq (lower w)) (map lower ts)) (and_parts _ _ h).0) (among_more ws t ts (begins_among ws ts (and_parts _ _ h).1))

end_among : (ws ts : List (List ℕ)) → some_end (begins ws) ts ≡ true → AreAmong ws ts
end_among ws [] h = begins_among ws [] h
end_among ws (t ∷ ts) h = pick (begins ws (t ∷ ts)) refl (λ e. among_more ws t ts (end_among ws ts (sym (ap (λ b. b || some_end (begins ws) ts) e) ∙ h)))
  where
    pick : (x : Bool) → begins ws (t ∷ ts) ≡ x → (begins ws (t ∷ ts) ≡ false → AreAmong ws (t ∷ ts)) → AreAmong ws (t ∷ ts)
    pick true e later = begins_among ws (t ∷ ts) e
    pick false e later = later e

module _ (name : List ℕ) (fields : List Field) where
  -- each of these tokens stands in the field
  abbrev pub StandIn : List (List ℕ) → Type 0
  StandIn [] = Unit {0}
  StandIn (token ∷ tokens) = (has_required (name, token) fields ≡ true) × StandIn tokens

  words_stand : (ws : List (List ℕ)) (held : List ℕ) → value_of name fields ≡ Some (value.Text held) → AreAmong ws (text_tokens held) → StandIn (filter is_word (map lower ws))
  words_stand [] held e h = tt
  words_stand (w ∷ ws) held e h = over (is_word (lower w)) (ap (holds_of (has_token (lower w))) e ∙ (and_parts _ _ h).0) (words_stand ws held e (and_parts _ _ h).1)
    where
      over : (b : Bool) → has_required (name, lower w) fields ≡ true → StandIn (filter is_word (map lower ws)) → StandIn (cond b (lower w ∷ filter is_word (map lower ws)) (filter is_word (map lower ws)))
      over true here rest = (here, rest)
      over false here rest = rest

  said_of : (text : List ℕ) (v : Option Value) → value_of name fields ≡ v → holds_of (says text) v ≡ true → StandIn (filter is_word (lower_tokens text))
  said_of text None e h = cc h
  said_of text (Some (value.Text held)) e h = words_stand (text_tokens text) held e (end_among (text_tokens text) (text_tokens held) (and_parts (has_some (text_tokens text)) _ h).1)
  said_of text (Some (Whole number)) e h =
      let same : signed_decimal number ≡ text = bytes_same (signed_decimal number) text h in
      subst StandIn (sym (subst HasNoWord same (number_has_no_word number))) tt

  -- where a field says a text, each of the text's words stands in it
  pub said : (text : List ℕ) → field_holds (says text) name fields ≡ true → StandIn (filter is_word (lower_tokens text))
  said text h = said_of text (value_of name fields) refl h
