-- A message of which a query holds has each of its required terms.
use Rattle.std.proofs.Common.{◌≡◌, ℕ, zero, suc, ◌/◌, ◌%◌, ◌<◌, ◌==◌, nat_le, Bool, true, false, cond, ◌||◌, List, [], ◌∷◌, map, filter, Option, Some, None, ℤ, pos, negsuc, refl, sym, ap, ◌∙◌, subst, arith}
use Rattle.std.proofs.lemmas.Bool.{and_parts, and_from}
use Rattle.std.proofs.lemmas.Bool.Decides.{nat_tests}
use Rattle.std.proofs.lemmas.List.Elements.{All-nil, All-append, All-cons}
use Rattle.std.specs.Prelude.{All}
use Rattle.std.specs.Char.{is_ascii_digit, to_ascii_lowercase}
use Rattle.std.specs.Int.{is_in_range}
use Rattle.std.specs.Fmt.{digits, decimal, digits_onto, digit_glyph, signed_decimal}
use Rattle.std.specs.List.{list_all, list_any}
use Rattle.std.specs.Str.{bytes_eq}
use Rattle.gl_fields.specs.Fields.{value_of}
use Rattle.gl_fields.specs.declared.field.Field.{Field}
use Rattle.gl_fields.specs.declared.value.Value.{Value}
use Rattle.gl_fields.specs.declared.value.Value.TheVariants.{Whole}
use Rattle.gl_fields.specs.declared.value.Value.TheVariants as value
use Rattle.gl_query.specs.declared.term.Term.{Term}
use Rattle.gl_query.specs.declared.term.Term.TheVariants.{All as Everything, Exists, Text, Pattern, Within}
use Rattle.gl_query.specs.Matching.{says, holds_of, term_holds, holds, all_hold}
use Rattle.gl_query.specs.Required.{lower_tokens, is_number, term_required, required, all_required, has_token, has_required}
use Rattle.gl_query.specs.Texts.{is_token_byte, put, runs_of, has_some, text_tokens, begins, some_end}
use Rattle.gl_query.specs.Tree.{Tree, leaf, negation, both, either, Trees, none, also}
use Rattle.gl_query.proofs.Spelling.{bytes_same}

-- The text of a number is digits, behind a sign where it is negative.
small_glyph : (d : ℕ) → d < 10 → is_ascii_digit (digit_glyph false d) ≡ true
small_glyph d lt = grind (arith, nat_tests)

-- digits, and at least one
abbrev AreDigits : List ℕ → Type 0
AreDigits text = (has_some text ≡ true) × (list_all is_ascii_digit text ≡ true)

either_way : (x : Bool) (a b : List ℕ) → AreDigits a → AreDigits b → AreDigits (cond x a b)
either_way true a b h k = h
either_way false a b h k = k

onto_digits : (k n : ℕ) (more : List ℕ) → AreDigits more → AreDigits (digits_onto k 10 false n more)
onto_digits zero n more h = h
onto_digits (suc k) n more h =
    let glyph : AreDigits (digit_glyph false (n % 10) ∷ more) = (refl, and_from _ _ (small_glyph (n % 10) (omega arith)) h.1) in
    either_way (n / 10 == 0) _ _ glyph (onto_digits k (n / 10) (digit_glyph false (n % 10) ∷ more) glyph)

decimal_digits : (n : ℕ) → AreDigits (decimal n)
unfolding digits
decimal_digits n =
    let glyph : AreDigits (digit_glyph false (n % 10) ∷ []) = (refl, and_from _ _ (small_glyph (n % 10) (omega arith)) refl) in
    either_way (n / 10 == 0) (digit_glyph false (n % 10) ∷ []) (digits_onto 63 10 false (n / 10) (digit_glyph false (n % 10) ∷ [])) glyph (onto_digits 63 (n / 10) (digit_glyph false (n % 10) ∷ []) glyph)

-- So its tokens have a number among them.
digit_of_token : (d : ℕ) → is_ascii_digit d ≡ true → is_token_byte d ≡ true
digit_of_token d h = ap (λ b. b || is_in_range 65 90 d || is_in_range 97 122 d || d == 95 || nat_le 128 d) h

digit_stays : (d : ℕ) → is_ascii_digit d ≡ true → is_ascii_digit (to_ascii_lowercase d) ≡ true
digit_stays d h = grind (arith, nat_tests)

one_run : (d : ℕ) (ds : List ℕ) → AreDigits (d ∷ ds) → runs_of (d ∷ ds) ≡ (d ∷ ds) ∷ []
unfolding runs_of
one_run d [] h = ap (λ b. put b d ([] ∷ [])) (digit_of_token d (and_parts _ _ h.1).0)
one_run d (e ∷ es) h =
    ap (λ b. put b d (runs_of (e ∷ es))) (digit_of_token d (and_parts _ _ h.1).0)
    ∙ ap (put true d) (one_run e es (refl, (and_parts _ _ h.1).1))

lower_digits : (ds : List ℕ) → list_all is_ascii_digit ds ≡ true → is_number (map to_ascii_lowercase ds) ≡ true
lower_digits [] h = refl
lower_digits (d ∷ ds) h = and_from _ _ (digit_stays d (and_parts _ _ h).0) (lower_digits ds (and_parts _ _ h).1)

-- a run of digits behind what ends one
number_found : (d : ℕ) (ds : List ℕ) → AreDigits (d ∷ ds) → list_any is_number (lower_tokens (d ∷ ds)) ≡ true
unfolding text_tokens
number_found d ds h =
    ap (λ runs. list_any is_number (map (map to_ascii_lowercase) (filter has_some runs))) (one_run d ds h)
    ∙ ap (λ b. b || false) (lower_digits (d ∷ ds) h.1)

signed_found : (d : ℕ) (ds : List ℕ) → AreDigits (d ∷ ds) → list_any is_number (lower_tokens (45 ∷ d ∷ ds)) ≡ true
unfolding text_tokens runs_of
signed_found d ds h =
    ap (λ runs. list_any is_number (map (map to_ascii_lowercase) (filter has_some ([] ∷ runs)))) (one_run d ds h)
    ∙ ap (λ b. b || false) (lower_digits (d ∷ ds) h.1)

abbrev HasNumber : List ℕ → Type 0
HasNumber text = list_any is_number (lower_tokens text) ≡ true

digits_found : (ds : List ℕ) → AreDigits ds → HasNumber ds
digits_found [] h = cc h.0
digits_found (d ∷ ds) h = number_found d ds h

negative_found : (ds : List ℕ) → AreDigits ds → HasNumber (45 ∷ ds)
negative_found [] h = cc h.0
negative_found (d ∷ ds) h = signed_found d ds h

number_has_number : (z : ℤ) → HasNumber (signed_decimal z)
number_has_number (pos n) = digits_found (decimal n) (decimal_digits n)
number_has_number (negsuc n) = negative_found (decimal (suc n)) (decimal_digits (suc n))

-- Where tokens stand one after another among others, each is one of those.
abbrev lower : List ℕ → List ℕ
lower token = map to_ascii_lowercase token

-- each of the first, in lower case, is one of the others
abbrev AreAmong : List (List ℕ) → List (List ℕ) → Type 0
AreAmong ws ts = list_all (λ w. list_any (bytes_eq (lower w)) (map lower ts)) ws ≡ true

among_more : (ws : List (List ℕ)) (t : List ℕ) (ts : List (List ℕ)) → AreAmong ws ts → AreAmong ws (t ∷ ts)
among_more [] t ts h = refl
among_more (w ∷ ws) t ts h = and_from _ _ (found (bytes_eq (lower w) (lower t)) (and_parts _ _ h).0) (among_more ws t ts (and_parts _ _ h).1)
  where
    found : (x : Bool) {y : Bool} → y ≡ true → (x || y) ≡ true
    found true e = refl
    found false e = e

begins_among : (ws ts : List (List ℕ)) → begins ws ts ≡ true → AreAmong ws ts
begins_among [] ts h = refl
begins_among (w ∷ ws) [] h = cc h
begins_among (w ∷ ws) (t ∷ ts) h =
    and_from _ _ (ap (λ b. b || list_any (bytes_eq (lower w)) (map lower ts)) (and_parts _ _ h).0) (among_more ws t ts (begins_among ws ts (and_parts _ _ h).1))

end_among : (ws ts : List (List ℕ)) → some_end (begins ws) ts ≡ true → AreAmong ws ts
end_among ws [] h = begins_among ws [] h
end_among ws (t ∷ ts) h = pick (begins ws (t ∷ ts)) refl (λ e. among_more ws t ts (end_among ws ts (sym (ap (λ b. b || some_end (begins ws) ts) e) ∙ h)))
  where
    pick : (x : Bool) → begins ws (t ∷ ts) ≡ x → (begins ws (t ∷ ts) ≡ false → AreAmong ws (t ∷ ts)) → AreAmong ws (t ∷ ts)
    pick true e later = begins_among ws (t ∷ ts) e
    pick false e later = later e

abbrev IsThere : List Field → List ℕ × List ℕ → Type 0
IsThere fields term = has_required term fields ≡ true

-- What a word or a phrase says of a value that isn't a number.
module _ (name : List ℕ) (fields : List Field) where
  abbrev Has : List (List ℕ × List ℕ) → Type 0
  Has terms = All (IsThere fields) terms

  with_name : (ws : List (List ℕ)) (held : List ℕ) → value_of name fields ≡ Some (value.Text held) → AreAmong ws (text_tokens held)
      → Has (map {B = List ℕ × List ℕ} (λ token. (name, token)) (map lower ws))
  with_name [] held e h = All-nil (IsThere fields)
  with_name (w ∷ ws) held e h =
      All-cons (IsThere fields) (name, lower w) _ (ap (holds_of (has_token (lower w))) e ∙ (and_parts _ _ h).0) (with_name ws held e (and_parts _ _ h).1)

  said : (text : List ℕ) (v : Option Value) → value_of name fields ≡ v → holds_of (says text) v ≡ true → list_any is_number (lower_tokens text) ≡ false
      → Has (map {B = List ℕ × List ℕ} (λ token. (name, token)) (lower_tokens text))
  said text None e h plain = cc h
  said text (Some (value.Text held)) e h plain = with_name (text_tokens text) held e (end_among (text_tokens text) (text_tokens held) (and_parts (has_some (text_tokens text)) _ h).1)
  said text (Some (Whole number)) e h plain =
      let same : signed_decimal number ≡ text = bytes_same (signed_decimal number) text h in
      let found : list_any is_number (lower_tokens text) ≡ true = subst HasNumber same (number_has_number number) in
      cc (found, plain)

  field_said : (text : List ℕ) (x : Bool) → list_any is_number (lower_tokens text) ≡ x → holds_of (says text) (value_of name fields) ≡ true
      → Has (cond x [] (map {B = List ℕ × List ℕ} (λ token. (name, token)) (lower_tokens text)))
  field_said text true e h = All-nil (IsThere fields)
  field_said text false e h = said text (value_of name fields) refl h e

module _ (fields : List Field) where
  term_has : (term : Term) → term_holds term fields ≡ true → All (IsThere fields) (term_required term)
  term_has Everything h = All-nil (IsThere fields)
  term_has (Exists name) h = All-nil (IsThere fields)
  term_has (Text None text) h = All-nil (IsThere fields)
  term_has (Text (Some name) text) h = field_said name fields text (list_any is_number (lower_tokens text)) refl h
  term_has (Pattern field pattern) h = All-nil (IsThere fields)
  term_has (Within name low high) h = All-nil (IsThere fields)

  mutual
    pub query_has : (t : Tree) → holds t fields ≡ true → All (IsThere fields) (required t)
    query_has (leaf term) h = term_has term h
    query_has (negation t) h = All-nil (IsThere fields)
    query_has (both ts) h = all_have ts h
    query_has (either ts) h = All-nil (IsThere fields)

    all_have : (ts : Trees) → all_hold ts fields ≡ true → All (IsThere fields) (all_required ts)
    all_have none h = All-nil (IsThere fields)
    all_have (also t ts) h = All-append (IsThere fields) (required t) (all_required ts) (query_has t (and_parts _ _ h).0) (all_have ts (and_parts _ _ h).1)
