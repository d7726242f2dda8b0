-- The tokens of a text, one after another.
use Rattle.std.proofs.Common.{◌≡◌, ℕ, Bool, true, false, not, ◌&&◌, ◌||◌, codes, cond, List, [], ◌∷◌, map, filter, fold, Option, Some, None, refl, sym, ap, ◌∙◌, arith}
use Rattle.std.proofs.lemmas.Bool.Decides.{nat_tests}
use Rattle.std.specs.Char.{is_ascii_digit, to_ascii_lowercase}
use Rattle.gl_indexset.specs.declared.row.Row.{Row}
use Rattle.gl_query.specs.Required.{has_required, is_number, lower_tokens}
use Rattle.gl_query.specs.Texts.{text_tokens, TokenAhead}
use Rattle.gl_words.specs.Candidates.{holders, positions}
use Rattle.gl_covers.specs.Covers.{Terms, covered, is_word, looked_in, narrower_known, text_cover, token_in}
use Rattle.gl_covers.specs.Suspects.{found_by, with_token}

abbrev pub lower : List ℕ → List ℕ
lower token = map to_ascii_lowercase token

lower_digit : (d : ℕ) → is_ascii_digit (to_ascii_lowercase d) ≡ is_ascii_digit d
lower_digit d = grind (arith, nat_tests)

pub lower_number : (token : List ℕ) → is_number (lower token) ≡ is_number token
lower_number [] = refl
lower_number (d ∷ ds) = ap (λ (b : Bool). b && is_number (lower ds)) (lower_digit d) ∙ ap (λ (b : Bool). is_ascii_digit d && b) (lower_number ds)

module _ (rows : List Row) (so_far : Option Terms) (names : List (List ℕ)) (token : List ℕ) where
  abbrev with_it : Bool → Option Terms
  with_it number = cond {A = Option Terms} (not number) (narrower_known rows so_far (Some (token_in names (lower token)))) so_far

  pub number_passed : is_number token ≡ true → with_token rows so_far names (lower token) ≡ so_far
  number_passed h = ap with_it (lower_number token ∙ h)

  pub word_taken : is_number token ≡ false → with_token rows so_far names (lower token) ≡ narrower_known rows so_far (Some (token_in names (lower token)))
  word_taken h = ap with_it (lower_number token ∙ h)

-- ---- the narrowest of the words' covers
abbrev covers_of : List (List ℕ) → List (List ℕ) → List (Option Terms)
covers_of names words = map {B = Option Terms} (λ token. Some (token_in names token)) words

-- what was found for the tokens before, and what is left
pub record IsChoosing (rows : List Row) (names : List (List ℕ)) (found : Option (List ℕ)) (left all : List (List ℕ)) : Type 0 where
  pub so_far : Option Terms
  pub found_is : found ≡ found_by rows so_far
  pub left_is : fold (narrower_known rows) so_far (covers_of names (filter is_word left)) ≡ text_cover rows names all

pub no_choice : (rows : List Row) (names all : List (List ℕ)) → IsChoosing rows names None all all
no_choice rows names all = record { so_far = None; found_is = refl; left_is = refl }

module _ (rows : List Row) (names : List (List ℕ)) where
  abbrev left_of : Option Terms → List (List ℕ) → Option Terms
  left_of so_far tokens = fold (narrower_known rows) so_far (covers_of names (filter is_word tokens))

  left_more : (so_far : Option Terms) (token : List ℕ) (tokens : List (List ℕ)) → left_of (with_token rows so_far names token) tokens ≡ left_of so_far (token ∷ tokens)
  left_more so_far token tokens = over (is_word token)
    where
      over : (b : Bool) → fold (narrower_known rows) (cond {A = Option Terms} b (narrower_known rows so_far (Some (token_in names token))) so_far) (covers_of names (filter is_word tokens))
          ≡ fold (narrower_known rows) so_far (covers_of names (cond {A = List (List ℕ)} b (token ∷ filter is_word tokens) (filter is_word tokens)))
      over true = refl
      over false = refl

  pub chooses_more : (found new : Option (List ℕ)) (text token rest : List ℕ) (all : List (List ℕ)) → TokenAhead text token rest
      → ((so_far : Option Terms) → found ≡ found_by rows so_far → new ≡ found_by rows (with_token rows so_far names (lower token)))
      → IsChoosing rows names found (lower_tokens text) all → IsChoosing rows names new (lower_tokens rest) all
  chooses_more found new text token rest all ahead more v = record {
    so_far = with_token rows v.so_far names (lower token);
    found_is = more v.so_far v.found_is;
    left_is =
        left_more v.so_far (lower token) (lower_tokens rest)
        ∙ sym (ap (λ (ts : List (List ℕ)). left_of v.so_far (map {B = List ℕ} lower ts)) ahead.tokens)
        ∙ v.left_is;
  }

  pub chosen : (found : Option (List ℕ)) (text : List ℕ) (all : List (List ℕ)) → text_tokens text ≡ []
      → IsChoosing rows names found (lower_tokens text) all → found ≡ found_by rows (text_cover rows names all)
  chosen found text all gone v =
      v.found_is ∙ ap (found_by rows) (sym (ap (λ (ts : List (List ℕ)). left_of v.so_far (map {B = List ℕ} lower ts)) gone) ∙ v.left_is)

-- ---- a token in one field, and in three
covered_one : (rows : List Row) (term : List ℕ × List ℕ) → holders rows term ≡ covered rows (term ∷ [])
covered_one [] term = refl
covered_one (row ∷ rows) term = over (has_required term row.fields) (covered_one rows term)
  where
    over : (b : Bool) → holders rows term ≡ covered rows (term ∷ []) → cond b (row ∷ holders rows term) (holders rows term) ≡ cond (b || false) (row ∷ covered rows (term ∷ [])) (covered rows (term ∷ []))
    over true h = ap (λ (xs : List Row). row ∷ xs) h
    over false h = h

module _ (rows : List Row) (token : List ℕ) where
  pub in_field : (found name asked : List ℕ) → name ≡ asked → found ≡ positions (holders rows (name, token)) → found ≡ positions (covered rows (token_in (asked ∷ []) token))
  in_field found name asked is are = are ∙ ap (λ (n : List ℕ). positions (holders rows (n, token))) is ∙ ap positions (covered_one rows (asked, token))

  pub in_named : (found name : List ℕ) (field : Option (List ℕ)) → field ≡ Some name → found ≡ positions (holders rows (name, token)) → found ≡ positions (covered rows (token_in (looked_in field) token))
  in_named found name field is are = in_field found name name refl are ∙ ap (λ (f : Option (List ℕ)). positions (covered rows (token_in (looked_in f) token))) (sym is)
