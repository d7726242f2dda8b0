-- Printed tokens, read again.
use Rattle.std.proofs.Common.{◌≡◌, ℕ, zero, suc, ◌+◌, ◌==◌, max, Bool, true, false, cond, not, ◌||◌, List, [], ◌∷◌, ◌++◌, length, get_or, drop, Some, None, codes, refl, sym, ap, ◌∙◌, arith, append_assoc, length-append}
use Rattle.std.proofs.lemmas.Bool.Decides.{nat_tests}
use Rattle.std.proofs.lemmas.List.{take-append-le, drop-append-le, get_or-append-add, take_all, drop_all}
use Rattle.std.specs.Str.{bytes_eq}
use Rattle.gl_query.specs.declared.token.Token.{Token}
use Rattle.gl_query.specs.declared.token.Token.TheVariants.{Word, Field, Exists, Phrase}
use Rattle.gl_query.specs.declared.token.Token.TheVariants as token
use Rattle.gl_query.specs.Tokens.{ends_word, word_end, phrase_end, word_or_field, named_token, word_token, phrase_token, sign_token, token_or, token_at, token_here, bytes_inside, tokens_from, tokens_of}
use Rattle.gl_query.specs.QueryReading.{units}
use Rattle.gl_query.specs.Printing.{is_keyword, phrase_byte, phrase_text}
use Rattle.std.specs.List.{flat_map}
use Rattle.gl_query.proofs.Steps.{space_passes, token_comes}
use Rattle.gl_query.proofs.Spelling.{Runs, opens_word, phrase_ends}

-- the tokens of a text, without their places
abbrev pub lex : List ℕ → List Token
lex text = units (tokens_of text)

units_append : (xs ys : List (ℕ × Token)) → units (xs ++ ys) ≡ units xs ++ units ys
units_append [] ys = refl
units_append (x ∷ xs) ys = ap (λ ts. x.1 ∷ ts) (units_append xs ys)

units_here : (x : Bool) (at other : ℕ) (text : List ℕ) → units (token_here x at text) ≡ units (token_here x other text)
units_here true at other text = refl
units_here false at other text = refl

-- where a text stands doesn't matter to its tokens
pub places_free : (text : List ℕ) (inside at other : ℕ) → units (tokens_from at inside text) ≡ units (tokens_from other inside text)
unfolding tokens_from
places_free [] inside at other = refl
places_free (b ∷ bs) (suc inside) at other = places_free bs inside (at + 1) (other + 1)
places_free (b ∷ bs) zero at other =
    let inside = bytes_inside (b == 32) (b ∷ bs) in
    units_append (token_here (b == 32) at (b ∷ bs)) (tokens_from (at + 1) inside bs)
    ∙ ap (λ ts. ts ++ units (tokens_from (at + 1) inside bs)) (units_here (b == 32) at other (b ∷ bs))
    ∙ ap (λ ts. units (token_here (b == 32) other (b ∷ bs)) ++ ts) (places_free bs inside (at + 1) (other + 1))
    ∙ sym (units_append (token_here (b == 32) other (b ∷ bs)) (tokens_from (other + 1) inside bs))

pub lex_space : (rest : List ℕ) → lex (32 ∷ rest) ≡ lex rest
lex_space rest = ap units (space_passes (32 ∷ rest) 0 (omega arith) refl) ∙ places_free rest 0 1 0

abbrev pub is_no_space : List ℕ → Bool
is_no_space [] = false
is_no_space (b ∷ bs) = not (b == 32)

no_space : (b : Bool) → not b ≡ true → b ≡ false
no_space true h = cc h
no_space false h = refl

pub lex_token : (w rest : List ℕ) (t : Token) → is_no_space w ≡ true → token_at (w ++ rest) ≡ (t, length w) → lex (w ++ rest) ≡ t ∷ lex rest
lex_token [] rest t h e = cc h
lex_token (b ∷ bs) rest t h e =
    let w = b ∷ bs in
    let n = max (token_at (w ++ rest)).1 1 in
    let l : (token_at (w ++ rest)).1 ≡ length w = ap (λ p. p.1) e in
    let m : n ≡ length w = omega (arith, l) in
    ap units (token_comes (w ++ rest) 0 (omega arith) (no_space (b == 32) h))
    ∙ ap (λ p. p.0 ∷ units (tokens_from (0 + n) 0 (drop (0 + n) (w ++ rest)))) e
    ∙ ap (λ k. t ∷ units (tokens_from k 0 (drop k (w ++ rest)))) (let z : 0 + n ≡ length w = omega (arith, m) in z)
    ∙ ap (λ ts. t ∷ ts) (places_free (drop (length w) (w ++ rest)) 0 (length w) 0
    ∙ ap lex (drop-append-le (length w) w rest (omega arith) ∙ ap (λ x. x ++ rest) (drop_all (length w) w (omega arith))))

-- what stands here ends a word
abbrev pub stops : List ℕ → Bool
stops [] = true
stops (b ∷ bs) = ends_word b

word_stops : (n : ℕ) (rest : List ℕ) → stops rest ≡ true → word_end n false rest ≡ Some n
unfolding word_end
word_stops n [] h = refl
word_stops n (b ∷ bs) h = ap (λ x. cond x (Some n) (word_end (n + 1) (b == 92) bs)) h

word_len : (w rest : List ℕ) → Runs w → stops rest ≡ true → word_end 0 false (w ++ rest) ≡ Some (length w)
word_len w rest r h = r 0 rest ∙ word_stops (0 + length w) rest h ∙ ap Some (let e : 0 + length w ≡ length w = omega arith in e)

same_number : (b k : ℕ) → (b == k) ≡ true → b ≡ k
same_number b k h = grind (arith, nat_tests)

-- a byte of a word is no sign
not_sign : (k b : ℕ) → ends_word k ≡ true → ends_word b ≡ false → (b == k) ≡ false
not_sign k b s e = pick (b == k) refl
  where
    pick : (x : Bool) → (b == k) ≡ x → x ≡ false
    pick true h = cc (sym e ∙ ap ends_word (same_number b k h) ∙ s)
    pick false h = refl

no_sign : (b c : ℕ) → ends_word b ≡ false → sign_token b c ≡ None
unfolding sign_token
no_sign b c e =
    rw (not_sign 40 b refl e) (rw (not_sign 41 b refl e) (rw (not_sign 91 b refl e) (rw (not_sign 93 b refl e) (rw (not_sign 123 b refl e) (rw (not_sign 125 b refl e)
    (rw (not_sign 33 b refl e) (rw (not_sign 58 b refl e) (rw (not_sign 62 b refl e) (rw (not_sign 60 b refl e) (rw (not_sign 38 b refl e) (rw (not_sign 124 b refl e) refl)))))))))))

not_true : (b : Bool) → not b ≡ true → b ≡ false
not_true true h = cc h
not_true false h = refl

or_left : (a b : Bool) → (a || b) ≡ false → a ≡ false
or_left true b h = cc h
or_left false b h = refl

or_right : (a b : Bool) → (a || b) ≡ false → b ≡ false
or_right true b h = cc h
or_right false b h = h

-- a word that is no keyword is what it stands for
named_free : (w : List ℕ) (n : ℕ) (colon : Bool) → is_keyword w ≡ false → named_token w n colon ≡ word_or_field w n colon
named_free w n colon h =
    let r1 = or_right (bytes_eq w (codes "AND")) _ h in
    let r2 = or_right (bytes_eq w (codes "OR")) _ r1 in
    let r3 = or_right (bytes_eq w (codes "NOT")) _ r2 in
    rw (or_left (bytes_eq w (codes "AND")) _ h) (rw (or_left (bytes_eq w (codes "OR")) _ r1) (rw (or_left (bytes_eq w (codes "NOT")) _ r2) (rw (or_left (bytes_eq w (codes "TO")) _ r3) refl)))

not_exists : (w : List ℕ) → is_keyword w ≡ false → bytes_eq w (codes "_exists_") ≡ false
not_exists w h =
    or_right (bytes_eq w (codes "TO")) _ (or_right (bytes_eq w (codes "NOT")) _ (or_right (bytes_eq w (codes "OR")) _ (or_right (bytes_eq w (codes "AND")) _ h)))

-- the word at the front of a text
token_of_word : (w rest : List ℕ) → Runs w → opens_word w ≡ true → is_keyword w ≡ false → stops rest ≡ true → token_at (w ++ rest) ≡ word_or_field w (length w) (get_or rest 0 0 == 58)
unfolding token_at
token_of_word [] rest r o f h = cc o
token_of_word (b ∷ bs) rest r o f h =
    let w = b ∷ bs in
    let e = not_true (ends_word b) o in
    ap (λ x. token_or (w ++ rest) x) (no_sign b (get_or (w ++ rest) 1 0) e)
    ∙ ap (λ x. cond x (phrase_token (bs ++ rest) (phrase_end 0 false (bs ++ rest))) (word_token (w ++ rest) (word_end 0 false (w ++ rest)))) (not_sign 34 b refl e)
    ∙ ap (λ x. word_token (w ++ rest) x) (word_len w rest r h)
    ∙ ap (λ v. named_token v (length w) (get_or (w ++ rest) (length w) 0 == 58)) (take-append-le (length w) w rest (omega arith) ∙ take_all (length w) w (omega arith))
    ∙ ap (λ v. named_token w (length w) (v == 58)) (ap (λ i. get_or (w ++ rest) i 0) (let z : length w ≡ length w + 0 = omega arith in z) ∙ get_or-append-add w rest 0 0)
    ∙ named_free w (length w) (get_or rest 0 0 == 58) f

opens_no_space : (w : List ℕ) → opens_word w ≡ true → is_no_space w ≡ true
opens_no_space [] h = cc h
opens_no_space (b ∷ bs) h = ap not (not_sign 32 b refl (not_true (ends_word b) h))

-- a word that a space or a parenthesis follows, or that ends the text
abbrev pub is_apart : List ℕ → Bool
is_apart [] = true
is_apart (b ∷ bs) = b == 32 || (b == 41 || (b == 93 || b == 125))

apart_stops : (rest : List ℕ) → is_apart rest ≡ true → (stops rest ≡ true) × ((get_or rest 0 0 == 58) ≡ false)
apart_stops [] h = (refl, refl)
apart_stops (b ∷ bs) h = pick (b == 32) (b == 41) (b == 93) (b == 125) refl refl refl refl h
  where
    at : (k : ℕ) → (b == k) ≡ true → ends_word k ≡ true → (k == 58) ≡ false → (ends_word b ≡ true) × ((b == 58) ≡ false)
    at k e s c = (ap ends_word (same_number b k e) ∙ s, ap (λ n. n == 58) (same_number b k e) ∙ c)

    pick : (x1 x2 x3 x4 : Bool) → (b == 32) ≡ x1 → (b == 41) ≡ x2 → (b == 93) ≡ x3 → (b == 125) ≡ x4 → (x1 || (x2 || (x3 || x4))) ≡ true → (ends_word b ≡ true) × ((b == 58) ≡ false)
    pick true x2 x3 x4 e1 e2 e3 e4 h = at 32 e1 refl refl
    pick false true x3 x4 e1 e2 e3 e4 h = at 41 e2 refl refl
    pick false false true x4 e1 e2 e3 e4 h = at 93 e3 refl refl
    pick false false false true e1 e2 e3 e4 h = at 125 e4 refl refl
    pick false false false false e1 e2 e3 e4 h = cc h

pub lex_word : (w rest : List ℕ) → Runs w → opens_word w ≡ true → is_keyword w ≡ false → is_apart rest ≡ true → lex (w ++ rest) ≡ Word w ∷ lex rest
lex_word w rest r o f a =
    let s = apart_stops rest a in
    lex_token w rest (Word w) (opens_no_space w o) (token_of_word w rest r o f s.0 ∙ ap (λ x. word_or_field w (length w) x) s.1)

field_end : (w : List ℕ) (x : Bool) → x ≡ false → ◌≡◌ {A = Token × ℕ} (cond {A = Token × ℕ} x (Exists, length w + 1) (Field w, length w + 1)) (Field w, length w + 1)
field_end w true h = cc h
field_end w false h = refl

pub lex_field : (w rest : List ℕ) → Runs w → opens_word w ≡ true → is_keyword w ≡ false → lex ((w ++ codes ":") ++ rest) ≡ Field w ∷ lex rest
lex_field w rest r o f =
    lex_token (w ++ codes ":") rest (Field w) (no_space_append w (codes ":") (opens_no_space w o))
    (ap token_at (append_assoc w (codes ":") rest)
    ∙ token_of_word w (58 ∷ rest) r o f refl
    ∙ field_end w (bytes_eq w (codes "_exists_")) (not_exists w f)
    ∙ ap (λ n. (Field w, n)) (let z : length w + 1 ≡ length (w ++ codes ":") = omega (arith, length-append w (codes ":")) in z))
  where
    no_space_append : (v u : List ℕ) → is_no_space v ≡ true → is_no_space (v ++ u) ≡ true
    no_space_append [] u h = cc h
    no_space_append (b ∷ bs) u h = h

token_of_phrase : (text rest : List ℕ) → token_at (phrase_text text ++ rest) ≡ (Phrase (flat_map phrase_byte text), length (phrase_text text))
unfolding token_at sign_token
token_of_phrase text rest =
    let w = flat_map phrase_byte text in
    ap (λ t. token_at (34 ∷ t)) (append_assoc w (34 ∷ []) rest)
    ∙ ap (λ x. phrase_token (w ++ 34 ∷ rest) x) (phrase_ends text rest)
    ∙ ap (λ v. (Phrase v, length w + 2)) (take-append-le (length w) w (34 ∷ rest) (omega arith) ∙ take_all (length w) w (omega arith))
    ∙ ap (λ n. (Phrase w, n)) (let z : length w + 2 ≡ length (phrase_text text) = omega (arith, length-append w (34 ∷ [])) in z)

pub lex_phrase : (text rest : List ℕ) → lex (phrase_text text ++ rest) ≡ Phrase (flat_map phrase_byte text) ∷ lex rest
lex_phrase text rest = lex_token (phrase_text text) rest (Phrase (flat_map phrase_byte text)) refl (token_of_phrase text rest)

-- signs and keywords
lex_open_at : (rest : List ℕ) → token_at (40 ∷ rest) ≡ (token.Open, 1)
unfolding token_at sign_token
lex_open_at rest = refl

pub lex_open : (rest : List ℕ) → lex (40 ∷ rest) ≡ token.Open ∷ lex rest
lex_open rest = lex_token (40 ∷ []) rest token.Open refl (lex_open_at rest)

lex_close_at : (rest : List ℕ) → token_at (41 ∷ rest) ≡ (token.Close, 1)
unfolding token_at sign_token
lex_close_at rest = refl

pub lex_close : (rest : List ℕ) → lex (41 ∷ rest) ≡ token.Close ∷ lex rest
lex_close rest = lex_token (41 ∷ []) rest token.Close refl (lex_close_at rest)

lex_not_at : (rest : List ℕ) → token_at (codes "NOT " ++ rest) ≡ (token.Not, 3)
unfolding token_at sign_token word_end
lex_not_at rest = refl

pub lex_not : (rest : List ℕ) → lex (codes "NOT " ++ rest) ≡ token.Not ∷ lex rest
lex_not rest = lex_token (codes "NOT") (32 ∷ rest) token.Not refl (lex_not_at rest) ∙ ap (λ ts. token.Not ∷ ts) (lex_space rest)

lex_and_at : (rest : List ℕ) → token_at (codes "AND " ++ rest) ≡ (token.And, 3)
unfolding token_at sign_token word_end
lex_and_at rest = refl

pub lex_and : (rest : List ℕ) → lex (codes " AND " ++ rest) ≡ token.And ∷ lex rest
lex_and rest = lex_space (codes "AND " ++ rest) ∙ lex_token (codes "AND") (32 ∷ rest) token.And refl (lex_and_at rest) ∙ ap (λ ts. token.And ∷ ts) (lex_space rest)

lex_or_at : (rest : List ℕ) → token_at (codes "OR " ++ rest) ≡ (token.Or, 2)
unfolding token_at sign_token word_end
lex_or_at rest = refl

pub lex_or : (rest : List ℕ) → lex (codes " OR " ++ rest) ≡ token.Or ∷ lex rest
lex_or rest = lex_space (codes "OR " ++ rest) ∙ lex_token (codes "OR") (32 ∷ rest) token.Or refl (lex_or_at rest) ∙ ap (λ ts. token.Or ∷ ts) (lex_space rest)

lex_to_at : (rest : List ℕ) → token_at (codes "TO " ++ rest) ≡ (token.To, 2)
unfolding token_at sign_token word_end
lex_to_at rest = refl

pub lex_to : (rest : List ℕ) → lex (codes " TO " ++ rest) ≡ token.To ∷ lex rest
lex_to rest = lex_space (codes "TO " ++ rest) ∙ lex_token (codes "TO") (32 ∷ rest) token.To refl (lex_to_at rest) ∙ ap (λ ts. token.To ∷ ts) (lex_space rest)

lex_exists_at : (rest : List ℕ) → token_at (codes "_exists_:" ++ rest) ≡ (token.Exists, 9)
unfolding token_at sign_token word_end
lex_exists_at rest = refl

pub lex_exists : (rest : List ℕ) → lex (codes "_exists_:" ++ rest) ≡ token.Exists ∷ lex rest
lex_exists rest = lex_token (codes "_exists_:") rest token.Exists refl (lex_exists_at rest)

-- the sign at which a range begins or ends
sign_at : (b : ℕ) (t : Token) (rest : List ℕ) → sign_token b (get_or rest 0 0) ≡ Some (t, 1) → token_at (b ∷ rest) ≡ (t, 1)
unfolding token_at
sign_at b t rest e = ap (λ x. token_or (b ∷ rest) x) e

pub lex_sign : (b : ℕ) (t : Token) (rest : List ℕ) → is_no_space (b ∷ []) ≡ true → sign_token b (get_or rest 0 0) ≡ Some (t, 1) → lex (b ∷ rest) ≡ t ∷ lex rest
lex_sign b t rest h e = lex_token (b ∷ []) rest t h (sign_at b t rest e)
