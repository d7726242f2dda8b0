-- Names, phrases and patterns as they are spelled: the words that they are, and what these say.
use Rattle.std.proofs.Common.{◌≡◌, ℕ, ◌+◌, ◌==◌, Bool, true, false, cond, not, ◌||◌, List, [], ◌∷◌, ◌++◌, length, Some, None, codes, refl, sym, ap, ◌∙◌, subst, arith, append_assoc, length-append}
use Rattle.std.specs.List.{flat_map, list_any}
use Rattle.std.specs.Str.{bytes_eq}
use Rattle.std.proofs.lemmas.Slice.Eq.{bytes_eq-Decides}
use Rattle.gl_query.specs.declared.term.Piece.{Piece}
use Rattle.gl_query.specs.declared.term.Piece.TheVariants.{Byte, AnyRun, AnyOne}
use Rattle.gl_query.specs.Tokens.{ends_word, word_end, phrase_end}
use Rattle.gl_query.specs.Words.{plain, piece_of, pieces, is_wildcard}
use Rattle.gl_query.specs.Printing.{spelled, name_byte, phrase_byte, piece_text, is_keyword, name_text, pattern_text}

or_left : (a b : Bool) → (a || b) ≡ false → a ≡ false
or_left true b h = cc h
or_left false b h = refl

or_right : (a b : Bool) → (a || b) ≡ false → b ≡ false
or_right true b h = cc h
or_right false b h = h

pub bytes_same : (a b : List ℕ) → bytes_eq a b ≡ true → a ≡ b
bytes_same a b h = (bytes_eq-Decides a b).0 h

-- what stands behind these bytes goes on the word that they begin
abbrev pub Runs : List ℕ → Type 0
Runs w = (n : ℕ) (rest : List ℕ) → word_end n false (w ++ rest) ≡ word_end (n + length w) false rest

abbrev pub runs_nil : Runs []
runs_nil n rest = ap (λ m. word_end m false rest) (let e : n ≡ n + 0 = omega arith in e)

pub runs_append : (v w : List ℕ) → Runs v → Runs w → Runs (v ++ w)
runs_append v w a b n rest =
    ap (λ t. word_end n false t) (append_assoc v w rest)
    ∙ a n (w ++ rest)
    ∙ b (n + length v) rest
    ∙ ap (λ m. word_end m false rest) (let e : n + length v + length w ≡ n + length (v ++ w) = omega (arith, length-append v w) in e)

pub runs_flat : {A : Type 0} (f : A → List ℕ) → ((x : A) → Runs (f x)) → (xs : List A) → Runs (flat_map f xs)
runs_flat f each [] = runs_nil
runs_flat f each (x ∷ xs) = runs_append (f x) (flat_map f xs) (each x) (runs_flat f each xs)

pub byte_runs : (b : ℕ) → ends_word b ≡ false → (b == 92) ≡ false → Runs (b ∷ [])
unfolding word_end
byte_runs b e s n rest = ap (λ x. cond x (Some n) (word_end (n + 1) (b == 92) rest)) e ∙ ap (λ x. word_end (n + 1) x rest) s

escape_runs : (b : ℕ) → Runs (92 ∷ b ∷ [])
unfolding word_end
escape_runs b n rest = ap (λ m. word_end m false rest) (let e : n + 1 + 1 ≡ n + 2 = omega arith in e)

-- a byte, spelled so that it goes on a word
pub spelled_runs : (x : Bool) (b : ℕ) → (x ≡ false → ends_word b ≡ false) → (x ≡ false → (b == 92) ≡ false) → Runs (spelled x b)
spelled_runs true b e s = escape_runs b
spelled_runs false b e s = byte_runs b (e refl) (s refl)

-- a word begins here
abbrev pub opens_word : List ℕ → Bool
opens_word [] = false
opens_word (b ∷ bs) = not (ends_word b)

pub spelled_opens : (x : Bool) (b : ℕ) (rest : List ℕ) → (x ≡ false → ends_word b ≡ false) → opens_word (spelled x b ++ rest) ≡ true
spelled_opens true b rest e = refl
spelled_opens false b rest e = ap not (e refl)

plain_spelled : (x : Bool) (b : ℕ) (rest : List ℕ) → (x ≡ false → (b == 92) ≡ false) → plain false (spelled x b ++ rest) ≡ b ∷ plain false rest
unfolding plain
plain_spelled true b rest s = refl
plain_spelled false b rest s = ap (λ x. cond x [] (b ∷ []) ++ plain x rest) (s refl)

pub plain_flat : (special : ℕ → Bool) → ((b : ℕ) → special b ≡ false → (b == 92) ≡ false) → (text : List ℕ) → plain false (flat_map (λ b. spelled (special b) b) text) ≡ text
unfolding plain
plain_flat special s [] = refl
plain_flat special s (b ∷ bs) = plain_spelled (special b) b (flat_map (λ c. spelled (special c) c) bs) (s b) ∙ ap (λ t. b ∷ t) (plain_flat special s bs)

-- names

abbrev special_in_name : ℕ → Bool
special_in_name b = ends_word b || b == 92

name_byte_runs : (b : ℕ) → Runs (name_byte b)
name_byte_runs b = spelled_runs (special_in_name b) b (or_left (ends_word b) (b == 92)) (or_right (ends_word b) (b == 92))

says_name : (name : List ℕ) → plain false (flat_map name_byte name) ≡ name
says_name name = plain_flat special_in_name (λ b. or_right (ends_word b) (b == 92)) name

-- each word that is no name as it stands
pub keyword_cases : (P : List ℕ → Type 0) → P (codes "AND") → P (codes "OR") → P (codes "NOT") → P (codes "TO") → P (codes "_exists_") → (w : List ℕ) → is_keyword w ≡ true → P w
keyword_cases P a o n t e w h =
    pick (bytes_eq w (codes "AND")) (bytes_eq w (codes "OR")) (bytes_eq w (codes "NOT")) (bytes_eq w (codes "TO")) (bytes_eq w (codes "_exists_")) refl refl refl refl refl h
  where
    at : (v : List ℕ) → P v → bytes_eq w v ≡ true → P w
    at v p h = subst P (sym (bytes_same w v h)) p

    pick : (x1 x2 x3 x4 x5 : Bool) → bytes_eq w (codes "AND") ≡ x1 → bytes_eq w (codes "OR") ≡ x2 → bytes_eq w (codes "NOT") ≡ x3 → bytes_eq w (codes "TO") ≡ x4 → bytes_eq w (codes "_exists_") ≡ x5
        → (x1 || (x2 || (x3 || (x4 || x5)))) ≡ true → P w
    pick true x2 x3 x4 x5 h1 h2 h3 h4 h5 h = at (codes "AND") a h1
    pick false true x3 x4 x5 h1 h2 h3 h4 h5 h = at (codes "OR") o h2
    pick false false true x4 x5 h1 h2 h3 h4 h5 h = at (codes "NOT") n h3
    pick false false false true x5 h1 h2 h3 h4 h5 h = at (codes "TO") t h4
    pick false false false false true h1 h2 h3 h4 h5 h = at (codes "_exists_") e h5
    pick false false false false false h1 h2 h3 h4 h5 h = cc h

-- a word that says a name
pub record IsWordOf (w name : List ℕ) : Type 0 where
  pub runs : Runs w
  pub opens : opens_word w ≡ true
  pub free : is_keyword w ≡ false
  pub says : plain false w ≡ name

abbrev pub has_byte : List ℕ → Bool
has_byte [] = false
has_byte (b ∷ bs) = true

name_opens : (name : List ℕ) → has_byte name ≡ true → opens_word (flat_map name_byte name) ≡ true
name_opens [] h = cc h
name_opens (b ∷ bs) h = spelled_opens (special_in_name b) b (flat_map name_byte bs) (or_left (ends_word b) (b == 92))

-- a keyword says itself
keyword_plain : (w : List ℕ) → is_keyword w ≡ true → plain false w ≡ w
unfolding plain
keyword_plain w h = keyword_cases (λ v. plain false v ≡ v) refl refl refl refl refl w h

no_keyword : (name : List ℕ) → is_keyword name ≡ false → (x : Bool) → is_keyword (flat_map name_byte name) ≡ x → x ≡ false
no_keyword name h true e = let same = sym (keyword_plain (flat_map name_byte name) e) ∙ says_name name in cc (sym e ∙ ap is_keyword same ∙ h)
no_keyword name h false e = refl

marked : (name : List ℕ) → is_keyword name ≡ true → IsWordOf (92 ∷ flat_map name_byte name) name
unfolding plain
marked name h =
    keyword_cases (λ w. IsWordOf (92 ∷ flat_map name_byte w) w)
    (record { runs = first 65 (codes "ND"); opens = refl; free = refl; says = refl })
    (record { runs = first 79 (codes "R"); opens = refl; free = refl; says = refl })
    (record { runs = first 78 (codes "OT"); opens = refl; free = refl; says = refl })
    (record { runs = first 84 (codes "O"); opens = refl; free = refl; says = refl })
    (record { runs = first 95 (codes "exists_"); opens = refl; free = refl; says = refl })
    name h
  where
    first : (b : ℕ) (bs : List ℕ) → Runs (92 ∷ b ∷ flat_map name_byte bs)
    first b bs = runs_append (92 ∷ b ∷ []) (flat_map name_byte bs) (escape_runs b) (runs_flat name_byte name_byte_runs bs)

pub name_word : (name : List ℕ) → has_byte name ≡ true → IsWordOf (name_text name) name
name_word name some = pick (is_keyword name) refl
  where
    pick : (x : Bool) → is_keyword name ≡ x → IsWordOf ((cond x (codes "\\") []) ++ flat_map name_byte name) name
    pick true h = marked name h
    pick false h = record {
      runs = runs_flat name_byte name_byte_runs name;
      opens = name_opens name some;
      free = no_keyword name h (is_keyword (flat_map name_byte name)) refl;
      says = says_name name;
    }

-- phrases

-- what stands behind these bytes goes on the phrase that they are of
abbrev PhraseRuns : List ℕ → Type 0
PhraseRuns w = (n : ℕ) (rest : List ℕ) → phrase_end n false (w ++ rest) ≡ phrase_end (n + length w) false rest

phrase_spelled : (x : Bool) (b : ℕ) → (b == 34 || b == 92) ≡ x → PhraseRuns (spelled x b)
unfolding phrase_end
phrase_spelled true b h n rest =
    ap (λ y. cond (not y) None (phrase_end (n + 1 + 1) false rest)) h
    ∙ ap (λ m. phrase_end m false rest) (let e : n + 1 + 1 ≡ n + 2 = omega arith in e)
phrase_spelled false b h n rest =
    ap (λ y. cond y (Some n) (phrase_end (n + 1) (b == 92) rest)) (or_left (b == 34) (b == 92) h)
    ∙ ap (λ y. phrase_end (n + 1) y rest) (or_right (b == 34) (b == 92) h)

phrase_runs : (text : List ℕ) → PhraseRuns (flat_map phrase_byte text)
phrase_runs [] n rest = ap (λ m. phrase_end m false rest) (let e : n ≡ n + 0 = omega arith in e)
phrase_runs (b ∷ bs) n rest =
    let v = phrase_byte b in
    let w = flat_map phrase_byte bs in
    ap (λ t. phrase_end n false t) (append_assoc v w rest)
    ∙ phrase_spelled (b == 34 || b == 92) b refl n (w ++ rest)
    ∙ phrase_runs bs (n + length v) rest
    ∙ ap (λ m. phrase_end m false rest) (let e : n + length v + length w ≡ n + length (v ++ w) = omega (arith, length-append v w) in e)

pub phrase_ends : (text rest : List ℕ) → phrase_end 0 false (flat_map phrase_byte text ++ 34 ∷ rest) ≡ Some (length (flat_map phrase_byte text))
unfolding phrase_end
phrase_ends text rest = phrase_runs text 0 (34 ∷ rest) ∙ ap Some (let e : 0 + length (flat_map phrase_byte text) ≡ length (flat_map phrase_byte text) = omega arith in e)

pub says_phrase : (text : List ℕ) → plain false (flat_map phrase_byte text) ≡ text
says_phrase text = plain_flat (λ b. b == 34 || b == 92) (λ b. or_right (b == 34) (b == 92)) text

-- patterns

abbrev special_in_pattern : ℕ → Bool
special_in_pattern b = ends_word b || (b == 92 || (b == 42 || b == 63))

no_end : (b : ℕ) → special_in_pattern b ≡ false → ends_word b ≡ false
no_end b h = or_left (ends_word b) (b == 92 || (b == 42 || b == 63)) h

no_backslash : (b : ℕ) → special_in_pattern b ≡ false → (b == 92) ≡ false
no_backslash b h = or_left (b == 92) (b == 42 || b == 63) (or_right (ends_word b) (b == 92 || (b == 42 || b == 63)) h)

no_wildcard : (b : ℕ) → special_in_pattern b ≡ false → (b == 42 || b == 63) ≡ false
no_wildcard b h = or_right (b == 92) (b == 42 || b == 63) (or_right (ends_word b) (b == 92 || (b == 42 || b == 63)) h)

piece_runs : (x : Piece) → Runs (piece_text x)
piece_runs (Byte b) = spelled_runs (special_in_pattern b) b (no_end b) (no_backslash b)
piece_runs AnyRun = byte_runs 42 refl refl
piece_runs AnyOne = byte_runs 63 refl refl

byte_piece : (b : ℕ) → (b == 42) ≡ false → (b == 63) ≡ false → piece_of false b ≡ Byte b
byte_piece b s q = ap (λ x. cond x AnyRun (cond (b == 63) AnyOne (Byte b))) s ∙ ap (λ x. cond x AnyOne (Byte b)) q

pieces_spelled : (x : Bool) (b : ℕ) (rest : List ℕ) → special_in_pattern b ≡ x → pieces false (spelled x b ++ rest) ≡ Byte b ∷ pieces false rest
unfolding pieces
pieces_spelled true b rest h = refl
pieces_spelled false b rest h =
    ap (λ x. cond x [] (piece_of false b ∷ []) ++ pieces x rest) (no_backslash b h)
    ∙ ap (λ p. p ∷ pieces false rest) (byte_piece b (or_left (b == 42) (b == 63) (no_wildcard b h)) (or_right (b == 42) (b == 63) (no_wildcard b h)))

pub says_pattern : (p : List Piece) → pieces false (pattern_text p) ≡ p
unfolding pieces
says_pattern [] = refl
says_pattern (Byte b ∷ p) = pieces_spelled (special_in_pattern b) b (pattern_text p) refl ∙ ap (λ q. Byte b ∷ q) (says_pattern p)
says_pattern (AnyRun ∷ p) = ap (λ q. AnyRun ∷ q) (says_pattern p)
says_pattern (AnyOne ∷ p) = ap (λ q. AnyOne ∷ q) (says_pattern p)

pattern_opens : (p : List Piece) → list_any is_wildcard p ≡ true → opens_word (pattern_text p) ≡ true
pattern_opens [] h = cc h
pattern_opens (Byte b ∷ p) h = spelled_opens (special_in_pattern b) b (pattern_text p) (no_end b)
pattern_opens (AnyRun ∷ p) h = refl
pattern_opens (AnyOne ∷ p) h = refl

keyword_plain_pieces : (w : List ℕ) → is_keyword w ≡ true → list_any is_wildcard (pieces false w) ≡ false
unfolding pieces
keyword_plain_pieces w h = keyword_cases (λ v. list_any is_wildcard (pieces false v) ≡ false) refl refl refl refl refl w h

-- a word with wildcards
pub record IsPatternWord (w : List ℕ) (p : List Piece) : Type 0 where
  pub runs : Runs w
  pub opens : opens_word w ≡ true
  pub free : is_keyword w ≡ false
  pub says : pieces false w ≡ p

pub pattern_word : (p : List Piece) → list_any is_wildcard p ≡ true → IsPatternWord (pattern_text p) p
pattern_word p some = record {
  runs = runs_flat piece_text piece_runs p;
  opens = pattern_opens p some;
  free = free (is_keyword (pattern_text p)) refl;
  says = says_pattern p;
}
  where
    free : (x : Bool) → is_keyword (pattern_text p) ≡ x → x ≡ false
    free true e = cc (sym (keyword_plain_pieces (pattern_text p) e) ∙ ap (λ q. list_any is_wildcard q) (says_pattern p) ∙ some)
    free false e = refl
