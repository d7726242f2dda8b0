-- A tree that was read can be printed: each name has a byte, each number 64 bits, and all text is UTF-8.
use Rattle.std.proofs.Common.{◌≡◌, ◌≢◌, ℕ, ◌^◌, ◌<◌, ◌==◌, nat_lt, Bool, true, false, cond, not, ◌&&◌, List, [], ◌∷◌, ◌++◌, ℤ, Option, Some, None, codes, refl, sym, ap, ◌∙◌, arith}
use Rattle.std.specs.Bool.{⊤}
use Rattle.std.specs.Str.{IsUtf8}
use Rattle.std.specs.List.{list_any}
use Rattle.std.specs.Fmt.{signed_decimal}
use Rattle.std.proofs.lemmas.Str.{IsUtf8-append, IsUtf8-nil, IsUtf8-from_ascii}
use Rattle.std.proofs.lemmas.Fmt.{IsAscii-signed}
use Rattle.std.proofs.lemmas.Bool.Decides.{nat_tests}
use lib.Signed.{mag}
use Rattle.gl_query.specs.declared.token.Comparison.{Comparison}
use Rattle.gl_query.specs.declared.token.Comparison.TheVariants.{Above, AtLeast, Below, AtMost}
use Rattle.gl_query.specs.declared.token.Edge.{Edge}
use Rattle.gl_query.specs.declared.token.Edge.TheVariants.{Including, Excluding}
use Rattle.gl_query.specs.declared.token.Token.{Token}
use Rattle.gl_query.specs.declared.token.Token.TheVariants as token
use Rattle.gl_query.specs.declared.term.Piece.TheVariants.{Byte, AnyRun, AnyOne}
use Rattle.gl_query.specs.declared.term.Limit.{Limit}
use Rattle.gl_query.specs.declared.term.Limit.TheVariants.{Unbounded, Included, Excluded}
use Rattle.gl_query.specs.declared.term.Term.{Term}
use Rattle.gl_query.specs.declared.term.Term.TheVariants.{All, Text, Pattern, Within}
use Rattle.gl_query.specs.Words.{plain, piece_of, pieces, is_wildcard, is_any_run, wildcard_term, word_term, number_of, bound_of, some_bound, limit_of, comparison_term}
use Rattle.gl_query.specs.Tree.{Tree, leaf, negation, both, either, Trees, none, also, one_of}
use Rattle.gl_query.specs.Grammar.{IsTerm, word, phrase, exists, field_word, field_phrase, comparison, range, IsOperand, a_term, a_negation, in_parentheses, AreFactors, last_factor, joined, AreAlternatives, last_alternative, parted_by_or, side_by_side, IsQuery, nothing, something}
use Rattle.gl_query.specs.Printing.{name_text, phrase_text, pattern_text, field_text, low_text, high_text, tree_text, members_text}
use Rattle.gl_query.proofs.Spelling.{has_byte}
use Rattle.gl_query.proofs.Numbering.{number_small}
use Rattle.gl_query.proofs.Relexing.{lex}
use Rattle.gl_query.proofs.Lettering.{utf8_byte, utf8_plain, utf8_name, utf8_phrase, utf8_pattern}
use Rattle.gl_query.proofs.Lawful.{Each, each_append, each_front, each_back, IsReadable, open_escape, IsLawfulWord, IsLawful, lawful}
use Rattle.gl_query.proofs.Rereading.{IsFieldName, IsLimit, IsSaid, AreSpoken, IsSpokenTree, AreMany}

-- the tokens of a query can be read

term_readable : (ts : List Token) (x : Term) → IsTerm ts x → Each IsReadable ts
term_readable ts x (word w) = (tt, tt)
term_readable ts x (phrase p) = (tt, tt)
term_readable ts x (exists w) = (tt, (tt, tt))
term_readable ts x (field_word f w) = (tt, (tt, tt))
term_readable ts x (field_phrase f p) = (tt, (tt, tt))
term_readable ts x (comparison f w c n e) = (tt, (tt, (tt, tt)))
term_readable ts x (range f v w e d low high l h) = (tt, (tt, (tt, (tt, (tt, (tt, tt))))))

abbrev Readable : List Token → Type 0
Readable ts = Each IsReadable ts

readable_append : (ts us : List Token) → Readable ts → Readable us → Readable (ts ++ us)
readable_append ts us a b = each_append IsReadable ts us a b

mutual
  operand_readable : (n : ℕ) (ts : List Token) (t : Tree) → IsOperand n ts t → Readable ts
  operand_readable n ts t (a_term m us x i) = term_readable us x i
  operand_readable n ts t (a_negation m us u i) = (tt, operand_readable m us u i)
  operand_readable n ts t (in_parentheses m us alts i) = (tt, readable_append us (token.Close ∷ []) (alternatives_readable m us alts i) (tt, tt))

  factors_readable : (n : ℕ) (ts : List Token) (fs : Trees) → AreFactors n ts fs → Readable ts
  factors_readable n ts fs (last_factor m us t i) = operand_readable m us t i
  factors_readable n ts fs (joined m us vs t gs i j) = readable_append us (token.And ∷ vs) (operand_readable m us t i) (tt, factors_readable m vs gs j)

  alternatives_readable : (n : ℕ) (ts : List Token) (alts : Trees) → AreAlternatives n ts alts → Readable ts
  alternatives_readable n ts alts (last_alternative m us fs i) = factors_readable m us fs i
  alternatives_readable n ts alts (parted_by_or m us vs fs bs i j) = readable_append us (token.Or ∷ vs) (factors_readable m us fs i) (tt, alternatives_readable m vs bs j)
  alternatives_readable n ts alts (side_by_side m us vs fs bs i j) = readable_append us vs (factors_readable m us fs i) (alternatives_readable m vs bs j)

query_readable : (ts : List Token) (t : Tree) → IsQuery ts t → Readable ts
query_readable ts t nothing = tt
query_readable ts t (something us alts i) = alternatives_readable 64 us alts i

-- what a lawful word says

plain_some : (e : Bool) (w : List ℕ) → has_byte w ≡ true → open_escape e w ≡ false → has_byte (plain e w) ≡ true
unfolding plain open_escape
plain_some e [] h c = cc h
plain_some e (b ∷ bs) h c = step (not e && b == 92) bs c
  where
    step : (x : Bool) (bs : List ℕ) → open_escape x bs ≡ false → has_byte (cond x [] (b ∷ []) ++ plain x bs) ≡ true
    step false bs h = refl
    step true [] h = cc h
    step true (d ∷ ds) h = refl

says_some : (w : List ℕ) → IsLawfulWord w → has_byte (plain false w) ≡ true
says_some w l = plain_some false w l.some l.closed

pieces_some : (w : List ℕ) → has_byte w ≡ true → open_escape false w ≡ false → pieces false w ≢ []
unfolding pieces open_escape
pieces_some [] h c = cc h
pieces_some (b ∷ bs) h c = step (b == 92) bs c
  where
    step : (x : Bool) (bs : List ℕ) → open_escape x bs ≡ false → (cond x [] (piece_of false b ∷ []) ++ pieces x bs) ≢ []
    step false bs h e = cc e
    step true [] h e = cc h
    step true (d ∷ ds) h e = cc e

same_number : (b k : ℕ) → (b == k) ≡ true → b ≡ k
same_number b k h = grind (arith, nat_tests)

any_run : (b : ℕ) → piece_of false b ≡ AnyRun → b ≡ 42
any_run b h = step (b == 42) (b == 63) refl h
  where
    step : (x y : Bool) → (b == 42) ≡ x → cond x AnyRun (cond y AnyOne (Byte b)) ≡ AnyRun → b ≡ 42
    step true y e h = same_number b 42 e
    step false true e h = cc h
    step false false e h = cc h

star_only : (w : List ℕ) → has_byte w ≡ true → open_escape false w ≡ false → pieces false w ≡ AnyRun ∷ [] → w ≡ codes "*"
unfolding pieces open_escape
star_only [] h c e = cc h
star_only (b ∷ bs) h c e = step (b == 92) bs c e
  where
    step : (x : Bool) (bs : List ℕ) → open_escape x bs ≡ false → (cond x [] (piece_of false b ∷ []) ++ pieces x bs) ≡ AnyRun ∷ [] → b ∷ bs ≡ codes "*"
    step false [] h e = let first : piece_of false b ≡ AnyRun = cc e in ap (λ n. n ∷ []) (any_run b first)
    step false (d ∷ ds) h e = let behind : pieces false (d ∷ ds) ≡ [] = cc e in absurd (pieces_some (d ∷ ds) refl h behind)
    step true [] h e = cc h
    step true (d ∷ ds) h e = cc e

-- what is printed is UTF-8

abbrev all_ascii : List ℕ → Bool
all_ascii [] = true
all_ascii (b ∷ bs) = nat_lt b 128 && all_ascii bs

utf8_ascii : (bs : List ℕ) → all_ascii bs ≡ true → IsUtf8 bs
utf8_ascii [] h = IsUtf8-nil
utf8_ascii (b ∷ bs) h = step (nat_lt b 128) refl h (λ i. utf8_ascii bs i)
  where
    step : (x : Bool) → nat_lt b 128 ≡ x → (x && all_ascii bs) ≡ true → (all_ascii bs ≡ true → IsUtf8 bs) → IsUtf8 (b ∷ bs)
    step true e h more = IsUtf8-append (b ∷ []) bs (utf8_byte b (grind (arith, nat_tests))) (more h)
    step false e h more = cc h

utf8_number : (n : ℤ) → mag n < 2 ^ 63 → IsUtf8 (signed_decimal n)
utf8_number n lt = IsUtf8-from_ascii (signed_decimal n) (IsAscii-signed n lt)

utf8_field : (name : List ℕ) → IsUtf8 name → IsUtf8 (field_text (Some name))
utf8_field name u = IsUtf8-append (name_text name) (codes ":") (utf8_name name u) (utf8_ascii (codes ":") refl)

utf8_low : (low : Limit) → IsLimit low → IsUtf8 (low_text low)
utf8_low Unbounded h = utf8_ascii (codes "[*") refl
utf8_low (Included n) h = IsUtf8-append (codes "[") (signed_decimal n) (utf8_ascii (codes "[") refl) (utf8_number n h)
utf8_low (Excluded n) h = IsUtf8-append (codes "{") (signed_decimal n) (utf8_ascii (codes "{") refl) (utf8_number n h)

utf8_high : (high : Limit) → IsLimit high → IsUtf8 (high_text high)
utf8_high Unbounded h = utf8_ascii (codes "*]") refl
utf8_high (Included n) h = IsUtf8-append (signed_decimal n) (codes "]") (utf8_number n h) (utf8_ascii (codes "]") refl)
utf8_high (Excluded n) h = IsUtf8-append (signed_decimal n) (codes "}") (utf8_number n h) (utf8_ascii (codes "}") refl)

-- terms

within_said : (name : List ℕ) (low high : Limit) → has_byte name ≡ true → IsUtf8 name → IsLimit low → IsLimit high → IsSaid (Within name low high)
within_said name low high h u l k = (
  (h, l, k),
  IsUtf8-append (field_text (Some name)) (low_text low ++ (codes " TO " ++ high_text high)) (utf8_field name u)
      (IsUtf8-append (low_text low) (codes " TO " ++ high_text high) (utf8_low low l) (IsUtf8-append (codes " TO ") (high_text high) (utf8_ascii (codes " TO ") refl) (utf8_high high k))),
)

comparison_said : (name : List ℕ) (c : Comparison) (n : ℤ) → has_byte name ≡ true → IsUtf8 name → mag n < 2 ^ 63 → IsSaid (comparison_term name c n)
comparison_said name Above n h u lt = within_said name (Excluded n) Unbounded h u lt tt
comparison_said name AtLeast n h u lt = within_said name (Included n) Unbounded h u lt tt
comparison_said name Below n h u lt = within_said name Unbounded (Excluded n) h u tt lt
comparison_said name AtMost n h u lt = within_said name Unbounded (Included n) h u tt lt

bound_limit : (w : List ℕ) (e : Edge) (low : Option ℤ) → bound_of w ≡ Some low → IsLimit (limit_of e low)
bound_limit w Including None h = tt
bound_limit w Excluding None h = tt
bound_limit w e (Some n) h = limit e (number_small w n (number (is_any_run w) (number_of w) h))
  where
    number : (x : Bool) (o : Option ℤ) → cond x (Some None) (some_bound o) ≡ Some (Some n) → o ≡ Some n
    number true o h = cc h
    number false None h = cc h
    number false (Some m) h = cc h

    limit : (e : Edge) → mag n < 2 ^ 63 → IsLimit (limit_of e (Some n))
    limit Including lt = lt
    limit Excluding lt = lt

text_said : (field : Option (List ℕ)) (text : List ℕ) → IsFieldName field → IsUtf8 (field_text field) → IsUtf8 text → IsSaid (Text field text)
text_said field text h f u = (h, IsUtf8-append (field_text field) (phrase_text text) f (utf8_phrase text u))

word_said : (field : Option (List ℕ)) (w : List ℕ) → IsFieldName field → IsUtf8 (field_text field) → IsLawfulWord w → IsSaid (word_term field w)
word_said field w h f l = pick (list_any is_wildcard (pieces false w)) refl
  where
    no_star : is_any_run w ≡ false → pieces false w ≢ AnyRun ∷ []
    no_star e s = cc (sym e ∙ ap is_any_run (star_only w l.some l.closed s))

    wild : (g : Option (List ℕ)) → IsFieldName g → IsUtf8 (field_text g) → list_any is_wildcard (pieces false w) ≡ true → IsSaid (wildcard_term g w)
    wild (Some name) h f e = ((h, e, tt), IsUtf8-append (field_text (Some name)) (pattern_text (pieces false w)) f (utf8_pattern w l.utf8))
    wild None h f e = star (is_any_run w) refl
      where
        star : (x : Bool) → is_any_run w ≡ x → IsSaid (cond x All (Pattern None (pieces false w)))
        star true s = (tt, utf8_byte 42 (omega arith))
        star false s = ((tt, e, no_star s), utf8_pattern w l.utf8)

    pick : (x : Bool) → list_any is_wildcard (pieces false w) ≡ x → IsSaid (cond x (wildcard_term field w) (Text field (plain false w)))
    pick true e = wild field h f e
    pick false e = text_said field (plain false w) h f (utf8_plain w l.utf8)

term_said : (ts : List Token) (x : Term) → IsTerm ts x → Each IsLawful ts → IsSaid x
term_said ts x (word w) l = word_said None w tt IsUtf8-nil l.0
term_said ts x (phrase p) l = text_said None (plain false p) tt IsUtf8-nil (utf8_plain p l.0)
term_said ts x (exists w) l =
    let v = l.1.0 in
    (says_some w v, IsUtf8-append (codes "_exists_:") (name_text (plain false w)) (utf8_ascii (codes "_exists_:") refl) (utf8_name (plain false w) (utf8_plain w v.utf8)))
term_said ts x (field_word f w) l = word_said (Some (plain false f)) w (says_some f l.0) (utf8_field (plain false f) (utf8_plain f l.0.utf8)) l.1.0
term_said ts x (field_phrase f p) l = text_said (Some (plain false f)) (plain false p) (says_some f l.0) (utf8_field (plain false f) (utf8_plain f l.0.utf8)) (utf8_plain p l.1.0)
term_said ts x (comparison f w c n e) l = comparison_said (plain false f) c n (says_some f l.0) (utf8_plain f l.0.utf8) (number_small w n e)
term_said ts x (range f v w e d low high i j) l =
    within_said (plain false f) (limit_of e low) (limit_of d high) (says_some f l.0) (utf8_plain f l.0.utf8) (bound_limit v e low i) (bound_limit w d high j)

-- trees

abbrev HasMember : Trees → Type 0
HasMember none = ⊥
HasMember (also t ts) = ⊤

both_said : (fs : Trees) → HasMember fs → AreSpoken fs → IsSpokenTree (one_of both fs)
both_said none s h = absurd s
both_said (also t none) s h = h.0
both_said (also t (also u us)) s h = h

either_said : (alts : Trees) → HasMember alts → AreSpoken alts → IsSpokenTree (one_of either alts)
either_said none s h = absurd s
either_said (also t none) s h = h.0
either_said (also t (also u us)) s h = h

abbrev Lawful : List Token → Type 0
Lawful ts = Each IsLawful ts

mutual
  operand_said : (n : ℕ) (ts : List Token) (t : Tree) → IsOperand n ts t → Lawful ts → IsSpokenTree t
  operand_said n ts t (a_term m us x i) l = term_said us x i l
  operand_said n ts t (a_negation m us u i) l = operand_said m us u i l.1
  operand_said n ts t (in_parentheses m us alts i) l =
      let s = alternatives_said m us alts i (each_front IsLawful us (token.Close ∷ []) l.1) in
      either_said alts s.0 s.1

  factors_said : (n : ℕ) (ts : List Token) (fs : Trees) → AreFactors n ts fs → Lawful ts → HasMember fs × AreSpoken fs
  factors_said n ts fs (last_factor m us t i) l = (tt, (operand_said m us t i l, tt))
  factors_said n ts fs (joined m us vs t gs i j) l =
      (tt, (operand_said m us t i (each_front IsLawful us (token.And ∷ vs) l), (factors_said m vs gs j (each_back IsLawful us (token.And ∷ vs) l).1).1))

  alternatives_said : (n : ℕ) (ts : List Token) (alts : Trees) → AreAlternatives n ts alts → Lawful ts → HasMember alts × AreSpoken alts
  alternatives_said n ts alts (last_alternative m us fs i) l =
      let s = factors_said m us fs i l in
      (tt, (both_said fs s.0 s.1, tt))
  alternatives_said n ts alts (parted_by_or m us vs fs bs i j) l =
      let s = factors_said m us fs i (each_front IsLawful us (token.Or ∷ vs) l) in
      (tt, (both_said fs s.0 s.1, (alternatives_said m vs bs j (each_back IsLawful us (token.Or ∷ vs) l).1).1))
  alternatives_said n ts alts (side_by_side m us vs fs bs i j) l =
      let s = factors_said m us fs i (each_front IsLawful us vs l) in
      (tt, (both_said fs s.0 s.1, (alternatives_said m vs bs j (each_back IsLawful us vs l)).1))

query_said : (ts : List Token) (t : Tree) → IsQuery ts t → Lawful ts → IsSpokenTree t
query_said ts t nothing l = (tt, utf8_byte 42 (omega arith))
query_said ts t (something us alts i) l =
    let s = alternatives_said 64 us alts i l in
    either_said alts s.0 s.1

-- the tree of a text
pub text_spoken : (text : List ℕ) (t : Tree) → IsUtf8 text → IsQuery (lex text) t → IsSpokenTree t
text_spoken text t u q = query_said (lex text) t q (lawful text u (query_readable (lex text) t q))

many_are : (ts : Trees) → AreMany ts → AreSpoken ts
many_are none h = absurd h
many_are (also t none) h = absurd h
many_are (also t (also u us)) h = h

mutual
  pub utf8_tree : (t : Tree) → IsSpokenTree t → IsUtf8 (tree_text t)
  utf8_tree (leaf x) h = h.1
  utf8_tree (negation t) h =
      IsUtf8-append (codes "(NOT ") (tree_text t ++ codes ")") (utf8_ascii (codes "(NOT ") refl) (IsUtf8-append (tree_text t) (codes ")") (utf8_tree t h) (utf8_ascii (codes ")") refl))
  utf8_tree (both ts) h =
      IsUtf8-append (codes "(") (members_text [] (codes " AND ") ts ++ codes ")") (utf8_ascii (codes "(") refl)
      (IsUtf8-append (members_text [] (codes " AND ") ts) (codes ")") (utf8_members ts (many_are ts h) [] (codes " AND ") IsUtf8-nil (utf8_ascii (codes " AND ") refl)) (utf8_ascii (codes ")") refl))
  utf8_tree (either ts) h =
      IsUtf8-append (codes "(") (members_text [] (codes " OR ") ts ++ codes ")") (utf8_ascii (codes "(") refl)
      (IsUtf8-append (members_text [] (codes " OR ") ts) (codes ")") (utf8_members ts (many_are ts h) [] (codes " OR ") IsUtf8-nil (utf8_ascii (codes " OR ") refl)) (utf8_ascii (codes ")") refl))

  utf8_members : (ts : Trees) → AreSpoken ts → (before sign : List ℕ) → IsUtf8 before → IsUtf8 sign → IsUtf8 (members_text before sign ts)
  utf8_members none h before sign b s = IsUtf8-nil
  utf8_members (also t ts) h before sign b s =
      IsUtf8-append before (tree_text t ++ members_text sign sign ts) b (IsUtf8-append (tree_text t) (members_text sign sign ts) (utf8_tree t h.0) (utf8_members ts h.1 sign sign s s))
