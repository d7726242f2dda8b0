-- The printed text of a tree reads back to it.
use Rattle.std.proofs.Common.{◌≡◌, ◌≢◌, ℕ, zero, suc, ◌+◌, ◌^◌, ◌<◌, ◌≤◌, Bool, true, false, cond, List, [], ◌∷◌, ◌++◌, ℤ, Option, Some, None, codes, refl, sym, ap, ◌∙◌, subst, arith, append_assoc, append-nil}
use Rattle.std.specs.Bool.{⊤}
use Rattle.std.specs.List.{list_any, flat_map}
use Rattle.std.specs.Fmt.{signed_decimal}
use Rattle.std.specs.Str.{IsUtf8}
use lib.Signed.{mag}
use Rattle.gl_query.specs.declared.token.Edge.{Edge}
use Rattle.gl_query.specs.declared.token.Edge.TheVariants.{Including, Excluding}
use Rattle.gl_query.specs.declared.token.Token.{Token}
use Rattle.gl_query.specs.declared.token.Token.TheVariants.{Word, Field, Phrase}
use Rattle.gl_query.specs.declared.token.Token.TheVariants as token
use Rattle.gl_query.specs.declared.term.Piece.{Piece}
use Rattle.gl_query.specs.declared.term.Piece.TheVariants.{AnyRun}
use Rattle.gl_query.specs.declared.term.Limit.{Limit}
use Rattle.gl_query.specs.declared.term.Limit.TheVariants.{Unbounded, Included, Excluded}
use Rattle.gl_query.specs.declared.term.Term.{Term}
use Rattle.gl_query.specs.declared.term.Term.TheVariants.{All, Exists, Text, Pattern, Within}
use Rattle.gl_query.specs.Words.{plain, pieces, is_wildcard, is_any_run, wildcard_term, word_term, bound_of, limit_of}
use Rattle.gl_query.specs.Tokens.{sign_token, tokens_from}
use Rattle.gl_query.specs.Tree.{Tree, leaf, negation, both, either, Trees, none, also}
use Rattle.gl_query.specs.Grammar.{IsTerm, word, phrase, exists, field_word, field_phrase, range, IsOperand, a_term, a_negation, in_parentheses, AreFactors, last_factor, joined, AreAlternatives, last_alternative, parted_by_or, IsQuery, something}
use Rattle.gl_query.specs.Printing.{phrase_byte, name_text, phrase_text, pattern_text, field_text, low_text, high_text, term_text, tree_text, members_text, depth, depths}
use Rattle.gl_query.proofs.Spelling.{has_byte, byte_runs, bytes_same, name_word, pattern_word, says_phrase, says_pattern}
use Rattle.gl_query.proofs.Relexing.{lex, is_apart, lex_word, lex_field, lex_phrase, lex_open, lex_close, lex_not, lex_and, lex_or, lex_to, lex_exists, lex_sign}
use Rattle.gl_query.proofs.Numbering.{number_word}

-- what a printed term reads back to

abbrev pub IsFieldName : Option (List ℕ) → Type 0
IsFieldName None = ⊤
IsFieldName (Some name) = has_byte name ≡ true

abbrev pub IsLimit : Limit → Type 0
IsLimit Unbounded = ⊤
IsLimit (Included n) = mag n < 2 ^ 63
IsLimit (Excluded n) = mag n < 2 ^ 63

-- without a field `*` stands for all
abbrev pub IsNoStar : Option (List ℕ) → List Piece → Type 0
IsNoStar None p = p ≢ AnyRun ∷ []
IsNoStar (Some name) p = ⊤

abbrev pub IsSpoken : Term → Type 0
IsSpoken All = ⊤
IsSpoken (Exists name) = has_byte name ≡ true
IsSpoken (Text field text) = IsFieldName field
IsSpoken (Pattern field p) = IsFieldName field × (list_any is_wildcard p ≡ true) × IsNoStar field p
IsSpoken (Within name low high) = (has_byte name ≡ true) × IsLimit low × IsLimit high

-- it reads back, and its text is UTF-8
abbrev pub IsSaid : Term → Type 0
IsSaid x = IsSpoken x × IsUtf8 (term_text x)

pub record ReadsTerm (x : Term) (rest : List ℕ) : Type 0 where
  pub tokens : List Token
  pub is_term : IsTerm tokens x
  pub lexed : lex (term_text x ++ rest) ≡ tokens ++ lex rest

star_word : (rest : List ℕ) → is_apart rest ≡ true → lex (codes "*" ++ rest) ≡ Word (codes "*") ∷ lex rest
star_word rest a = lex_word (codes "*") rest (byte_runs 42 refl refl) refl refl a

is_all : word_term None (codes "*") ≡ All
unfolding pieces
is_all = refl

star_pieces : pieces false (codes "*") ≡ AnyRun ∷ []
unfolding pieces
star_pieces = refl

plain_star : (p : List Piece) → p ≢ AnyRun ∷ [] → is_any_run (pattern_text p) ≡ false
plain_star p h = pick (is_any_run (pattern_text p)) refl
  where
    pick : (x : Bool) → is_any_run (pattern_text p) ≡ x → x ≡ false
    pick true e = absurd (h (sym (says_pattern p) ∙ ap (λ w. pieces false w) (bytes_same (pattern_text p) (codes "*") e) ∙ star_pieces))
    pick false e = refl

reads_pattern : (field : Option (List ℕ)) (p : List Piece) → list_any is_wildcard p ≡ true → IsNoStar field p → word_term field (pattern_text p) ≡ Pattern field p
reads_pattern field p some star =
    ap (λ q. cond (list_any is_wildcard q) (wildcard_term field (pattern_text p)) (Text field (plain false (pattern_text p)))) (says_pattern p)
    ∙ ap (λ x. cond x (wildcard_term field (pattern_text p)) (Text field (plain false (pattern_text p)))) some
    ∙ wild field star
  where
    wild : (f : Option (List ℕ)) → IsNoStar f p → wildcard_term f (pattern_text p) ≡ Pattern f p
    wild (Some name) h = ap (λ q. Pattern (Some name) q) (says_pattern p)
    wild None h = ap (λ x. cond x All (Pattern None (pieces false (pattern_text p)))) (plain_star p h) ∙ ap (λ q. Pattern None q) (says_pattern p)

-- the ends of a range
record ReadsLow (low : Limit) (rest : List ℕ) : Type 0 where
  edge : Edge
  bounded : List ℕ
  bound : Option ℤ
  is_bound : bound_of bounded ≡ Some bound
  is_limit : limit_of edge bound ≡ low
  lexed : lex (low_text low ++ rest) ≡ token.Begin edge ∷ Word bounded ∷ lex rest

record ReadsHigh (high : Limit) (rest : List ℕ) : Type 0 where
  edge : Edge
  bounded : List ℕ
  bound : Option ℤ
  is_bound : bound_of bounded ≡ Some bound
  is_limit : limit_of edge bound ≡ high
  lexed : lex (high_text high ++ rest) ≡ Word bounded ∷ token.End edge ∷ lex rest

begins_with : (rest : List ℕ) → lex (91 ∷ rest) ≡ token.Begin Including ∷ lex rest
unfolding sign_token
begins_with rest = lex_sign 91 (token.Begin Including) rest refl refl

begins_behind : (rest : List ℕ) → lex (123 ∷ rest) ≡ token.Begin Excluding ∷ lex rest
unfolding sign_token
begins_behind rest = lex_sign 123 (token.Begin Excluding) rest refl refl

ends_with : (rest : List ℕ) → lex (93 ∷ rest) ≡ token.End Including ∷ lex rest
unfolding sign_token
ends_with rest = lex_sign 93 (token.End Including) rest refl refl

ends_before : (rest : List ℕ) → lex (125 ∷ rest) ≡ token.End Excluding ∷ lex rest
unfolding sign_token
ends_before rest = lex_sign 125 (token.End Excluding) rest refl refl

reads_low : (low : Limit) (rest : List ℕ) → IsLimit low → is_apart rest ≡ true → ReadsLow low rest
reads_low Unbounded rest h a = record {
  edge = Including;
  bounded = codes "*";
  bound = None;
  is_bound = refl;
  is_limit = refl;
  lexed = begins_with (42 ∷ rest) ∙ ap (λ ts. token.Begin Including ∷ ts) (star_word rest a);
}
reads_low (Included n) rest h a =
    let w = number_word n h in
    record {
      edge = Including;
      bounded = signed_decimal n;
      bound = Some n;
      is_bound = w.bound;
      is_limit = refl;
      lexed = begins_with (signed_decimal n ++ rest) ∙ ap (λ ts. token.Begin Including ∷ ts) (lex_word (signed_decimal n) rest w.runs w.opens w.free a);
    }
reads_low (Excluded n) rest h a =
    let w = number_word n h in
    record {
      edge = Excluding;
      bounded = signed_decimal n;
      bound = Some n;
      is_bound = w.bound;
      is_limit = refl;
      lexed = begins_behind (signed_decimal n ++ rest) ∙ ap (λ ts. token.Begin Excluding ∷ ts) (lex_word (signed_decimal n) rest w.runs w.opens w.free a);
    }

reads_high : (high : Limit) (rest : List ℕ) → IsLimit high → ReadsHigh high rest
reads_high Unbounded rest h = record {
  edge = Including;
  bounded = codes "*";
  bound = None;
  is_bound = refl;
  is_limit = refl;
  lexed = star_word (93 ∷ rest) refl ∙ ap (λ ts. Word (codes "*") ∷ ts) (ends_with rest);
}
reads_high (Included n) rest h =
    let w = number_word n h in
    let v = signed_decimal n in
    record {
      edge = Including;
      bounded = v;
      bound = Some n;
      is_bound = w.bound;
      is_limit = refl;
      lexed = ap lex (append_assoc v (codes "]") rest) ∙ lex_word v (93 ∷ rest) w.runs w.opens w.free refl ∙ ap (λ ts. Word v ∷ ts) (ends_with rest);
    }
reads_high (Excluded n) rest h =
    let w = number_word n h in
    let v = signed_decimal n in
    record {
      edge = Excluding;
      bounded = v;
      bound = Some n;
      is_bound = w.bound;
      is_limit = refl;
      lexed = ap lex (append_assoc v (codes "}") rest) ∙ lex_word v (125 ∷ rest) w.runs w.opens w.free refl ∙ ap (λ ts. Word v ∷ ts) (ends_before rest);
    }

term_of : (ts : List Token) (x y : Term) → x ≡ y → IsTerm ts x → IsTerm ts y
term_of ts x y e h = subst (λ z. IsTerm ts z) e h

named : (name rest : List ℕ) → has_byte name ≡ true → lex (field_text (Some name) ++ rest) ≡ Field (name_text name) ∷ lex rest
named name rest h = let w = name_word name h in lex_field (name_text name) rest w.runs w.opens w.free

reads_text : (field : Option (List ℕ)) (text rest : List ℕ) → IsFieldName field → ReadsTerm (Text field text) rest
reads_text None text rest h = record {
  tokens = Phrase (flat_map phrase_byte text) ∷ [];
  is_term = term_of _ _ (Text None text) (ap (λ t. Text None t) (says_phrase text)) (phrase (flat_map phrase_byte text));
  lexed = lex_phrase text rest;
}
reads_text (Some name) text rest h =
    let w = name_word name h in
    let f = name_text name in
    let p = flat_map phrase_byte text in
    record {
      tokens = Field f ∷ Phrase p ∷ [];
      is_term = term_of _ _ (Text (Some name) text) (ap (λ n. Text (Some n) (plain false p)) w.says ∙ ap (λ t. Text (Some name) t) (says_phrase text)) (field_phrase f p);
      lexed = ap lex (append_assoc (field_text (Some name)) (phrase_text text) rest) ∙ named name (phrase_text text ++ rest) h ∙ ap (λ ts. Field f ∷ ts) (lex_phrase text rest);
    }

reads_wild : (field : Option (List ℕ)) (p : List Piece) (rest : List ℕ) → IsSpoken (Pattern field p) → is_apart rest ≡ true → ReadsTerm (Pattern field p) rest
reads_wild None p rest h a =
    let w = pattern_word p h.1 in
    record {
      tokens = Word (pattern_text p) ∷ [];
      is_term = term_of _ _ (Pattern None p) (reads_pattern None p h.1 h.2) (word (pattern_text p));
      lexed = lex_word (pattern_text p) rest w.runs w.opens w.free a;
    }
reads_wild (Some name) p rest h a =
    let w = pattern_word p h.1 in
    let n = name_word name h.0 in
    let f = name_text name in
    record {
      tokens = Field f ∷ Word (pattern_text p) ∷ [];
      is_term = term_of _ _ (Pattern (Some name) p) (ap (λ m. word_term (Some m) (pattern_text p)) n.says ∙ reads_pattern (Some name) p h.1 h.2) (field_word f (pattern_text p));
      lexed =
          ap lex (append_assoc (field_text (Some name)) (pattern_text p) rest)
          ∙ named name (pattern_text p ++ rest) h.0
          ∙ ap (λ ts. Field f ∷ ts) (lex_word (pattern_text p) rest w.runs w.opens w.free a);
    }

reads_within : (name : List ℕ) (low high : Limit) (rest : List ℕ) → IsSpoken (Within name low high) → ReadsTerm (Within name low high) rest
reads_within name low high rest h =
    let n = name_word name h.0 in
    let f = name_text name in
    let behind = codes " TO " ++ (high_text high ++ rest) in
    let l = reads_low low behind h.1 refl in
    let u = reads_high high rest h.2 in
    record {
      tokens = Field f ∷ token.Begin l.edge ∷ Word l.bounded ∷ token.To ∷ Word u.bounded ∷ token.End u.edge ∷ [];
      is_term =
          term_of _ _ (Within name low high)
          (ap (λ m. Within m (limit_of l.edge l.bound) (limit_of u.edge u.bound)) n.says ∙ ap (λ b. Within name b (limit_of u.edge u.bound)) l.is_limit ∙ ap (λ b. Within name low b) u.is_limit)
          (range f l.bounded u.bounded l.edge u.edge l.bound u.bound l.is_bound u.is_bound);
      lexed =
          ap lex (append_assoc (field_text (Some name)) (low_text low ++ (codes " TO " ++ high_text high)) rest
          ∙ ap (λ t. field_text (Some name) ++ t) (append_assoc (low_text low) (codes " TO " ++ high_text high) rest))
          ∙ named name (low_text low ++ behind) h.0
          ∙ ap (λ ts. Field f ∷ ts) (l.lexed ∙ ap (λ ts. token.Begin l.edge ∷ Word l.bounded ∷ ts) (lex_to (high_text high ++ rest) ∙ ap (λ ts. token.To ∷ ts) u.lexed));
    }

pub reads_term : (x : Term) (rest : List ℕ) → IsSpoken x → is_apart rest ≡ true → ReadsTerm x rest
reads_term All rest h a = record { tokens = Word (codes "*") ∷ []; is_term = term_of _ _ All is_all (word (codes "*")); lexed = star_word rest a }
reads_term (Exists name) rest h a =
    let w = name_word name h in
    let f = name_text name in
    record {
      tokens = token.Exists ∷ Word f ∷ [];
      is_term = term_of _ _ (Exists name) (ap (λ n. Exists n) w.says) (exists f);
      lexed = ap lex (append_assoc (codes "_exists_:") f rest) ∙ lex_exists (f ++ rest) ∙ ap (λ ts. token.Exists ∷ ts) (lex_word f rest w.runs w.opens w.free a);
    }
reads_term (Text field text) rest h a = reads_text field text rest h
reads_term (Pattern field p) rest h a = reads_wild field p rest h a
reads_term (Within name low high) rest h a = reads_within name low high rest h

-- trees

-- AND and OR have two or more members, and each term is one that some word says
abbrev mutual
  pub AreSpoken : Trees → Type 0
  AreSpoken none = ⊤
  AreSpoken (also t ts) = IsSpokenTree t × AreSpoken ts

  pub IsSpokenTree : Tree → Type 0
  IsSpokenTree (leaf x) = IsSaid x
  IsSpokenTree (negation t) = IsSpokenTree t
  IsSpokenTree (both ts) = AreMany ts
  IsSpokenTree (either ts) = AreMany ts

  pub AreMany : Trees → Type 0
  AreMany none = ⊥
  AreMany (also t none) = ⊥
  AreMany (also t (also u us)) = IsSpokenTree t × AreSpoken (also u us)

pub record ReadsTree (n : ℕ) (t : Tree) (rest : List ℕ) : Type 0 where
  pub tokens : List Token
  pub operand : IsOperand n tokens t
  pub lexed : lex (tree_text t ++ rest) ≡ tokens ++ lex rest

record ReadsFactors (n : ℕ) (ts : Trees) (text rest : List ℕ) : Type 0 where
  tokens : List Token
  factors : AreFactors n tokens ts
  lexed : lex text ≡ tokens ++ lex rest

record ReadsAlternatives (n : ℕ) (ts : Trees) (text rest : List ℕ) : Type 0 where
  tokens : List Token
  alternatives : AreAlternatives n tokens ts
  lexed : lex text ≡ tokens ++ lex rest

abbrev and_sign : List ℕ
and_sign = codes " AND "

abbrev or_sign : List ℕ
or_sign = codes " OR "

closed : (open_part inside : List ℕ) (rest : List ℕ) → (open_part ++ (inside ++ codes ")")) ++ rest ≡ open_part ++ (inside ++ 41 ∷ rest)
closed open_part inside rest = append_assoc open_part (inside ++ codes ")") rest ∙ ap (λ t. open_part ++ t) (append_assoc inside (codes ")") rest)

enclosed : (ts : List Token) (rest : List ℕ) → token.Open ∷ (ts ++ token.Close ∷ lex rest) ≡ (token.Open ∷ (ts ++ token.Close ∷ [])) ++ lex rest
enclosed ts rest = ap (λ us. token.Open ∷ us) (sym (append_assoc ts (token.Close ∷ []) (lex rest)))

many_spoken : (ts : Trees) → AreMany ts → AreSpoken ts
many_spoken none h = absurd h
many_spoken (also t none) h = absurd h
many_spoken (also t (also u us)) h = h

-- what a tree reads back to, whatever follows it
abbrev ReadsAnywhere : ℕ → Tree → Type 0
ReadsAnywhere n t = (rest : List ℕ) → is_apart rest ≡ true → ReadsTree n t rest

abbrev ReadsSomeFactors : ℕ → Trees → List ℕ → Type 0
ReadsSomeFactors n none rest = ⊤
ReadsSomeFactors n (also t us) rest = ReadsFactors n (also t us) (tree_text t ++ (members_text and_sign and_sign us ++ rest)) rest

abbrev ReadsSomeAlternatives : ℕ → Trees → List ℕ → Type 0
ReadsSomeAlternatives n none rest = ⊤
ReadsSomeAlternatives n (also t us) rest = ReadsAlternatives n (also t us) (tree_text t ++ (members_text or_sign or_sign us ++ rest)) rest

signed : (sign front inside rest : List ℕ) → (sign ++ (front ++ inside)) ++ rest ≡ sign ++ (front ++ (inside ++ rest))
signed sign front inside rest = append_assoc sign (front ++ inside) rest ∙ ap (λ x. sign ++ x) (append_assoc front inside rest)

one_more_factor : (n : ℕ) (t : Tree) (us : Trees) (rest : List ℕ) → is_apart rest ≡ true → ReadsAnywhere n t → ReadsSomeFactors n us rest → ReadsSomeFactors n (also t us) rest
one_more_factor n t none rest a f s =
    let r = f rest a in
    record { tokens = r.tokens; factors = last_factor n r.tokens t r.operand; lexed = r.lexed }
one_more_factor n t (also u us) rest a f s =
    let more = members_text and_sign and_sign us ++ rest in
    let r = f (and_sign ++ (tree_text u ++ more)) refl in
    record {
      tokens = r.tokens ++ token.And ∷ s.tokens;
      factors = joined n r.tokens s.tokens t (also u us) r.operand s.factors;
      lexed =
          ap (λ x. lex (tree_text t ++ x)) (signed and_sign (tree_text u) (members_text and_sign and_sign us) rest)
          ∙ r.lexed
          ∙ ap (λ x. r.tokens ++ x) (lex_and (tree_text u ++ more) ∙ ap (λ x. token.And ∷ x) s.lexed)
          ∙ sym (append_assoc r.tokens (token.And ∷ s.tokens) (lex rest));
    }

one_more_alternative : (n : ℕ) (t : Tree) (us : Trees) (rest : List ℕ) → is_apart rest ≡ true → ReadsAnywhere n t → ReadsSomeAlternatives n us rest → ReadsSomeAlternatives n (also t us) rest
one_more_alternative n t none rest a f s =
    let r = f rest a in
    record { tokens = r.tokens; alternatives = last_alternative n r.tokens (also t none) (last_factor n r.tokens t r.operand); lexed = r.lexed }
one_more_alternative n t (also u us) rest a f s =
    let more = members_text or_sign or_sign us ++ rest in
    let r = f (or_sign ++ (tree_text u ++ more)) refl in
    record {
      tokens = r.tokens ++ token.Or ∷ s.tokens;
      alternatives = parted_by_or n r.tokens s.tokens (also t none) (also u us) (last_factor n r.tokens t r.operand) s.alternatives;
      lexed =
          ap (λ x. lex (tree_text t ++ x)) (signed or_sign (tree_text u) (members_text or_sign or_sign us) rest)
          ∙ r.lexed
          ∙ ap (λ x. r.tokens ++ x) (lex_or (tree_text u ++ more) ∙ ap (λ x. token.Or ∷ x) s.lexed)
          ∙ sym (append_assoc r.tokens (token.Or ∷ s.tokens) (lex rest));
    }

negation_reads : (n : ℕ) (t : Tree) → depth t + 2 ≤ n → ((m : ℕ) → depth t ≤ m → ReadsAnywhere m t) → ReadsAnywhere n (negation t)
negation_reads zero t le f rest a = absurd (omega (arith, le))
negation_reads (suc zero) t le f rest a = absurd (omega (arith, le))
negation_reads (suc (suc n)) t le f rest a =
    let r = f n (omega (arith, le)) (41 ∷ rest) refl in
    let ts = token.Not ∷ r.tokens in
    record {
      tokens = token.Open ∷ (ts ++ token.Close ∷ []);
      operand = in_parentheses (suc n) ts (also (negation t) none) (last_alternative (suc n) ts (also (negation t) none) (last_factor (suc n) ts (negation t) (a_negation n r.tokens t r.operand)));
      lexed =
          ap lex (closed (codes "(NOT ") (tree_text t) rest)
          ∙ lex_open (codes "NOT " ++ (tree_text t ++ 41 ∷ rest))
          ∙ ap (λ us. token.Open ∷ us) (lex_not (tree_text t ++ 41 ∷ rest) ∙ ap (λ us. token.Not ∷ us) (r.lexed ∙ ap (λ us. r.tokens ++ us) (lex_close rest)))
          ∙ enclosed ts rest;
    }

both_reads : (n : ℕ) (ts : Trees) → AreMany ts → depths ts + 1 ≤ n → ((m : ℕ) → depths ts ≤ m → (rest : List ℕ) → is_apart rest ≡ true → ReadsSomeFactors m ts rest) → ReadsAnywhere n (both ts)
both_reads n none h le f rest a = absurd h
both_reads n (also t none) h le f rest a = absurd h
both_reads zero (also t (also u us)) h le f rest a = absurd (omega (arith, le))
both_reads (suc n) (also t (also u us)) h le f rest a =
    let ts = also t (also u us) in
    let inside = members_text [] and_sign ts in
    let r = f n (omega (arith, le)) (41 ∷ rest) refl in
    record {
      tokens = token.Open ∷ (r.tokens ++ token.Close ∷ []);
      operand = in_parentheses n r.tokens (also (both ts) none) (last_alternative n r.tokens ts r.factors);
      lexed =
          ap lex (closed (codes "(") inside rest)
          ∙ lex_open (inside ++ 41 ∷ rest)
          ∙ ap (λ us. token.Open ∷ us) (ap lex (append_assoc (tree_text t) (members_text and_sign and_sign (also u us)) (41 ∷ rest)) ∙ r.lexed ∙ ap (λ us. r.tokens ++ us) (lex_close rest))
          ∙ enclosed r.tokens rest;
    }

either_reads : (n : ℕ) (ts : Trees) → AreMany ts → depths ts + 1 ≤ n → ((m : ℕ) → depths ts ≤ m → (rest : List ℕ) → is_apart rest ≡ true → ReadsSomeAlternatives m ts rest) → ReadsAnywhere n (either ts)
either_reads n none h le f rest a = absurd h
either_reads n (also t none) h le f rest a = absurd h
either_reads zero (also t (also u us)) h le f rest a = absurd (omega (arith, le))
either_reads (suc n) (also t (also u us)) h le f rest a =
    let ts = also t (also u us) in
    let inside = members_text [] or_sign ts in
    let r = f n (omega (arith, le)) (41 ∷ rest) refl in
    record {
      tokens = token.Open ∷ (r.tokens ++ token.Close ∷ []);
      operand = in_parentheses n r.tokens ts r.alternatives;
      lexed =
          ap lex (closed (codes "(") inside rest)
          ∙ lex_open (inside ++ 41 ∷ rest)
          ∙ ap (λ us. token.Open ∷ us) (ap lex (append_assoc (tree_text t) (members_text or_sign or_sign (also u us)) (41 ∷ rest)) ∙ r.lexed ∙ ap (λ us. r.tokens ++ us) (lex_close rest))
          ∙ enclosed r.tokens rest;
    }

mutual
  pub reads_tree : (t : Tree) → IsSpokenTree t → (n : ℕ) → depth t ≤ n → ReadsAnywhere n t
  reads_tree (leaf x) h n le rest a =
      let r = reads_term x rest h.0 a in
      record { tokens = r.tokens; operand = a_term n r.tokens x r.is_term; lexed = r.lexed }
  reads_tree (negation t) h n le rest a = negation_reads n t le (λ m small. reads_tree t h m small) rest a
  reads_tree (both ts) h n le rest a = both_reads n ts h le (λ m small more b. reads_factors ts (many_spoken ts h) m small more b) rest a
  reads_tree (either ts) h n le rest a = either_reads n ts h le (λ m small more b. reads_alternatives ts (many_spoken ts h) m small more b) rest a

  reads_factors : (ts : Trees) → AreSpoken ts → (n : ℕ) → depths ts ≤ n → (rest : List ℕ) → is_apart rest ≡ true → ReadsSomeFactors n ts rest
  reads_factors none h n le rest a = tt
  reads_factors (also t us) h n le rest a = one_more_factor n t us rest a (λ more b. reads_tree t h.0 n (omega (arith, le)) more b) (reads_factors us h.1 n (omega (arith, le)) rest a)

  reads_alternatives : (ts : Trees) → AreSpoken ts → (n : ℕ) → depths ts ≤ n → (rest : List ℕ) → is_apart rest ≡ true → ReadsSomeAlternatives n ts rest
  reads_alternatives none h n le rest a = tt
  reads_alternatives (also t us) h n le rest a = one_more_alternative n t us rest a (λ more b. reads_tree t h.0 n (omega (arith, le)) more b) (reads_alternatives us h.1 n (omega (arith, le)) rest a)

-- the whole text of a tree is a query, with that tree
pub reads_back : (t : Tree) → IsSpokenTree t → depth t ≤ 64 → IsQuery (lex (tree_text t)) t
unfolding tokens_from
reads_back t h le =
    let r = reads_tree t h 64 le [] refl in
    let e : r.tokens ≡ lex (tree_text t) = sym (append-nil r.tokens) ∙ sym r.lexed ∙ ap lex (append-nil (tree_text t)) in
    subst (λ ts. IsQuery ts t) e (something r.tokens (also t none) (last_alternative 64 r.tokens (also t none) (last_factor 64 r.tokens t r.operand)))
