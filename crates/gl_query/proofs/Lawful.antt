-- The tokens of a text that is UTF-8: their words are UTF-8, have a byte, and end behind no lone backslash.
use Rattle.std.proofs.Common.{◌≡◌, ◌≢◌, ℕ, zero, suc, ◌+◌, ◌<◌, ◌≤◌, ◌==◌, max, Bool, true, false, cond, not, ◌&&◌, ◌||◌, ◌⊎◌, inl, inr, List, [], ◌∷◌, ◌++◌, length, get_or, take, drop, Option, Some, None, codes, refl, sym, ap, ◌∙◌, subst, arith, length-drop}
use Rattle.std.specs.Bool.{⊤}
use Rattle.std.specs.Str.{IsUtf8, IsCharBoundary, bytes_eq}
use Rattle.std.proofs.lemmas.Str.{IsUtf8-take, IsUtf8-drop, IsCharBoundary-before_ascii, IsCharBoundary-after_ascii, IsCharBoundary-end}
use Rattle.std.proofs.lemmas.Bool.Decides.{nat_tests}
use Rattle.std.proofs.lemmas.Grind.{common_steps}
use Rattle.gl_query.specs.declared.token.Comparison.TheVariants.{Above, AtLeast, Below, AtMost}
use Rattle.gl_query.specs.declared.token.Edge.TheVariants.{Including, Excluding}
use Rattle.gl_query.specs.declared.token.Token.{Token}
use Rattle.gl_query.specs.declared.token.Token.TheVariants.{Word, Field, Exists, Phrase, Open, Close, And, Or, Not, To, Compare, Begin, End, Unreadable}
use Rattle.gl_query.specs.Tokens.{ends_word, word_end, phrase_end, word_or_field, named_token, word_token, phrase_token, either_token, sign_token, text_token, token_or, token_at, tokens_from}
use Rattle.gl_query.specs.QueryReading.{units}
use Rattle.gl_query.proofs.Steps.{token_comes}
use Rattle.gl_query.proofs.Spelling.{has_byte}
use Rattle.gl_query.proofs.Relexing.{lex, lex_space, places_free}
use Rattle.gl_query.proofs.Lettering.{utf8_after, end_ascii}

abbrev pub Each : (Token → Type 0) → List Token → Type 0
Each P [] = ⊤
Each P (t ∷ ts) = P t × Each P ts

pub each_append : (P : Token → Type 0) (ts us : List Token) → Each P ts → Each P us → Each P (ts ++ us)
each_append P [] us a b = b
each_append P (t ∷ ts) us a b = (a.0, each_append P ts us a.1 b)

pub each_front : (P : Token → Type 0) (ts us : List Token) → Each P (ts ++ us) → Each P ts
each_front P [] us a = tt
each_front P (t ∷ ts) us a = (a.0, each_front P ts us a.1)

pub each_back : (P : Token → Type 0) (ts us : List Token) → Each P (ts ++ us) → Each P us
each_back P [] us a = a
each_back P (t ∷ ts) us a = each_back P ts us a.1

abbrev pub IsReadable : Token → Type 0
IsReadable Unreadable = ⊥
IsReadable _ = ⊤

-- whether a backslash behind these bytes takes the next one
unfoldable pub open_escape : Bool → List ℕ → Bool
open_escape e [] = e
open_escape e (b ∷ bs) = open_escape (not e && b == 92) bs

pub record IsLawfulWord (w : List ℕ) : Type 0 where
  pub utf8 : IsUtf8 w
  pub some : has_byte w ≡ true
  pub closed : open_escape false w ≡ false

abbrev pub IsLawful : Token → Type 0
IsLawful (Word w) = IsLawfulWord w
IsLawful (Field w) = IsLawfulWord w
IsLawful (Phrase p) = IsUtf8 p
IsLawful _ = ⊤

-- where a word ends
record EndsWord (e : Bool) (text : List ℕ) (k m : ℕ) : Type 0 where
  n : ℕ
  at : m ≡ k + n
  within : n ≤ length text
  ascii : n < length text → get_or text n 0 < 128
  closed : open_escape e (take n text) ≡ false

end_only : (e : Bool) (b : ℕ) → (not e && ends_word b) ≡ true → (e ≡ false) × (ends_word b ≡ true)
end_only true b h = cc h
end_only false b h = (refl, h)

word_ends : (text : List ℕ) (e : Bool) (k m : ℕ) → word_end k e text ≡ Some m → EndsWord e text k m
unfolding word_end open_escape
word_ends [] e k m h = empty e h
  where
    empty : (e : Bool) → cond e None (Some k) ≡ Some m → EndsWord e [] k m
    empty true h = cc h
    empty false h = let same : k ≡ m = cc h in record { n = 0; at = omega (arith, same); within = omega arith; ascii = λ lt. omega arith; closed = refl }
word_ends (b ∷ bs) e k m h = step (not e && ends_word b) refl (λ i. word_ends bs (not e && b == 92) (k + 1) m i) h
  where
    step : (x : Bool) → (not e && ends_word b) ≡ x → (word_end (k + 1) (not e && b == 92) bs ≡ Some m → EndsWord (not e && b == 92) bs (k + 1) m)
        → cond x (Some k) (word_end (k + 1) (not e && b == 92) bs) ≡ Some m → EndsWord e (b ∷ bs) k m
    step true x more h =
        let same : k ≡ m = cc h in
        record { n = 0; at = omega (arith, same); within = omega arith; ascii = λ lt. end_ascii b (end_only e b x).1; closed = (end_only e b x).0 }
    step false x more h =
        let r = more h in
        record { n = suc r.n; at = omega (arith, r.at); within = omega (arith, r.within); ascii = λ lt. r.ascii (omega (arith, lt)); closed = r.closed }

-- where a phrase ends
record EndsPhrase (text : List ℕ) (k m : ℕ) : Type 0 where
  n : ℕ
  at : m ≡ k + n
  within : n < length text
  ascii : get_or text n 0 < 128

same_number : (b k : ℕ) → (b == k) ≡ true → b ≡ k
same_number b k h = grind (arith, nat_tests)

quote_only : (e : Bool) (b : ℕ) → (not e && b == 34) ≡ true → b < 128
quote_only true b h = cc h
quote_only false b h = let s = same_number b 34 h in omega (arith, s)

phrase_ends_at : (text : List ℕ) (e : Bool) (k m : ℕ) → phrase_end k e text ≡ Some m → EndsPhrase text k m
unfolding phrase_end
phrase_ends_at [] e k m h = cc h
phrase_ends_at (b ∷ bs) e k m h = step (not e && b == 34) (e && not (b == 34 || b == 92)) refl (λ i. phrase_ends_at bs (not e && b == 92) (k + 1) m i) h
  where
    step : (x y : Bool) → (not e && b == 34) ≡ x → (phrase_end (k + 1) (not e && b == 92) bs ≡ Some m → EndsPhrase bs (k + 1) m)
        → cond x (Some k) (cond y None (phrase_end (k + 1) (not e && b == 92) bs)) ≡ Some m → EndsPhrase (b ∷ bs) k m
    step true y x more h =
        let same : k ≡ m = cc h in
        record { n = 0; at = omega (arith, same); within = omega arith; ascii = quote_only e b x }
    step false true x more h = cc h
    step false false x more h =
        let r = more h in
        record { n = suc r.n; at = omega (arith, r.at); within = omega (arith, r.within); ascii = r.ascii }

-- the byte behind a token, of so many bytes
abbrev Signed : ℕ → ℕ → Token → ℕ → Type 0
Signed b c t n = (b < 128) × IsLawful t × ((n ≡ 1) ⊎ ((n ≡ 2) × (0 < c) × (c < 128)))

chain : {A : Type 0} (x : Bool) (first : A) (rest : Option A) (p : A) (Q : A → Type 0) → (x ≡ true → Q first) → (rest ≡ Some p → Q p) → cond x (Some first) rest ≡ Some p → Q p
chain true first rest p Q here more h = let same : first ≡ p = cc h in subst Q same (here refl)
chain false first rest p Q here more h = more h

sign_ends : (b c : ℕ) (p : Token × ℕ) → sign_token b c ≡ Some p → Signed b c p.0 p.1
unfolding sign_token
sign_ends b c p =
    chain (b == 40) (Open, 1) _ p Q (one 40 (omega arith) Open tt) (
    chain (b == 41) (Close, 1) _ p Q (one 41 (omega arith) Close tt) (
    chain (b == 91) (Begin Including, 1) _ p Q (one 91 (omega arith) (Begin Including) tt) (
    chain (b == 93) (End Including, 1) _ p Q (one 93 (omega arith) (End Including) tt) (
    chain (b == 123) (Begin Excluding, 1) _ p Q (one 123 (omega arith) (Begin Excluding) tt) (
    chain (b == 125) (End Excluding, 1) _ p Q (one 125 (omega arith) (End Excluding) tt) (
    chain (b == 33) (Not, 1) _ p Q (one 33 (omega arith) Not tt) (
    chain (b == 58) (Unreadable, 1) _ p Q (one 58 (omega arith) Unreadable tt) (
    chain (b == 62) (either_token (c == 61) (Compare AtLeast) (Compare Above)) _ p Q (two 62 61 (c == 61) refl (omega arith) (omega arith) (omega arith) (Compare AtLeast) (Compare Above) tt tt) (
    chain (b == 60) (either_token (c == 61) (Compare AtMost) (Compare Below)) _ p Q (two 60 61 (c == 61) refl (omega arith) (omega arith) (omega arith) (Compare AtMost) (Compare Below) tt tt) (
    chain (b == 38) (either_token (c == 38) And Unreadable) _ p Q (two 38 38 (c == 38) refl (omega arith) (omega arith) (omega arith) And Unreadable tt tt) (
    chain (b == 124) (either_token (c == 124) Or Unreadable) _ p Q (two 124 124 (c == 124) refl (omega arith) (omega arith) (omega arith) Or Unreadable tt tt)
    (λ h. cc h))))))))))))
  where
    Q : Token × ℕ → Type 0
    Q q = Signed b c q.0 q.1

    one : (k : ℕ) → k < 128 → (t : Token) → IsLawful t → (b == k) ≡ true → Signed b c t 1
    one k lt t l h = (let e = same_number b k h in omega (arith, e, lt), l, inl refl)

    two : (k l : ℕ) (x : Bool) → (c == l) ≡ x → k < 128 → 0 < l → l < 128 → (long short : Token) → IsLawful long → IsLawful short → (b == k) ≡ true → Q (either_token x long short)
    two k l true e lt some small long short a z h = (let f = same_number b k h in omega (arith, f, lt), a, inr (refl, let f = same_number c l e in omega (arith, f, some), let f = same_number c l e in omega (arith, f, small)))
    two k l false e lt some small long short a z h = (let f = same_number b k h in omega (arith, f, lt), z, inl refl)

-- the token at the front of a text, where it can be read
abbrev FollowedAt : List ℕ → Token × ℕ → Type 0
FollowedAt text p = IsReadable p.0 → IsLawful p.0 × IsUtf8 (drop (max p.1 1) text)

signed_followed : (b : ℕ) (bs : List ℕ) (t : Token) (n : ℕ) → IsUtf8 (b ∷ bs) → Signed b (get_or (b ∷ bs) 1 0) t n → FollowedAt (b ∷ bs) (t, n)
signed_followed b bs t n u s r = (s.1, go bs s.2 (utf8_after bs b s.0 u))
  where
    go : (cs : List ℕ) → ((n ≡ 1) ⊎ ((n ≡ 2) × (0 < get_or (b ∷ cs) 1 0) × (get_or (b ∷ cs) 1 0 < 128))) → IsUtf8 cs → IsUtf8 (drop (max n 1) (b ∷ cs))
    go cs (inl e) v = subst (λ k. IsUtf8 (drop k (b ∷ cs))) (let z : 1 ≡ max n 1 = omega (arith, e) in z) v
    go [] (inr e) v = absurd (omega (arith, e.1))
    go (d ∷ ds) (inr e) v = subst (λ k. IsUtf8 (drop k (b ∷ d ∷ ds))) (let z : 2 ≡ max n 1 = omega (arith, e.0) in z) (utf8_after ds d e.2 v)

-- what begins a word doesn't end one
begins_no_end : (b c : ℕ) → (b == 32) ≡ false → (b == 34) ≡ false → sign_token b c ≡ None → ends_word b ≡ false
unfolding sign_token
begins_no_end b c space quote none =
    rw space (rw (other 40 (λ h. cc h)) (rw (other 41 (λ h. cc h)) (rw quote (rw (other 58 (λ h. cc h)) (rw (other 91 (λ h. cc h)) (rw (other 93 (λ h. cc h)) (rw (other 123 (λ h. cc h))
    (rw (other 125 (λ h. cc h)) (rw (other 60 (λ h. cc h)) (rw (other 62 (λ h. cc h)) (rw (other 33 (λ h. cc h)) (rw (other 38 (λ h. cc h)) (rw (other 124 (λ h. cc h)) refl)))))))))))))
  where
    other : (k : ℕ) → sign_token k c ≢ None → (b == k) ≡ false
    other k h = pick (b == k) refl
      where
        pick : (x : Bool) → (b == k) ≡ x → x ≡ false
        pick true e = absurd (h (ap (λ n. sign_token n c) (sym (same_number b k e)) ∙ none))
        pick false e = refl

at_least_one : (b : ℕ) (bs : List ℕ) (m : ℕ) → ends_word b ≡ false → word_end 0 false (b ∷ bs) ≡ Some m → 1 ≤ m
unfolding word_end
at_least_one b bs m e h =
    let r = word_ends bs (b == 92) 1 m (sym (ap (λ x. cond x (Some 0) (word_end 1 (b == 92) bs)) e) ∙ h) in
    omega (arith, r.at)

module _ (b : ℕ) (bs : List ℕ) (u : IsUtf8 (b ∷ bs)) (n : ℕ) (some : 1 ≤ n) (r : EndsWord false (b ∷ bs) 0 n) where
  abbrev text : List ℕ
  text = b ∷ bs

  same : n ≡ r.n
  same = omega (arith, r.at)

  boundary : IsCharBoundary text n
  boundary = pick (split n (length text))
    where
      split : (m l : ℕ) → (m < l) ⊎ (l ≤ m)
      split m l = grind arith

      pick : (n < length text) ⊎ (length text ≤ n) → IsCharBoundary text n
      pick (inl lt) = IsCharBoundary-before_ascii text n lt (subst (λ k. get_or text k 0 < 128) (sym same) (r.ascii (subst (λ k. k < length text) same lt)))
      pick (inr le) = subst (λ k. IsCharBoundary text k) (let z : length text ≡ n = omega (arith, le, same, r.within) in z) (IsCharBoundary-end text)

  past : (k : ℕ) → 1 ≤ k → IsUtf8 (drop k text) → IsUtf8 (drop (max k 1) text)
  past k le v = subst (λ m. IsUtf8 (drop m text)) (let z : k ≡ max k 1 = omega (arith, le) in z) v

  behind : IsUtf8 (drop (max n 1) text)
  behind = past n some (IsUtf8-drop text n u boundary)

  behind_colon : (get_or text n 0 == 58) ≡ true → IsUtf8 (drop (max (n + 1) 1) text)
  behind_colon h =
      let e = same_number (get_or text n 0) 58 h in
      past (n + 1) (omega arith) (IsUtf8-drop text (n + 1) u (IsCharBoundary-after_ascii text n u (there e) (omega (arith, e))))
    where
      there : get_or text n 0 ≡ 58 → n < length text
      there e = grind (arith, common_steps)

  word : IsLawfulWord (take n text)
  word = record {
    utf8 = IsUtf8-take text n u boundary;
    some = has n some;
    closed = subst (λ k. open_escape false (take k text) ≡ false) (sym same) r.closed;
  }
    where
      has : (k : ℕ) → 1 ≤ k → has_byte (take k text) ≡ true
      has zero le = absurd (omega (arith, le))
      has (suc k) le = refl

  before_colon : (x : Bool) → (get_or text n 0 == 58) ≡ true → FollowedAt text (cond {A = Token × ℕ} x (Exists, n + 1) (Field (take n text), n + 1))
  before_colon true e r = (tt, behind_colon e)
  before_colon false e r = (word, behind_colon e)

  alone : (c : Bool) → (get_or text n 0 == 58) ≡ c → FollowedAt text (word_or_field (take n text) n c)
  alone true e r = before_colon (bytes_eq (take n text) (codes "_exists_")) e r
  alone false e r = (word, behind)

  named : (c : Bool) → (get_or text n 0 == 58) ≡ c → FollowedAt text (named_token (take n text) n c)
  named c e = pick (bytes_eq (take n text) (codes "AND")) (bytes_eq (take n text) (codes "OR")) (bytes_eq (take n text) (codes "NOT")) (bytes_eq (take n text) (codes "TO"))
    where
      pick : (x1 x2 x3 x4 : Bool)
          → FollowedAt text (cond {A = Token × ℕ} x1 (And, n) (cond {A = Token × ℕ} x2 (Or, n) (cond {A = Token × ℕ} x3 (Not, n) (cond {A = Token × ℕ} x4 (To, n) (word_or_field (take n text) n c)))))
      pick true x2 x3 x4 r = (tt, behind)
      pick false true x3 x4 r = (tt, behind)
      pick false false true x4 r = (tt, behind)
      pick false false false true r = (tt, behind)
      pick false false false false r = alone c e r

-- the text that begins with a word or a phrase
text_followed : (b : ℕ) (bs : List ℕ) → IsUtf8 (b ∷ bs) → (b == 32) ≡ false → sign_token b (get_or (b ∷ bs) 1 0) ≡ None → FollowedAt (b ∷ bs) (text_token (b ∷ bs))
text_followed b bs u space none = pick (b == 34) refl
  where
    phrased : (o : Option ℕ) → phrase_end 0 false bs ≡ o → b < 128 → FollowedAt (b ∷ bs) (phrase_token bs o)
    phrased None e lt r = absurd r
    phrased (Some n) e lt r =
        let v = utf8_after bs b lt u in
        let p = phrase_ends_at bs false 0 n e in
        let same : p.n ≡ n = omega (arith, p.at) in
        let within : n < length bs = omega (arith, p.within, same) in
        let ascii : get_or bs n 0 < 128 = subst (λ k. get_or bs k 0 < 128) same p.ascii in (
          IsUtf8-take bs n v (IsCharBoundary-before_ascii bs n within ascii),
          subst (λ k. IsUtf8 (drop k (b ∷ bs))) (let z : suc (n + 1) ≡ max (n + 2) 1 = omega arith in z) (IsUtf8-drop bs (n + 1) v (IsCharBoundary-after_ascii bs n v within ascii)),
        )

    worded : (o : Option ℕ) → word_end 0 false (b ∷ bs) ≡ o → ends_word b ≡ false → FollowedAt (b ∷ bs) (word_token (b ∷ bs) o)
    worded None e begins r = absurd r
    worded (Some n) e begins r = named b bs u n (at_least_one b bs n begins e) (word_ends (b ∷ bs) false 0 n e) (get_or (b ∷ bs) n 0 == 58) refl r

    pick : (x : Bool) → (b == 34) ≡ x → FollowedAt (b ∷ bs) (cond {A = Token × ℕ} x (phrase_token bs (phrase_end 0 false bs)) (word_token (b ∷ bs) (word_end 0 false (b ∷ bs))))
    pick true e = phrased (phrase_end 0 false bs) refl (let s = same_number b 34 e in omega (arith, s))
    pick false e = worded (word_end 0 false (b ∷ bs)) refl (begins_no_end b (get_or (b ∷ bs) 1 0) space e none)

token_followed : (b : ℕ) (bs : List ℕ) → IsUtf8 (b ∷ bs) → (b == 32) ≡ false → FollowedAt (b ∷ bs) (token_at (b ∷ bs))
unfolding token_at
token_followed b bs u space = pick (sign_token b (get_or (b ∷ bs) 1 0)) refl
  where
    pick : (o : Option (Token × ℕ)) → sign_token b (get_or (b ∷ bs) 1 0) ≡ o → FollowedAt (b ∷ bs) (token_or (b ∷ bs) o)
    pick None e = text_followed b bs u space e
    pick (Some p) e = signed_followed b bs p.0 p.1 u (sign_ends b (get_or (b ∷ bs) 1 0) p e)

lex_comes : (b : ℕ) (bs : List ℕ) → (b == 32) ≡ false → lex (b ∷ bs) ≡ (token_at (b ∷ bs)).0 ∷ lex (drop (max (token_at (b ∷ bs)).1 1) (b ∷ bs))
lex_comes b bs h =
    let text = b ∷ bs in
    let n = max (token_at text).1 1 in
    ap units (token_comes text 0 (omega arith) h)
    ∙ ap (λ k. (token_at text).0 ∷ units (tokens_from k 0 (drop k text))) (let z : 0 + n ≡ n = omega arith in z)
    ∙ ap (λ ts. (token_at text).0 ∷ ts) (places_free (drop n text) 0 n 0)

-- the tokens of a text that can be read are lawful
tokens_lawful : (most : ℕ) (text : List ℕ) → length text ≤ most → IsUtf8 text → Each IsReadable (lex text) → Each IsLawful (lex text)
unfolding tokens_from
tokens_lawful most [] le u r = tt
tokens_lawful zero (b ∷ bs) le u r = absurd (omega (arith, le))
tokens_lawful (suc most) (b ∷ bs) le u r = step (b == 32) refl (λ text small v s. tokens_lawful most text small v s)
  where
    step : (x : Bool) → (b == 32) ≡ x → ((text : List ℕ) → length text ≤ most → IsUtf8 text → Each IsReadable (lex text) → Each IsLawful (lex text)) → Each IsLawful (lex (b ∷ bs))
    step true e more =
        let space : b ≡ 32 = same_number b 32 e in
        let same : lex (b ∷ bs) ≡ lex bs = ap (λ k. lex (k ∷ bs)) space ∙ lex_space bs in
        subst (λ ts. Each IsLawful ts) (sym same) (more bs (omega (arith, le)) (utf8_after bs b (omega (arith, space)) u) (subst (λ ts. Each IsReadable ts) same r))
    step false e more =
        let n = max (token_at (b ∷ bs)).1 1 in
        let same = lex_comes b bs e in
        let each = subst (λ ts. Each IsReadable ts) same r in
        let f = token_followed b bs u e each.0 in
        subst (λ ts. Each IsLawful ts) (sym same) (f.0, more (drop n (b ∷ bs)) (omega (arith, le, length-drop n (b ∷ bs))) f.1 each.1)

pub lawful : (text : List ℕ) → IsUtf8 text → Each IsReadable (lex text) → Each IsLawful (lex text)
lawful text u r = tokens_lawful (length text) text (omega arith) u r
