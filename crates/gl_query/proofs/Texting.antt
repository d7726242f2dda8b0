-- Steps over the bytes of a text's tokens.
use Rattle.std.proofs.Common.{◌≡◌, ℕ, zero, suc, ◌+◌, ◌<◌, ◌≤◌, Bool, true, false, ◌&&◌, ◌||◌, List, [], ◌∷◌, ◌++◌, length, get_or, take, drop, filter, refl, sym, ap, ◌∙◌, arith, append_assoc}
use Rattle.std.proofs.lemmas.List.{at_drop_more, at_drop_all, append-nil, drop_more, take_more}
use Rattle.gl_query.specs.Texts.{is_token_byte, put, runs_of, has_some, text_tokens, begins, some_end, same_token, TokenAhead}

-- a byte before a token
pub gap_goes : (text : List ℕ) (n : ℕ) → n < length text → is_token_byte (get_or text n 0) ≡ false → text_tokens (drop n text) ≡ text_tokens (drop (n + 1) text)
unfolding text_tokens runs_of
gap_goes text n lt h =
    ap text_tokens (drop_more text n 0 lt)
    ∙ ap (λ b. filter has_some (put b (get_or text n 0) (runs_of (drop (n + 1) text)))) h

pub no_tokens : text_tokens [] ≡ []
unfolding text_tokens runs_of
no_tokens = refl

abbrev pub prepend : List ℕ → List (List ℕ) → List (List ℕ)
prepend xs [] = xs ∷ []
prepend xs (r ∷ rs) = (xs ++ r) ∷ rs

prepend_nil : (rs : List (List ℕ)) (text : List ℕ) → runs_of text ≡ rs → rs ≡ prepend [] (runs_of text)
unfolding runs_of
prepend_nil rs [] e = sym e
prepend_nil rs (b ∷ bs) e = sym e ∙ same (is_token_byte b) b (runs_of bs)
  where
    same : (x : Bool) (b : ℕ) (rs : List (List ℕ)) → put x b rs ≡ prepend [] (put x b rs)
    same true b [] = refl
    same true b (r ∷ rs) = refl
    same false b rs = refl

-- the bytes so far are of the first run
abbrev pub Runs : List ℕ → ℕ → Type 0
Runs text n = runs_of text ≡ prepend (take n text) (runs_of (drop n text))

pub runs_none : (text : List ℕ) → Runs text 0
runs_none text = prepend_nil (runs_of text) text refl

prepend_put : (xs : List ℕ) (b : ℕ) (rs : List (List ℕ)) → prepend xs (put true b rs) ≡ prepend (xs ++ b ∷ []) rs
prepend_put xs b [] = refl
prepend_put xs b (r ∷ rs) = ap (λ ys. ys ∷ rs) (sym (append_assoc xs (b ∷ []) r))

pub runs_more : (text : List ℕ) (n : ℕ) → n < length text → is_token_byte (get_or text n 0) ≡ true → Runs text n → Runs text (n + 1)
unfolding runs_of
runs_more text n lt h so_far =
    so_far
    ∙ ap (λ rs. prepend (take n text) rs) (at_drop_more runs_of text n 0 lt ∙ ap (λ b. put b (get_or text n 0) (runs_of (drop (n + 1) text))) h)
    ∙ prepend_put (take n text) (get_or text n 0) (runs_of (drop (n + 1) text))
    ∙ ap (λ xs. prepend xs (runs_of (drop (n + 1) text))) (sym (take_more text n 0 lt))

some_run : (run : List ℕ) (rs : List (List ℕ)) → 0 < length run → filter has_some (run ∷ rs) ≡ run ∷ filter has_some rs
some_run [] rs lt = absurd (omega arith)
some_run (x ∷ xs) rs lt = refl

ended : (text rest run : List ℕ) (rs : List (List ℕ)) → runs_of text ≡ prepend run (runs_of rest) → runs_of rest ≡ [] ∷ rs → 0 < length run → text_tokens text ≡ run ∷ text_tokens rest
unfolding text_tokens
ended text rest run rs so_far e lt =
    ap (λ x. filter has_some x) (so_far ∙ ap (λ x. prepend run x) e ∙ ap (λ r. r ∷ rs) (append-nil run))
    ∙ some_run run rs lt
    ∙ ap (λ x. run ∷ filter has_some x) (sym e)

-- the token ends before a byte of none
pub token_stops : (text : List ℕ) (n : ℕ) → n < length text → is_token_byte (get_or text n 0) ≡ false → Runs text n → 0 < length (take n text) → text_tokens text ≡ take n text ∷ text_tokens (drop n text)
unfolding runs_of
token_stops text n lt h so_far some =
    ended text (drop n text) (take n text) (runs_of (drop (n + 1) text)) so_far (at_drop_more runs_of text n 0 lt ∙ ap (λ b. put b (get_or text n 0) (runs_of (drop (n + 1) text))) h) some

-- or at the end
pub token_over : (text : List ℕ) (n : ℕ) → length text ≤ n → Runs text n → 0 < length (take n text) → text_tokens text ≡ take n text ∷ text_tokens (drop n text)
unfolding runs_of
token_over text n le so_far some = ended text (drop n text) (take n text) [] so_far (at_drop_all runs_of text n le) some

pub some_len : (text : List ℕ) (n : ℕ) → n < length text → is_token_byte (get_or text n 0) ≡ false → is_token_byte (get_or text 0 0) ≡ true → 0 < length (take n text)
some_len text zero lt h e = absurd (clash h e)
  where
    clash : {b : Bool} → b ≡ false → b ≡ true → ⊥
    clash h e = cc (h, e)
some_len [] (suc n) lt h e = absurd (omega arith)
some_len (x ∷ xs) (suc n) lt h e = omega arith

module _ (word text : List ℕ) where
  abbrev Same : Bool → Type 0
  Same b = begins (text_tokens word) (text_tokens text) ≡ b

  pub begins_over : text_tokens word ≡ [] → Same true
  begins_over e = ap (λ ws. begins ws (text_tokens text)) e

  pub begins_none : (token more : List ℕ) → TokenAhead word token more → text_tokens text ≡ [] → Same false
  begins_none token more w e = ap (λ ws. begins ws (text_tokens text)) w.tokens ∙ ap (λ ts. begins (token ∷ text_tokens more) ts) e

  both : (token more other rest : List ℕ) → TokenAhead word token more → TokenAhead text other rest → Same (same_token token other && begins (text_tokens more) (text_tokens rest))
  both token more other rest w t = ap (λ ws. begins ws (text_tokens text)) w.tokens ∙ ap (λ ts. begins (token ∷ text_tokens more) ts) t.tokens

  pub begins_other : (token more other rest : List ℕ) → TokenAhead word token more → TokenAhead text other rest → same_token token other ≡ false → Same false
  begins_other token more other rest w t e = both token more other rest w t ∙ ap (λ b. b && begins (text_tokens more) (text_tokens rest)) e

  pub begins_goes : (token more other rest : List ℕ) → TokenAhead word token more → TokenAhead text other rest → same_token token other ≡ true → Same (begins (text_tokens more) (text_tokens rest))
  begins_goes token more other rest w t e = both token more other rest w t ∙ ap (λ b. b && begins (text_tokens more) (text_tokens rest)) e

module _ (p : List (List ℕ) → Bool) where
  ends_cons : (ts : List (List ℕ)) → p ts ≡ true → some_end p ts ≡ true
  ends_cons [] e = e
  ends_cons (t ∷ ts) e = ap (λ b. b || some_end p ts) e

  pub ends_here : (text : List ℕ) → p (text_tokens text) ≡ true → some_end p (text_tokens text) ≡ true
  ends_here text e = ends_cons (text_tokens text) e

  pub ends_over : (text : List ℕ) → p (text_tokens text) ≡ false → text_tokens text ≡ [] → some_end p (text_tokens text) ≡ false
  ends_over text e none = ap (λ ts. some_end p ts) none ∙ sym (ap (λ ts. p ts) none) ∙ e

  pub ends_goes : (text token rest : List ℕ) → p (text_tokens text) ≡ false → TokenAhead text token rest → some_end p (text_tokens text) ≡ some_end p (text_tokens rest)
  ends_goes text token rest e t =
      ap (λ ts. some_end p ts) t.tokens
      ∙ ap (λ b. b || some_end p (text_tokens rest)) (sym (ap (λ ts. p ts) t.tokens) ∙ e)
