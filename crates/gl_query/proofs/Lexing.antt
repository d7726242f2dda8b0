-- Steps over the bytes of a word, and of a phrase.
use Rattle.std.proofs.Common.{◌≡◌, ℕ, ◌+◌, ◌<◌, ◌≤◌, ◌==◌, Bool, true, false, not, ◌&&◌, ◌||◌, cond, List, length, get_or, drop, Some, None, refl, ◌∙◌}
use Rattle.std.proofs.lemmas.List.{at_drop_more, at_drop_all}
use Rattle.gl_query.specs.Tokens.{ends_word, word_end, phrase_end}

cond_true : {A : Type 0} (b : Bool) (x y : A) → b ≡ true → cond b x y ≡ x
cond_true true x y h = refl
cond_true false x y h = cc h

cond_false : {A : Type 0} (b : Bool) (x y : A) → b ≡ false → cond b x y ≡ y
cond_false true x y h = cc h
cond_false false x y h = refl

module _ (text : List ℕ) (n : ℕ) (e : Bool) where
  abbrev byte : ℕ
  byte = get_or text n 0

  pub word_end_stops : n < length text → (not e && ends_word byte) ≡ true → word_end n e (drop n text) ≡ Some n
  unfolding word_end
  word_end_stops lt h = at_drop_more (word_end n e) text n 0 lt ∙ cond_true _ (Some n) (word_end (n + 1) (not e && byte == 92) (drop (n + 1) text)) h

  pub word_end_goes : n < length text → (not e && ends_word byte) ≡ false → word_end n e (drop n text) ≡ word_end (n + 1) (not e && byte == 92) (drop (n + 1) text)
  unfolding word_end
  word_end_goes lt h = at_drop_more (word_end n e) text n 0 lt ∙ cond_false _ (Some n) (word_end (n + 1) (not e && byte == 92) (drop (n + 1) text)) h

  pub word_end_over : length text ≤ n → word_end n e (drop n text) ≡ cond e None (Some n)
  unfolding word_end
  word_end_over le = at_drop_all (word_end n e) text n le

  pub phrase_end_stops : n < length text → (not e && byte == 34) ≡ true → phrase_end n e (drop n text) ≡ Some n
  unfolding phrase_end
  phrase_end_stops lt h = at_drop_more (phrase_end n e) text n 0 lt ∙ cond_true _ (Some n) _ h

  pub phrase_end_misled : n < length text → (not e && byte == 34) ≡ false → (e && not (byte == 34 || byte == 92)) ≡ true → phrase_end n e (drop n text) ≡ None
  unfolding phrase_end
  phrase_end_misled lt h m = at_drop_more (phrase_end n e) text n 0 lt ∙ cond_false _ (Some n) _ h ∙ cond_true _ None _ m

  pub phrase_end_goes : n < length text → (not e && byte == 34) ≡ false → (e && not (byte == 34 || byte == 92)) ≡ false → phrase_end n e (drop n text) ≡ phrase_end (n + 1) (not e && byte == 92) (drop (n + 1) text)
  unfolding phrase_end
  phrase_end_goes lt h m = at_drop_more (phrase_end n e) text n 0 lt ∙ cond_false _ (Some n) _ h ∙ cond_false _ None _ m

  pub phrase_end_over : length text ≤ n → phrase_end n e (drop n text) ≡ None
  unfolding phrase_end
  phrase_end_over le = at_drop_all (phrase_end n e) text n le
