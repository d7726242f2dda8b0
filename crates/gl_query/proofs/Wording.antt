-- Steps over the bytes of a word.
use Rattle.std.proofs.Common.{◌≡◌, ℕ, ◌+◌, ◌<◌, ◌≤◌, ◌==◌, Bool, true, false, not, ◌&&◌, cond, List, [], ◌∷◌, ◌++◌, length, get_or, drop, refl, ap, ◌∙◌, sym}
use Rattle.std.proofs.lemmas.List.{at_drop_more, at_drop_all, append-nil, append_assoc}
use Rattle.gl_query.specs.declared.term.Piece.{Piece}
use Rattle.gl_query.specs.Words.{plain, piece_of, pieces}

cond_true : {A : Type 0} (b : Bool) (x y : A) → b ≡ true → cond b x y ≡ x
cond_true true x y h = refl
cond_true false x y h = cc h

cond_false : {A : Type 0} (b : Bool) (x y : A) → b ≡ false → cond b x y ≡ y
cond_false true x y h = cc h
cond_false false x y h = refl

module _ (word : List ℕ) (n : ℕ) (e : Bool) where
  abbrev byte : ℕ
  byte = get_or word n 0

  abbrev skips : Bool
  skips = not e && byte == 92

  pub plain_skips : (so_far : List ℕ) → n < length word → skips ≡ true → so_far ++ plain e (drop n word) ≡ so_far ++ plain true (drop (n + 1) word)
  unfolding plain
  plain_skips so_far lt h =
      ap (λ t. so_far ++ t) (at_drop_more (plain e) word n 0 lt ∙ ap (λ b. cond b [] (byte ∷ []) ++ plain b (drop (n + 1) word)) h)

  pub plain_goes : (so_far : List ℕ) → n < length word → skips ≡ false → so_far ++ plain e (drop n word) ≡ (so_far ++ byte ∷ []) ++ plain false (drop (n + 1) word)
  unfolding plain
  plain_goes so_far lt h =
      ap (λ t. so_far ++ t) (at_drop_more (plain e) word n 0 lt ∙ ap (λ b. cond b [] (byte ∷ []) ++ plain b (drop (n + 1) word)) h)
      ∙ sym (append_assoc so_far (byte ∷ []) (plain false (drop (n + 1) word)))

  pub plain_over : (so_far : List ℕ) → length word ≤ n → so_far ++ plain e (drop n word) ≡ so_far
  unfolding plain
  plain_over so_far le = ap (λ t. so_far ++ t) (at_drop_all (plain e) word n le) ∙ append-nil so_far

  pub pieces_skips : (so_far : List Piece) → n < length word → skips ≡ true → so_far ++ pieces e (drop n word) ≡ so_far ++ pieces true (drop (n + 1) word)
  unfolding pieces
  pieces_skips so_far lt h =
      ap (λ t. so_far ++ t) (at_drop_more (pieces e) word n 0 lt ∙ ap (λ b. cond b [] (piece_of e byte ∷ []) ++ pieces b (drop (n + 1) word)) h)

  pub pieces_goes : (so_far : List Piece) → n < length word → skips ≡ false → so_far ++ pieces e (drop n word) ≡ (so_far ++ piece_of e byte ∷ []) ++ pieces false (drop (n + 1) word)
  unfolding pieces
  pieces_goes so_far lt h =
      ap (λ t. so_far ++ t) (at_drop_more (pieces e) word n 0 lt ∙ ap (λ b. cond b [] (piece_of e byte ∷ []) ++ pieces b (drop (n + 1) word)) h)
      ∙ sym (append_assoc so_far (piece_of e byte ∷ []) (pieces false (drop (n + 1) word)))

  pub pieces_over : (so_far : List Piece) → length word ≤ n → so_far ++ pieces e (drop n word) ≡ so_far
  unfolding pieces
  pieces_over so_far le = ap (λ t. so_far ++ t) (at_drop_all (pieces e) word n le) ∙ append-nil so_far
