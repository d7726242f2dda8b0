-- Spaces passed one by one.
use Rattle.std.proofs.Common.{◌≡◌, ◌≢◌, ℕ, Bool, true, false, cond, List, [], ◌∷◌, ◌++◌, reverse, refl, sym, ap, ◌∙◌, ◌==◌, eqb-true}
use Rattle.std.proofs.lemmas.List.{reverse-append, reverse-reverse}
use Rattle.gl_text.specs.Changing.{past_spaces}

pub passed : (text rest : List ℕ) → text ≡ 32 ∷ rest → past_spaces rest ≡ past_spaces text
unfolding past_spaces
passed text rest e = sym (ap past_spaces e)

by_test : (b : ℕ) (text : List ℕ) (t : Bool) → (b == 32) ≡ t → past_spaces (b ∷ text) ≡ cond t (past_spaces text) (b ∷ text)
unfolding past_spaces
by_test b text t e = ap (λ v. cond v (past_spaces text) (b ∷ text)) e

pub none_left : (text : List ℕ) → ((rest : List ℕ) → text ≢ 32 ∷ rest) → text ≡ past_spaces text
unfolding past_spaces
none_left [] other = refl
none_left (b ∷ text) other = pick (b == 32) refl
  where
    pick : (t : Bool) → (b == 32) ≡ t → b ∷ text ≡ past_spaces (b ∷ text)
    pick true e = absurd (other text (ap (λ c. c ∷ text) (eqb-true b 32 e)))
    pick false e = sym (by_test b text false e)

pub passed_last : (text rest : List ℕ) → text ≡ rest ++ 32 ∷ [] → past_spaces (reverse rest) ≡ past_spaces (reverse text)
passed_last text rest e = passed (reverse text) (reverse rest) (ap reverse e ∙ reverse-append rest (32 ∷ []))

pub none_last : (text : List ℕ) → ((front : List ℕ) → text ≢ front ++ 32 ∷ []) → text ≡ reverse (past_spaces (reverse text))
none_last text other =
    sym (reverse-reverse text)
    ∙ ap reverse (none_left (reverse text) (λ rest e. other (reverse rest) (sym (reverse-reverse text) ∙ ap reverse e ∙ reverse-append (32 ∷ []) rest)))
