-- The grammar of queries (this project), by cases of their tokens, each with its tree:
--
--   query = [ or ]                  or = and { [ OR ] and }
--   and   = un { AND un }           un = NOT un | "(" or ")" | term
--
-- where NOT and parentheses nest at most so deep. Parentheses leave no node.
use Rattle.std.specs.Prelude.{◌≡◌, ℕ, suc, ℤ, List, [], ◌∷◌, ◌++◌, Option, Some, None, false}
use Rattle.gl_query.specs.declared.token.Comparison.{Comparison}
use Rattle.gl_query.specs.declared.token.Edge.{Edge}
use Rattle.gl_query.specs.declared.token.Token.{Token}
use Rattle.gl_query.specs.declared.token.Token.TheVariants as token
use Rattle.gl_query.specs.declared.term.Term.{Term}
use Rattle.gl_query.specs.declared.term.Term.TheVariants as term
use Rattle.gl_query.specs.Words.{plain, word_term, number_of, bound_of, limit_of, comparison_term}
use Rattle.gl_query.specs.Tree.{Tree, leaf, negation, both, either, Trees, none, also, one_of}

-- a term: a word (`*` is one), a phrase, `_exists_:` and a word, or a field's name and what is asked of it
pub data IsTerm : List Token → Term → Type 0 where
  word : (w : List ℕ) → IsTerm (token.Word w ∷ []) (word_term None w)
  phrase : (p : List ℕ) → IsTerm (token.Phrase p ∷ []) (term.Text None (plain false p))
  exists : (w : List ℕ) → IsTerm (token.Exists ∷ token.Word w ∷ []) (term.Exists (plain false w))
  field_word : (f w : List ℕ) → IsTerm (token.Field f ∷ token.Word w ∷ []) (word_term (Some (plain false f)) w)
  field_phrase : (f p : List ℕ) → IsTerm (token.Field f ∷ token.Phrase p ∷ []) (term.Text (Some (plain false f)) (plain false p))
  comparison : (f w : List ℕ) (c : Comparison) (n : ℤ) → number_of w ≡ Some n
      → IsTerm (token.Field f ∷ token.Compare c ∷ token.Word w ∷ []) (comparison_term (plain false f) c n)
  range : (f v w : List ℕ) (e d : Edge) (low high : Option ℤ) → bound_of v ≡ Some low → bound_of w ≡ Some high
      → IsTerm (token.Field f ∷ token.Begin e ∷ token.Word v ∷ token.To ∷ token.Word w ∷ token.End d ∷ []) (term.Within (plain false f) (limit_of e low) (limit_of d high))

mutual
  -- NOT, parentheses, or a term
  pub data IsOperand : ℕ → List Token → Tree → Type 0 where
    a_term : (n : ℕ) (ts : List Token) (x : Term) → IsTerm ts x → IsOperand n ts (leaf x)
    a_negation : (n : ℕ) (ts : List Token) (t : Tree) → IsOperand n ts t → IsOperand (suc n) (token.Not ∷ ts) (negation t)
    in_parentheses : (n : ℕ) (ts : List Token) (alts : Trees) → AreAlternatives n ts alts → IsOperand (suc n) (token.Open ∷ (ts ++ token.Close ∷ [])) (one_of either alts)

  -- operands joined by AND, one or more
  pub data AreFactors : ℕ → List Token → Trees → Type 0 where
    last_factor : (n : ℕ) (ts : List Token) (t : Tree) → IsOperand n ts t → AreFactors n ts (also t none)
    joined : (n : ℕ) (ts us : List Token) (t : Tree) (fs : Trees) → IsOperand n ts t → AreFactors n us fs → AreFactors n (ts ++ token.And ∷ us) (also t fs)

  -- alternatives parted by OR or by nothing, one or more
  pub data AreAlternatives : ℕ → List Token → Trees → Type 0 where
    last_alternative : (n : ℕ) (ts : List Token) (fs : Trees) → AreFactors n ts fs → AreAlternatives n ts (also (one_of both fs) none)
    parted_by_or : (n : ℕ) (ts us : List Token) (fs alts : Trees) → AreFactors n ts fs → AreAlternatives n us alts → AreAlternatives n (ts ++ token.Or ∷ us) (also (one_of both fs) alts)
    side_by_side : (n : ℕ) (ts us : List Token) (fs alts : Trees) → AreFactors n ts fs → AreAlternatives n us alts → AreAlternatives n (ts ++ us) (also (one_of both fs) alts)

-- a query: nothing asks for all
pub data IsQuery : List Token → Tree → Type 0 where
  nothing : IsQuery [] (leaf term.All)
  something : (ts : List Token) (alts : Trees) → AreAlternatives 64 ts alts → IsQuery ts (one_of either alts)
