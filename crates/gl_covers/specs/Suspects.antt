-- Which rows a search has to look at where it requires no term.
use Rattle.std.specs.Prelude.{◌≡◌, ℕ, ◌==◌, Bool, true, nat_lt, List, [], ◌∷◌, ◌++◌, if◌then◌else◌, Option, Some, None, option_map}
use Rattle.gl_indexset.specs.declared.row.Row.{Row}
use Rattle.gl_query.specs.declared.term.Node.{Node}
use Rattle.gl_query.specs.Tree.{Tree, Trees, count, polish, polish_all}
use Rattle.gl_words.specs.declared.postings.Postings.{Postings}
use Rattle.gl_words.specs.Candidates.{positions}
use Rattle.gl_words.specs.Words.{StandsFor}
use Rattle.gl_covers.specs.Covers.{Terms, covered, cover, covers, is_word, narrower_known, token_in}

-- the positions of the rows that have a term of a cover
abbrev pub found_by : List Row → Option Terms → Option (List ℕ)
found_by rows terms = option_map (λ cover. positions (covered rows cover)) terms

-- the positions of the rows that have a term of the query's cover; `None` where it has none
abbrev pub suspects_of : Tree → List Row → Option (List ℕ)
suspects_of query rows = found_by rows (cover rows query)

-- the least number at the front of two lists that rise
abbrev pub least_of : List ℕ → List ℕ → Option ℕ
least_of [] [] = None
least_of [] (q ∷ qs) = Some q
least_of (p ∷ ps) [] = Some p
least_of (p ∷ ps) (q ∷ qs) = Some (if nat_lt q p then q else p)

-- the list without a number at its front
abbrev pub behind : ℕ → List ℕ → List ℕ
behind number [] = []
behind number (p ∷ ps) = if p == number then ps else p ∷ ps

-- a cover with a token more to choose from, which counts for nothing if it is digits alone
abbrev pub with_token : List Row → Option Terms → List (List ℕ) → List ℕ → Option Terms
with_token rows so_far names token = if is_word token then narrower_known rows so_far (Some (token_in names token)) else so_far

-- what was found for the tree at the front of these nodes, if it was wanted, and what stands behind it
abbrev pub Suspects : Bool → Postings → Option (List ℕ) → (left nodes : List Node) → Type 0
Suspects wanted words found left nodes = (rows : List Row) → StandsFor words rows → (t : Tree) (rest : List Node) → nodes ≡ polish t ++ rest
    → (wanted ≡ true → found ≡ suspects_of t rows) × (left ≡ rest)

-- what was found for so many trees at the front of these nodes, of whose covers one is made
abbrev pub SuspectsOfAll : (List Row → List (Option Terms) → Option Terms) → Bool → Postings → Option (List ℕ) → ℕ → (left nodes : List Node) → Type 0
SuspectsOfAll make wanted words found n left nodes = (rows : List Row) → StandsFor words rows → (ts : Trees) (rest : List Node) → n ≡ count ts → nodes ≡ polish_all ts ++ rest
    → (wanted ≡ true → found ≡ found_by rows (make rows (covers rows ts))) × (left ≡ rest)
