-- Which rows a search has to look at: those that have its rarest required term (this project).
use Rattle.std.specs.Prelude.{ℕ, nat_lt, List, length, map, filter, if◌then◌else◌, Option, option_map}
use Rattle.std.specs.List.{reduce}
use Rattle.gl_indexset.specs.declared.row.Row.{Row}
use Rattle.gl_query.specs.Required.{has_required, required}
use Rattle.gl_query.specs.Tree.{Tree}

-- the rows that have a term: a token in a field
abbrev pub holders : List Row → List ℕ × List ℕ → List Row
holders rows term = filter (λ row. has_required term row.fields) rows

-- of two terms the one that fewer rows have, and the first where as many have either
abbrev pub rarer : List Row → List ℕ × List ℕ → List ℕ × List ℕ → List ℕ × List ℕ
rarer rows term other = if nat_lt (length (holders rows other)) (length (holders rows term)) then other else term

-- of the terms that a query requires the one that the fewest rows have, the first of those
abbrev pub rarest : List Row → Tree → Option (List ℕ × List ℕ)
rarest rows query = reduce (rarer rows) (required query)

abbrev pub positions : List Row → List ℕ
positions rows = map (λ row. row.position) rows

-- the positions of the rows that have the rarest required term; `None` where none is required
unfoldable pub candidates_of : Tree → List Row → Option (List ℕ)
candidates_of query rows = option_map (λ term. positions (holders rows term)) (rarest rows query)
