-- How many rows a search may look up (this project).
use Rattle.std.specs.Prelude.{ℕ, min, List, length, Option, Some, None}
use Rattle.gl_indexset.specs.declared.row.Row.{Row}
use Rattle.gl_query.specs.Tree.{Tree}
use Rattle.gl_words.specs.Candidates.{holders, rarest}
use Rattle.gl_moments.specs.Minutes.{near}
use Rattle.gl_pages.specs.declared.ask.Ask.{Ask}
use Rattle.gl_covers.specs.Covers.{Terms, cover, covered}

-- those that have a term of a cover, and all where there is none
abbrev pub steps_by_cover : List Row → Option Terms → ℕ
steps_by_cover rows (Some terms) = length (covered rows terms)
steps_by_cover rows None = length rows

-- those that have the required term, and where there is none as many as the query's cover says
abbrev pub steps_for : List Row → Tree → Option (List ℕ × List ℕ) → ℕ
steps_for rows query (Some term) = length (holders rows term)
steps_for rows query None = steps_by_cover rows (cover rows query)

-- of live rows as many as have the rarest term that the query requires; where it requires none, as many as have a term of its cover; all where it has none
unfoldable pub steps_by_words : Tree → List Row → ℕ
steps_by_words query rows = steps_for rows query (rarest rows query)

-- so many, and no more than there are rows in the minutes that are asked for
abbrev pub in_time : Ask → List Row → ℕ → ℕ
in_time ask rows steps = min steps (length (near ask.from ask.to rows))

abbrev pub most_steps : Ask → Tree → List Row → ℕ
most_steps ask query rows = in_time ask rows (steps_by_words query rows)
