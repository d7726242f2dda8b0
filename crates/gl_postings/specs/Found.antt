-- Which rows a search finds, in which order, and its page (this project). No word of an index is here.
use Rattle.std.specs.Prelude.{List, length, map, filter}
use Rattle.gl_indexset.specs.declared.row.Row.{Row}
use Rattle.gl_query.specs.Tree.{Tree}
use Rattle.gl_pages.specs.declared.ask.Ask.{Ask}
use Rattle.gl_pages.specs.declared.hits.Hit.{Hit}
use Rattle.gl_pages.specs.declared.hits.Page.{Page}
use Rattle.gl_pages.specs.Pages.{finds, found_by, cut, time_of}

-- the rows that a search finds among rows in order of position: by time, and those of one time by position
abbrev pub found : Ask → Tree → List Row → List Row
found ask query rows = found_by (λ row. row.streams) (λ row. row.fields) ask query rows

-- how many a search finds, and the positions of its page
unfoldable pub page_of : Ask → Tree → List Row → Page
page_of ask query rows = record {
  total = length (found ask query rows);
  rows = map (λ row. row.position) (cut ask (found ask query rows));
}

abbrev pub hit_of : Row → Hit
hit_of row = record { time = time_of row.fields; position = row.position }

-- times and positions of the rows that a search finds, as the rows stand
unfoldable pub hits_of : Ask → Tree → List Row → List Hit
hits_of ask query rows = map hit_of (filter (λ row. finds ask query row.streams row.fields) rows)
