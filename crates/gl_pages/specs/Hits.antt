-- The page of messages that were found.
use Rattle.std.specs.Prelude.{List, length, map}
use Rattle.gl_pages.specs.declared.ask.Ask.{Ask}
use Rattle.gl_pages.specs.declared.hits.Hit.{Hit}
use Rattle.gl_pages.specs.declared.hits.Page.{Page}
use Rattle.gl_pages.specs.Pages.{in_order, cut}

-- how many there are, and the positions of the page's
unfoldable pub page_from : Ask → List Hit → Page
page_from ask hits = record {
  total = length hits;
  rows = map (λ hit. hit.position) (cut ask (in_order (λ hit. hit.time) hits));
}
