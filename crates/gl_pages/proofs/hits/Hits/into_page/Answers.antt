-- In order, and cut.
use Rattle.std.proofs.Common.{◌≡◌, length, ap, ◌∙◌, rules}
use Rattle.gl_pages.specs.Pages.{in_order}
use Rattle.gl_pages.proofs.Ordering.{page_is}
use Rattle.gl_pages.proofs.hits.Hits.into_page.Goals as goal

pub returns : goal.returns
returns c =
    let sorted = c.sort_by_time.new.hits.items in
    let count : c.len-total.result ≡ length sorted = search rules in
    page_is c.args.ask.now c.args.self sorted c.behind-rest.result.now c.front.result.now c.len-total.result c.in_ok-rows.rows
    (c.in_ok-sort_by_time.ensures ∙ ap (in_order (λ hit. hit.time)) c.self.view_is) count
    (search rules) c.front.ensures c.in_ok-rows.ensures
