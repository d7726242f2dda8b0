-- The page of what was found of the live rows.
use Rattle.std.proofs.Common.{◌≡◌, ◌∙◌, ap, subst}
use Rattle.std.specs.Result.{IfOk}
use Rattle.gl_pages.specs.declared.hits.Page.{Page}
use Rattle.gl_pages.specs.Hits.{page_from}
use Rattle.gl_postings.specs.Found.{hits_of}
use Rattle.gl_postings.proofs.Paging.{page_is}
use Rattle.gl_postings.proofs.search.search_rows.Goals as goal

pub returns-clause-page : goal.returns-clause-page
returns-clause-page g c = λ t q.
    subst (λ (p : Page). IfOk c.into_page.result (λ page. page ≡ p))
    (ap (page_from c.args.ask.now) (c.in_ok-hits.ensures.hits t q ∙ ap (hits_of c.args.ask.now t) c.new-rows.ensures.rows) ∙ page_is c.args.ask.now t c.args.sets.now.rows)
    c.into_page.ensures
