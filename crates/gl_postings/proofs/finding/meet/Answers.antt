-- A row's streams and fields are what its shares lend.
use Rattle.std.proofs.Common.{◌≡◌, ◌++◌, List, ◌∙◌, subst}
use Rattle.std.specs.Result.{OnOk}
use Rattle.gl_pages.specs.declared.hits.Hit.{Hit}
use Rattle.gl_postings.proofs.Paging.{hits_met}
use Rattle.gl_postings.proofs.finding.meet.Goals as goal

pub returns : goal.returns
returns c = λ t q.
    subst (λ (hits : List Hit). OnOk c.meet.result (c.meet.new.self ≡ c.args.hits.now ++ hits))
    (hits_met c.args.ask.now t c.args.row.now c.as_slice.result.now c.get-2.result.now (c.as_slice.ensures ∙ c.get.ensures) c.get-2.ensures)
    (c.meet.ensures.ok t q)
