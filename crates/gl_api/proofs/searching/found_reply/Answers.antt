-- The page of what is seen.
use Rattle.std.proofs.Common.{◌∙◌, ap}
use Rattle.std.proofs.lemmas.Result.{IfOk-weaker}
use Rattle.gl_pages.specs.Pages.{cut}
use Rattle.gl_sight.specs.Finding.{found, live_of}
use Rattle.gl_api.proofs.Asking.{messages_are, page_is}
use Rattle.gl_api.proofs.searching.found_reply.Goals as goal

pub returns : goal.returns
returns c = λ t q.
    let live = live_of c.args.live.now in
    let p = c.args.permitted.now in
    let ask = c.args.ask.now in
    let page = ap live_of c.as_slice-2.ensures.value ∙ messages_are live c.as_slice.result.now c.in_ok-page.page.rows (live_of c.in_ok-messages.messages.items) (cut ask (found ask t live)) c.in_ok-messages.ensures c.as_slice.ensures (c.in_ok-page.ensures.places t q) in
    IfOk-weaker c.page_reply.result _ _
    (λ r is. is ∙ page_is p ask t live (live_of c.as_slice-2.result.now) c.in_ok-page.page.total page (c.in_ok-page.ensures.total t q)
    (c.law_only_what_is_seen.ensures.total p ask t live c.requires) (c.law_only_what_is_seen.ensures.page p ask t live c.requires)) c.page_reply.ensures
