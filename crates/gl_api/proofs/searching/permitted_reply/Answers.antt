-- What is found of the messages that are seen, or what was answered before one was looked at.
use Rattle.std.proofs.Common.{◌∙◌, sym}
use Rattle.std.proofs.lemmas.Result.{IfOk-weaker}
use Rattle.gl_sight.specs.Finding.{live_of}
use Rattle.gl_sight.specs.Sight.{visible}
use Rattle.gl_api.proofs.searching.permitted_reply.Goals as goal

pub returns-in-Asked : goal.returns-in-Asked
returns-in-Asked c =
    let asks = rw c.in-Asked.is at c.in_ok-searching.ensures in
    IfOk-weaker c.found_reply.result _ _ (λ r is. is ∙ sym (asks.finds (visible c.args.permitted.now (live_of c.args.live.now)))) (c.found_reply.ensures asks.query asks.query_is)

pub returns-in-Answered : goal.returns-in-Answered
returns-in-Answered c =
    let answers = rw c.in-Answered.is at c.in_ok-searching.ensures in
    sym (answers (visible c.args.permitted.now (live_of c.args.live.now)))

pub found_reply-requires : goal.found_reply-requires
found_reply-requires c =
    let asks = rw c.in-Asked.is at c.in_ok-searching.ensures in
    asks.within
