use Rattle.gl_http.specs.Front.{front}
use Rattle.std.proofs.lemmas.Result.{IfOk-weaker}
use Rattle.gl_http.proofs.LineFeeds.{ends_line}
use Rattle.gl_http.proofs.Whole.{none_contradicts}
use Rattle.gl_http.proofs.head.read_head.Goals as goal

pub returns-in-Ok-Complete-clause-too_long : goal.returns-in-Ok-Complete-clause-too_long
returns-in-Ok-Complete-clause-too_long c long none =
    none_contradicts c.front-front.result.now (front c.args.bytes.now) c.front-front.ensures.value (c.answer_at.ensures.begins.0, c.answer_at.ensures.begins.1) none

pub returns-in-Ok-Complete-clause-bad : goal.returns-in-Ok-Complete-clause-bad
returns-in-Ok-Complete-clause-bad c short none =
    none_contradicts c.front-front.result.now (front c.args.bytes.now) c.front-front.ensures.value (c.answer_at.ensures.begins.0, c.answer_at.ensures.begins.1) none

pub returns-in-Ok-Complete-clause-ends : goal.returns-in-Ok-Complete-clause-ends
returns-in-Ok-Complete-clause-ends c =
    let head = c.answer_at.ensures.begins in
    IfOk-weaker c.answer_at.result _ _ (λ a is. ends_line c.args.bytes.now c.front-front.result.now c.front-front.ensures.value a head.0 head.1.0 head.1.1 is) head.2
