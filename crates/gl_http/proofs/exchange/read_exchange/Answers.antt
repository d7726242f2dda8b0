use Rattle.std.proofs.Common.{◌≤◌, length, sym, ap, subst, ◌∙◌}
use Rattle.gl_http.specs.Answers.{IfHead}
use Rattle.gl_http.specs.Exchanges.{behind}
use Rattle.gl_http.proofs.Exchanging.{behind_answer, cut_short, is_whole}
use Rattle.gl_http.proofs.exchange.read_exchange.Goals as goal

pub returns-in-More-clause-asks : goal.returns-in-More-clause-asks
returns-in-More-clause-asks c =
    let e = c.in_ok-read_head.ensures in
    let all = behind_answer c.args.bytes.now c.in_ok-read_head.field-0 e.whole e.shown e.too_long e.bad in
    ap (behind c.args.bytes.now) (sym c.in-More.is) ∙ all

pub returns-in-Refused-clause-asks : goal.returns-in-Refused-clause-asks
returns-in-Refused-clause-asks c =
    let e = c.in_ok-read_head.ensures in
    let all = behind_answer c.args.bytes.now c.in_ok-read_head.field-0 e.whole e.shown e.too_long e.bad in
    ap (behind c.args.bytes.now) (sym c.in-Refused.is) ∙ all

pub returns-then-bytes-head-clause-asks : goal.returns-then-bytes-head-clause-asks
returns-then-bytes-head-clause-asks c =
    let e = c.in_ok-read_head.ensures in
    let all = behind_answer c.args.bytes.now c.in_ok-read_head.field-0 e.whole e.shown e.too_long e.bad in
    cut_short c.args.bytes.now c.in-Head.head (subst (λ a. IfHead a (λ h. (h.bytes ≤ length c.args.bytes.now) × (h.length ≤ 1048576))) c.in-Head.is e.within).0 c.if-bytes-head.true ∙ ap (behind c.args.bytes.now) (sym c.in-Head.is) ∙ all

pub returns-else-bytes-head-clause-asks : goal.returns-else-bytes-head-clause-asks
returns-else-bytes-head-clause-asks c =
    let e = c.in_ok-read_head.ensures in
    let all = behind_answer c.args.bytes.now c.in_ok-read_head.field-0 e.whole e.shown e.too_long e.bad in
    is_whole c.args.bytes.now c.in-Head.head (subst (λ a. IfHead a (λ h. (h.bytes ≤ length c.args.bytes.now) × (h.length ≤ 1048576))) c.in-Head.is e.within).0 c.if-bytes-head.false ∙ ap (behind c.args.bytes.now) (sym c.in-Head.is) ∙ all
