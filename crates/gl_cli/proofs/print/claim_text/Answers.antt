use Rattle.std.proofs.Common.{◌≡◌, ◌+◌, ◌∷◌, [], ◌∙◌, sym, ap, length}
use Rattle.std.specs.Prelude.{codes}
use Rattle.std.specs.Fmt.{decimal}
use Rattle.std.specs.String.{string_bytes}
use Rattle.std.proofs.lemmas.Result.{IfOk-weaker}
use Rattle.gl_cli.specs.Answers.{words_text}
use Rattle.gl_cli.proofs.Printing.{claimed_words, by_claim}
use Rattle.gl_cli.proofs.print.claim_text.Goals as goal

pub returns-in-Range : goal.returns-in-Range
returns-in-Range c =
    let end : c.from.result + c.len.result ≡ c.in-Range.range.first + length c.in-Range.range.entries = cc in
    IfOk-weaker c.range_text.result _ _
    (λ text e. by_claim c.args.worker c.args.claimed.now (string_bytes text)
    (e ∙ ap (λ n. words_text (codes "claimed" ∷ decimal c.args.worker ∷ decimal c.in-Range.range.first ∷ decimal n ∷ [])) end
    ∙ ap (λ k. words_text (claimed_words c.args.worker k)) (sym c.in-Range.is)))
    c.range_text.ensures

pub returns-in-Busy : goal.returns-in-Busy
returns-in-Busy c =
    let end : c.from-in-Busy.result + c.from-in-Busy-2.result ≡ c.in-Busy.mark.first + c.in-Busy.mark.count = cc in
    IfOk-weaker c.busy_text.result _ _
    (λ text e. by_claim c.args.worker c.args.claimed.now (string_bytes text)
    (e ∙ ap (λ n. words_text (codes "busy" ∷ decimal c.in-Busy.mark.first ∷ decimal n ∷ [])) end
    ∙ ap (λ k. words_text (claimed_words c.args.worker k)) (sym c.in-Busy.is)))
    c.busy_text.ensures
