use Rattle.std.proofs.Common.{◌≡◌, append_assoc, rules}
use Rattle.std.specs.Prelude.{IfOk}
use Rattle.std.specs.String.{string_bytes}
use Rattle.std.proofs.lemmas.Result.{IfOk-weaker}
use Rattle.gl_cli.specs.Answers.{words_text}
use Rattle.gl_cli.proofs.Printing.{finished_words, by_finish}
use Rattle.gl_cli.proofs.print.finish_text.Goals as goal

pub returns-in-IndexFull : goal.returns-in-IndexFull
returns-in-IndexFull c =
    let h : IfOk c.format-in-IndexFull.result (λ text. string_bytes text ≡ words_text (finished_words c.args.finished.now))
    = rw c.in-IndexFull.is (search (rules, append_assoc)) in
    IfOk-weaker c.format-in-IndexFull.result (λ text. string_bytes text ≡ words_text (finished_words c.args.finished.now)) _
    (λ text e. by_finish c.args.finished.now (string_bytes text) e) h
