use Rattle.std.specs.Prelude.{ℕ, List, [], ◌∷◌, length, codes}
use Rattle.std.specs.Fmt.{decimal}
use Rattle.std.proofs.Common.{◌∙◌, ap, subst}
use Rattle.gl_cli.specs.Answers.{words_text}
use Rattle.gl_cli.specs.Writing.{AppendsSome}
use Rattle.gl_cli.proofs.Sinks.{OnErr-from}
use Rattle.gl_cli.proofs.answering.write_done.Goals as goal

pub returns-in_err-send-clause-err : goal.returns-in_err-send-clause-err
returns-in_err-send-clause-err g c = OnErr-from c.from_residual-in_err-send.result (λ s kept.
    subst (λ (t : List ℕ). AppendsSome (g.K.Sink.contents c.args.sink.now) (g.K.Sink.contents c.send.new.sink) t)
    (c.as_bytes.ensures.value ∙ c.in_ok-text.ensures
    ∙ ap (λ n. words_text (codes "done" ∷ decimal n ∷ decimal c.committed.result ∷ [])) (c.journalled.ensures s kept.node)
    ∙ ap (λ n. words_text (codes "done" ∷ decimal (length s.journal) ∷ decimal n ∷ [])) (c.committed.ensures s kept.node).0)
    c.in_err-send.ensures.err)
