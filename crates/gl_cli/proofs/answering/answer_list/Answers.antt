use Rattle.std.specs.Prelude.{List, [], ◌∷◌, length, codes}
use Rattle.std.specs.List.{enumerate_from}
use Rattle.std.specs.Fmt.{decimal}
use Rattle.std.proofs.Common.{◌∙◌, ap, subst, sym}
use Rattle.gl_node.specs.State.{Event, outcomes, state_after}
use Rattle.gl_cli.specs.Answers.{words_text}
use Rattle.gl_cli.specs.Desk.{DeskKeeps}
use Rattle.gl_cli.specs.Runs.{listed}
use Rattle.gl_cli.proofs.Sinks.{OnErr-from}
use Rattle.gl_cli.proofs.Turns.{cut_none, head_cut, list_cut, list_done, list_events}
use Rattle.gl_cli.proofs.answering.answer_list.Goals as goal

pub returns-in_err-text-clause-cut : goal.returns-in_err-text-clause-cut
returns-in_err-text-clause-cut g c = OnErr-from c.from_residual.result (λ s kept. cut_none (listed s) (g.K.Sink.contents c.args.sink.now))

pub returns-in_err-send-clause-cut : goal.returns-in_err-send-clause-cut
returns-in_err-send-clause-cut g c = OnErr-from c.from_residual-in_err-send.result (λ s kept.
    head_cut s (g.K.Sink.contents c.args.sink.now) (g.K.Sink.contents c.send.new.sink) c.as_bytes.result.now
    (c.as_bytes.ensures.value ∙ c.in_ok-text.ensures
    ∙ ap (λ n. words_text (codes "journal" ∷ decimal n ∷ codes "committed" ∷ decimal c.committed.result ∷ [])) (c.journalled.ensures s kept.node)
    ∙ ap (λ n. words_text (codes "journal" ∷ decimal (length s.journal) ∷ codes "committed" ∷ decimal n ∷ [])) (c.committed.ensures s kept.node).0)
    c.in_err-send.ensures.err)

pub returns-in_err-write_outcomes-clause-cut : goal.returns-in_err-write_outcomes-clause-cut
returns-in_err-write_outcomes-clause-cut g c = OnErr-from c.from_residual-in_err-write_outcomes.result (λ s kept.
    list_cut s (g.K.Sink.contents c.args.sink.now) (g.K.Sink.contents c.send.new.sink) (g.K.Sink.contents c.write_outcomes.new.sink) c.as_bytes.result.now
    (c.as_bytes.ensures.value ∙ c.in_ok-text.ensures
    ∙ ap (λ n. words_text (codes "journal" ∷ decimal n ∷ codes "committed" ∷ decimal c.committed.result ∷ [])) (c.journalled.ensures s kept.node)
    ∙ ap (λ n. words_text (codes "journal" ∷ decimal (length s.journal) ∷ codes "committed" ∷ decimal n ∷ [])) (c.committed.ensures s kept.node).0)
    c.in_ok-send.ensures.ok (c.in_err-write_outcomes.ensures.err s kept.node))

pub returns-clause-answered : goal.returns-clause-answered
returns-clause-answered g c s kept = (
  subst (λ (es : List Event). DeskKeeps c.args.desk.now (state_after s es)) (sym (list_events (enumerate_from 0 (outcomes s)))) kept,
  list_done s (g.K.Sink.contents c.args.sink.now) (g.K.Sink.contents c.send.new.sink) (g.K.Sink.contents c.write_outcomes.new.sink) c.as_bytes.result.now
      (c.as_bytes.ensures.value ∙ c.in_ok-text.ensures
      ∙ ap (λ n. words_text (codes "journal" ∷ decimal n ∷ codes "committed" ∷ decimal c.committed.result ∷ [])) (c.journalled.ensures s kept.node)
      ∙ ap (λ n. words_text (codes "journal" ∷ decimal (length s.journal) ∷ codes "committed" ∷ decimal n ∷ [])) (c.committed.ensures s kept.node).0)
      c.in_ok-send.ensures.ok (c.in_ok-write_outcomes.ensures.ok s kept.node),
)
