use Rattle.std.proofs.Common.{◌∙◌}
use Rattle.gl_node.specs.Claims.{finish_answer, finish_events}
use Rattle.gl_node.specs.State.{state_after}
use Rattle.gl_cli.specs.Answers.{finish_words}
use Rattle.gl_cli.specs.Sessions.{finish_turn}
use Rattle.gl_cli.proofs.Moments.{one_answer, no_answer_yet, some_answer}
use Rattle.gl_cli.proofs.Sinks.{OnErr-from}
use Rattle.gl_cli.proofs.Turns.{cut_none, cut_text, one_line}
use Rattle.gl_cli.proofs.answering.answer_finish.Goals as goal

pub returns-in_err-text-clause-cut : goal.returns-in_err-text-clause-cut
returns-in_err-text-clause-cut g c = OnErr-from c.from_residual-in_err-text.result (λ s kept. cut_none (finish_turn c.args.worker s) (g.K.Sink.contents c.args.sink.now))

pub returns-in_err-finished-clause-any_moment : goal.returns-in_err-finished-clause-any_moment
returns-in_err-finished-clause-any_moment g c = λ tells on s kept.
    one_answer s (finish_words (finish_answer s c.args.worker)) (finish_events s c.args.worker) (g.D.Disk.state c.args.disk.now) (g.D.Disk.state c.finish.new.disk) (c.finish.ensures.any_moment tells on s kept)

pub returns-in_err-text-clause-any_moment : goal.returns-in_err-text-clause-any_moment
returns-in_err-text-clause-any_moment g c = λ tells on s kept.
    one_answer s (finish_words (finish_answer s c.args.worker)) (finish_events s c.args.worker) (g.D.Disk.state c.args.disk.now) (g.D.Disk.state c.finish.new.disk) (c.finish.ensures.any_moment tells on s kept)

pub returns-in_err-send-clause-any_moment : goal.returns-in_err-send-clause-any_moment
returns-in_err-send-clause-any_moment g c = λ tells on s kept.
    one_answer s (finish_words (finish_answer s c.args.worker)) (finish_events s c.args.worker) (g.D.Disk.state c.args.disk.now) (g.D.Disk.state c.finish.new.disk) (c.finish.ensures.any_moment tells on s kept)

pub returns-clause-any_moment : goal.returns-clause-any_moment
returns-clause-any_moment g c = λ tells on s kept.
    one_answer s (finish_words (finish_answer s c.args.worker)) (finish_events s c.args.worker) (g.D.Disk.state c.args.disk.now) (g.D.Disk.state c.finish.new.disk) (c.finish.ensures.any_moment tells on s kept)

pub returns-in_err-finished-clause-cut_leaves : goal.returns-in_err-finished-clause-cut_leaves
returns-in_err-finished-clause-cut_leaves g c = OnErr-from c.from_residual.result (λ tells on s kept.
    no_answer_yet s (finish_words (finish_answer s c.args.worker)) (finish_events s c.args.worker) (g.K.Sink.contents c.args.sink.now) (g.D.Disk.state c.args.disk.now) (g.D.Disk.state c.finish.new.disk) (c.finish.ensures.any_moment tells on s kept))

pub returns-in_err-text-clause-cut_leaves : goal.returns-in_err-text-clause-cut_leaves
returns-in_err-text-clause-cut_leaves g c = OnErr-from c.from_residual-in_err-text.result (λ tells on s kept.
    no_answer_yet s (finish_words (finish_answer s c.args.worker)) (finish_events s c.args.worker) (g.K.Sink.contents c.args.sink.now) (g.D.Disk.state c.args.disk.now) (g.D.Disk.state c.finish.new.disk) (c.finish.ensures.any_moment tells on s kept))

pub returns-in_err-send-clause-cut_leaves : goal.returns-in_err-send-clause-cut_leaves
returns-in_err-send-clause-cut_leaves g c = OnErr-from c.from_residual-in_err-send.result (λ tells on s kept image left.
    let answer = c.in_ok-finished.ensures.answer s kept in
    some_answer s (finish_words (finish_answer s c.args.worker)) (finish_events s c.args.worker) (g.K.Sink.contents c.args.sink.now) (g.K.Sink.contents c.send.new.sink) image
    (cut_text (finish_turn c.args.worker s) (g.K.Sink.contents c.args.sink.now) (g.K.Sink.contents c.send.new.sink) c.as_bytes.result.now
    (one_line (finish_words (finish_answer s c.args.worker)) (finish_events s c.args.worker) c.as_bytes.result.now
    (c.as_bytes.ensures.value ∙ c.in_ok-text.ensures (finish_answer s c.args.worker) answer.0))
    c.in_err-send.ensures.err)
    (c.law_images_show_the_state.ensures (state_after s (finish_events s c.args.worker)) answer.1.node (c.in_ok-finished.ensures.stands tells on) image left))
