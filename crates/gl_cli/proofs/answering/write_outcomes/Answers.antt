use Rattle.std.proofs.Common.{◌∙◌, sym, refl, arith}
use Rattle.gl_node.specs.State.{outcomes}
use Rattle.gl_cli.specs.declared.status.Status.TheVariants.{SinkFault}
use Rattle.gl_cli.proofs.Desks.{ok_is_no_error}
use Rattle.gl_cli.proofs.Sinks.{OnErr-from}
use Rattle.gl_cli.proofs.Turns.{some_lines, some_more, next_line, lines_all}
use Rattle.gl_cli.proofs.answering.write_outcomes.Goals as goal
use Rattle.std.proofs.Common.{subst, List, ℕ}
use Rattle.std.specs.Io.KnownBytes.{Appends}

pub returns-in_err-text-in-Some-clause-err : goal.returns-in_err-text-in-Some-clause-err
returns-in_err-text-in-Some-clause-err g c = OnErr-from c.from_residual.result (λ s keeps.
    some_lines (g.K.Sink.contents c.args.sink.now) (g.K.Sink.contents c.loop-position.sink) (outcomes s) c.loop-position.position (c.loop-position.invariant.written s keeps))

pub returns-in_err-send-in-Some-clause-err : goal.returns-in_err-send-in-Some-clause-err
returns-in_err-send-in-Some-clause-err g c = OnErr-from c.from_residual-in_err-send-in-Some.result (λ s keeps.
    some_more (g.K.Sink.contents c.args.sink.now) (g.K.Sink.contents c.loop-position.sink) (g.K.Sink.contents c.send.new.sink) (outcomes s) c.loop-position.position c.in-Some.outcome.now c.deref.result.now
    (sym (c.in-Some.ensures s keeps)) (c.deref.ensures.value ∙ c.in_ok-text-in-Some.ensures) (c.loop-position.invariant.written s keeps) c.in_err-send-in-Some.ensures.err)

pub loop-position-preserved : goal.loop-position-preserved
loop-position-preserved g c = record {
  written = λ s keeps.
      next_line (g.K.Sink.contents c.args.sink.now) (g.K.Sink.contents c.loop-position.sink) (g.K.Sink.contents c.send.new.sink) (outcomes s) c.loop-position.position _ c.in-Some.outcome.now c.deref.result.now refl
      (sym (c.in-Some.ensures s keeps)) (c.deref.ensures.value ∙ c.in_ok-text-in-Some.ensures) (c.loop-position.invariant.written s keeps) c.in_ok-send-in-Some.ensures.ok;
  steady = c.in_ok-send-in-Some.ensures.cause.steady (ok_is_no_error c.in_ok-send-in-Some.field-0 SinkFault) ∙ c.loop-position.invariant.steady;
}

pub returns-clause-ok : goal.returns-clause-ok
returns-clause-ok g c s keeps =
    subst (λ (t : List ℕ). Appends (g.K.Sink.contents c.args.sink.now) (g.K.Sink.contents c.loop-position.sink) t)
    (lines_all (outcomes s) c.loop-position.position (omega (arith, c.loop-position-test.false, c.loop-position.auto.position-end, (c.committed-position-end.ensures s keeps).1)))
    (c.loop-position.invariant.written s keeps)
