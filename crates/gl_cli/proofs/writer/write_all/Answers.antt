use Rattle.std.proofs.Common.{arith, rules, sym, take, drop, take-append-drop}
use Rattle.std.proofs.lemmas.Grind.{common_steps}
use Rattle.gl_cli.proofs.Sinks.{Appends-more, Appends-kept, OnErr-from, slice_more}
use Rattle.gl_cli.proofs.writer.write_all.Goals as goal

pub returns-in_err-at-clause-err : goal.returns-in_err-at-clause-err
returns-in_err-at-clause-err g c =
    OnErr-from c.from_residual.result (
      take c.loop-at.at c.args.bytes.now,
      (drop c.loop-at.at c.args.bytes.now, sym (take-append-drop c.loop-at.at c.args.bytes.now)),
      Appends-kept (g.K.Sink.contents c.args.sink.now) (g.K.Sink.contents c.loop-at.sink) (g.K.Sink.contents c.write.new.self) (take c.loop-at.at c.args.bytes.now)
          c.loop-at.invariant.gained c.in_err-at.ensures.bytes,
    )

pub loop-at-preserved : goal.loop-at-preserved
loop-at-preserved g c = record {
  within = grind (arith, common_steps, c.in_ok-at.ensures.bound);
  gained = rw (slice_more c.loop-at.at c.in_ok-at.field-0 c.args.bytes.now)
      (Appends-more (g.K.Sink.contents c.args.sink.now) (g.K.Sink.contents c.loop-at.sink) (g.K.Sink.contents c.write.new.self) _ _
      c.loop-at.invariant.gained c.in_ok-at.ensures.bytes);
  steady = search rules;
}
