use Rattle.std.proofs.Common.{◌≡◌, ◌-◌, length}
use Rattle.gl_gatelog.specs.Batch.{Batch, body}
use Rattle.gl_gatelog.specs.View.{batch_of}
use Rattle.gl_gatelog.proofs.Peel.{Done, Tail, Short}
use Rattle.gl_gatelog.proofs.walk.records_in.Given as goal

abbrev pub invariant-loop-i : goal.invariant-loop-i
invariant-loop-i l = record {
  done : Done l.bytes l.rest (batch_of l.records.items) l.i;
  left : (rs : Batch) → body rs ≡ l.bytes → length rs ≡ l.count → Short rs → Tail l.rest (l.count - l.i);
}
