use Rattle.std.proofs.Common.{◌≡◌, false}
use Rattle.gl_outside.specs.Events.{told_by}
use Rattle.gl_gatelog.specs.Stand.{IsReady}
use Rattle.gl_store_tests.proofs.logs.five_batches.Given as goal

abbrev pub invariant-loop-i : goal.invariant-loop-i
invariant-loop-i l = record {
  running : l.log.stopped ≡ false;
  ready : IsReady l.log (told_by l.disk.events);
}
