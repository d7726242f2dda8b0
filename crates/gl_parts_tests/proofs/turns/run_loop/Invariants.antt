use Rattle.gl_turn.specs.Seats.{IsSeatOf, IsOutside}
use Rattle.gl_parts_tests.proofs.turns.run_loop.Given as goal

abbrev pub invariant-loop : goal.invariant-loop
invariant-loop g l = IsSeatOf l.lock l.work.seat × IsOutside l.work.seat
