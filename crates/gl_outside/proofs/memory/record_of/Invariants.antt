use Rattle.gl_outside.proofs.FoundAreas.{Found}
use Rattle.gl_outside.proofs.memory.record_of.Given as goal

abbrev pub invariant-loop-a : goal.invariant-loop-a
invariant-loop-a l = Found l.areas l.a-index l.calls.events
