use Rattle.std.proofs.Common.{◌≡◌, ◌==◌, length}
use Rattle.std.specs.Prelude.{find}
use Rattle.gl_stage.proofs.stage.stage_at.Given as goal

abbrev pub invariant-loop-rest : goal.invariant-loop-rest
invariant-loop-rest l = find (λ stage. stage.number == l.n) l.rest ≡ find (λ stage. stage.number == l.n) l.stages

abbrev pub decreases-loop-rest : goal.decreases-loop-rest
decreases-loop-rest l = length l.rest
