use Rattle.std.proofs.Common.{◌≡◌, length}
use Rattle.gl_settings.specs.Names.{has_control}
use Rattle.gl_settings.proofs.names.has_control.Given as goal

abbrev pub invariant-loop-rest : goal.invariant-loop-rest
invariant-loop-rest l = has_control l.rest ≡ has_control l.name

abbrev pub decreases-loop-rest : goal.decreases-loop-rest
decreases-loop-rest l = length l.rest
