use Rattle.std.proofs.Common.{◌≡◌, ◌++◌, map, length}
use Rattle.gl_gelf.specs.Members.{are_last}
use Rattle.gl_gelf.specs.Parts.{named_view}
use Rattle.gl_gelf.proofs.members.few_are_last.Given as goal

abbrev pub invariant-loop-rest : goal.invariant-loop-rest
invariant-loop-rest l = l.last.items ++ are_last (map named_view l.rest) ≡ are_last (map named_view l.members)

abbrev pub decreases-loop-rest : goal.decreases-loop-rest
decreases-loop-rest l = length l.rest
