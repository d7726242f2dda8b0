use Rattle.std.proofs.Common.{◌≡◌, ◌++◌, length}
use Rattle.std.specs.List.{flat_map}
use Rattle.gl_chunks.specs.Chunks.{data_of}
use Rattle.gl_chunks.proofs.chunk_set.push_data.Given as goal

abbrev pub invariant-loop-rest : goal.invariant-loop-rest
invariant-loop-rest l = l.out.items ++ flat_map data_of l.rest ≡ l.fn.out.items ++ flat_map data_of l.parts

abbrev pub decreases-loop-rest : goal.decreases-loop-rest
decreases-loop-rest l = length l.rest
