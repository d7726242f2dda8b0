-- The map of the sets as the logic holds it, for the code of its values.
use Rattle.std.specs.Prelude.{nat_eq, Some}
use Rattle.std.specs.Ordering.{nat_cmp}
use Rattle.std.specs.Borrow.{u64}
use Rattle.std.specs.BTreeMap.Lent.{map_row}
use Rattle.std.specs.contracts.alloc.Global as global
use Rattle.std.specs.contracts.impls.GlobalAllocator.TheImpl.{ghosts}
use denote.RattleType.{RattleType}
use Rattle.gl_chunks.specs.contracts.chunk_set.ChunkSet as set

abbrev pub sets_row : RattleType
sets_row = map_row u64 set.the_row global.the_row (record { partial_cmp = λ a b. Some (nat_cmp a b); eq = nat_eq; cmp = nat_cmp }) ghosts
