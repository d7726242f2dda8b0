-- The openings of the sets that are kept, in their order: the oldest first.
use Rattle.std.specs.Prelude.{◌≡◌, ◌≤◌, ℕ, ◌+◌, Bool, false, length, Option, Some, None, nat_le, ◌==◌}
use Rattle.std.specs.declared.cmp.Ordering.{Ordering}
use Rattle.std.specs.Ordering.{ordering_then, nat_cmp}
use Rattle.std.specs.BTreeMap as tree
use Rattle.std.specs.BTreeSet as sorted
use Rattle.gl_chunks.specs.declared.chunk_set.ChunkSet.{ChunkSet}
use Rattle.gl_chunks.specs.declared.sets.Opening.{Opening}

-- by the moment, and then by the id
abbrev pub opening_cmp : Opening → Opening → Ordering
opening_cmp a b = ordering_then (nat_cmp a.opened b.opened) (nat_cmp a.id b.id)

-- whether what is kept at an id was opened at a moment
abbrev pub is_opened_at : ℕ → Option ChunkSet → Bool
is_opened_at moment None = false
is_opened_at moment (Some set) = set.opened == moment

-- the openings are exactly those of the sets
pub record IsIndexed (openings : sorted.BTreeSet Opening) (sets : tree.BTreeMap ℕ ChunkSet) : Type 0 where
  pub exact : (opening : Opening) → sorted.contains opening_cmp openings opening ≡ is_opened_at opening.opened (tree.get nat_cmp sets opening.id)

-- some set isn't live at a moment
pub record HasStale (moment : ℕ) (sets : tree.BTreeMap ℕ ChunkSet) : Type 0 where
  pub id : ℕ
  pub set : ChunkSet
  pub kept : tree.get nat_cmp sets id ≡ Some set
  pub past : nat_le moment (set.opened + 5000) ≡ false

-- one more set can be kept: there are fewer than 1,024, or one isn't live
abbrev pub HasRoom : ℕ → tree.BTreeMap ℕ ChunkSet → Type 0
HasRoom moment sets = 1024 ≤ length sets.entries → HasStale moment sets
