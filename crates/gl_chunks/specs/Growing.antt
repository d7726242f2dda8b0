-- What becomes of a set that a chunk joins, told by the code before it takes the chunk: too long, whole, or more to come.
use Rattle.std.specs.Prelude.{◌≤◌, ◌+◌, ℕ, length, ⊤}
use Rattle.gl_chunks.specs.declared.chunk_set.ChunkSet.{ChunkSet}
use Rattle.gl_chunks.specs.declared.chunks.Chunked.{Chunked}
use Rattle.gl_chunks.specs.declared.chunks.Chunked.TheVariants as answers
use Rattle.gl_chunks.specs.declared.chunks.Grown.{Grown}
use Rattle.gl_chunks.specs.declared.chunks.Grown.TheVariants as grows
use Rattle.gl_chunks.specs.Chunks.{Standing, with_part, with_set, with_end}

abbrev pub grown_turn : Standing → ℕ → ChunkSet → ℕ → Grown → Chunked × Standing
grown_turn s id set number grows.TooLong = (answers.TooLong, with_end s id)
grown_turn s id set number (grows.Whole bytes) = (answers.Whole bytes, with_end s id)
grown_turn s id set number (grows.Lacks part) = (answers.Held, with_set s id (with_part set number part))

abbrev pub Fits : ChunkSet → Grown → Type 0
Fits set grows.TooLong = ⊤
Fits set (grows.Whole bytes) = ⊤
Fits set (grows.Lacks part) = set.len + length part ≤ 1048576
