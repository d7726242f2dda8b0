-- The head of a chunk (GELF by UDP): the bytes 1e 0f, an id of 8 bytes, the chunk's number and their count, in one byte
-- each; there are 1 to 128, numbered from 0. And the answer to a datagram, by all datagrams before it (`chunk_answer`):
-- a fold over them, in which nothing is ever discarded, and which tells by the moments what is live. GELF says that the
-- chunks of an id are joined by number, and given up 5,000 ms after the first. That a message that ended is remembered
-- for as long, the order of the answers, and the bounds of 1,024 sets and 1,048,576 bytes are this project's.
use Rattle.std.specs.Prelude.{◌≡◌, ◌≤◌, ℕ, ◌+◌, Bool, not, ◌&&◌, List, [], ◌∷◌, length, take, drop, min, max, slice_index, slice_index_or, slice_set, replicate, Option, Some, None, is_some, nat_le, nat_lt, ◌==◌, if◌then◌else◌}
use Rattle.std.specs.Int.{w64, from_be_bytes, is_in_range}
use Rattle.std.specs.List.{list_all, flat_map}
use Rattle.std.specs.Option.{unwrap_or}
use Rattle.std.specs.Ordering.{nat_cmp}
use Rattle.std.specs.FinMap as map
use Rattle.std.specs.BTreeMap as tree
use Rattle.gl_chunks.specs.declared.chunk_set.ChunkSet.{ChunkSet}
use Rattle.gl_chunks.specs.declared.chunks.Chunked.{Chunked}
use Rattle.gl_chunks.specs.declared.chunks.Chunked.TheVariants as answers
use Rattle.gl_chunks.specs.declared.chunks.Chunks.{Chunks}

abbrev pub chunk_id : List ℕ → ℕ
chunk_id bytes = from_be_bytes w64 (take 8 (drop 2 bytes))

abbrev pub chunk_number : List ℕ → ℕ
chunk_number bytes = slice_index bytes 10

abbrev pub chunk_count : List ℕ → ℕ
chunk_count bytes = slice_index bytes 11

-- id, number and count
unfoldable pub chunk_head : List ℕ → Option (ℕ × ℕ × ℕ)
chunk_head bytes =
    if nat_le 12 (length bytes) && slice_index bytes 0 == 30 && slice_index bytes 1 == 15
    && is_in_range 1 128 (chunk_count bytes) && nat_lt (chunk_number bytes) (chunk_count bytes)
    then Some (chunk_id bytes, chunk_number bytes, chunk_count bytes) else None

unfoldable pub begins_as_chunk : List ℕ → Bool
begins_as_chunk bytes = nat_le 2 (length bytes) && slice_index bytes 0 == 30 && slice_index bytes 1 == 15

-- what is there, where it is 5,000 ms old at most at a moment
abbrev pub while_live : {X : Type 0} → (X → ℕ) → ℕ → Option X → Option X
while_live since moment None = None
while_live since moment (Some x) = if nat_le moment (since x + 5000) then Some x else None

abbrev pub opened : ChunkSet → ℕ
opened set = set.opened

abbrev pub at_itself : ℕ → ℕ
at_itself moment = moment

-- what stands behind some datagrams: the greatest moment, the last set of each id, and when the last message of each id
-- ended
pub record Standing : Type 0 where
  pub now : ℕ
  pub sets : map.FinMap nat_cmp ChunkSet
  pub ended : map.FinMap nat_cmp ℕ

-- at the greatest moment so far: the live set of an id, whether its message has ended of late, and all live sets
abbrev pub live_set : Standing → ℕ → Option ChunkSet
live_set s id = while_live opened s.now (map.get s.sets id)

abbrev pub has_ended : Standing → ℕ → Bool
has_ended s id = is_some (while_live at_itself s.now (map.get s.ended id))

abbrev pub live_sets : ℕ → map.FinMap nat_cmp ChunkSet → map.FinMap nat_cmp ChunkSet
live_sets moment sets = map.retain_keys sets (λ id. is_some (while_live opened moment (map.get sets id)))

-- the set that a first chunk opens, and a set with a chunk's data
abbrev pub opened_set : ℕ → ℕ → ChunkSet
opened_set moment count = record { opened = moment; len = 0; parts = replicate count None }

abbrev pub with_part : ChunkSet → ℕ → List ℕ → ChunkSet
with_part set number part = record { opened = set.opened; len = set.len + length part; parts = slice_set set.parts number (Some part) }

abbrev pub data_of : Option (List ℕ) → List ℕ
data_of part = unwrap_or part []

-- the data joined by number, where each number below the count has come
unfoldable pub message : List (Option (List ℕ)) → Option (List ℕ)
message parts = if list_all is_some parts then Some (flat_map data_of parts) else None

-- the answers that change nothing: beside a set, by whether there is one, and first of all to a message that has ended
abbrev pub beside : ChunkSet → ℕ → ℕ → Option Chunked
beside set number count =
    if not (length set.parts == count) then Some (answers.CountMismatch (length set.parts) count)
    else (if is_some (slice_index_or set.parts number None) then Some answers.Repeat else None)

abbrev pub refusal_by : Standing → ℕ → ℕ → Option ChunkSet → Option Chunked
refusal_by s number count None = if nat_le 1024 (map.len (live_sets s.now s.sets)) then Some answers.ChunkTableFull else None
refusal_by s number count (Some set) = beside set number count

abbrev pub refusal : Standing → ℕ → ℕ → ℕ → Option Chunked
refusal s id number count = if has_ended s id then Some answers.Repeat else refusal_by s number count (live_set s id)

-- a set is kept, or its message ends at this moment
abbrev pub with_set : Standing → ℕ → ChunkSet → Standing
with_set s id set = record { now = s.now; sets = map.insert s.sets id set; ended = s.ended }

abbrev pub with_end : Standing → ℕ → Standing
with_end s id = record { now = s.now; sets = map.remove s.sets id; ended = map.insert s.ended id s.now }

-- a set is whole, or lacks others
abbrev pub told : Standing → ℕ → ChunkSet → Option (List ℕ) → Chunked × Standing
told s id set None = (answers.Held, with_set s id set)
told s id set (Some bytes) = (answers.Whole bytes, with_end s id)

-- a set that a chunk has joined, unless its data pass 1,048,576 bytes
abbrev pub joined : Standing → ℕ → ChunkSet → Chunked × Standing
joined s id set = if nat_lt 1048576 set.len then (answers.TooLong, with_end s id) else told s id set (message set.parts)

abbrev pub unless : Standing → Option Chunked → Chunked × Standing → Chunked × Standing
unless s None turn = turn
unless s (Some answer) turn = (answer, s)

-- the answer to a lawful chunk, and what stands after it; where no set of its id is live, it opens one
unfoldable pub chunk_turn : Standing → ℕ → ℕ → ℕ → List ℕ → Chunked × Standing
chunk_turn s id number count part =
    unless s (refusal s id number count) (joined s id (with_part (unwrap_or (live_set s id) (opened_set s.now count)) number part))

abbrev pub turn_by : Standing → List ℕ → Option (ℕ × ℕ × ℕ) → Chunked × Standing
turn_by s bytes None = (if begins_as_chunk bytes then answers.BadChunk else answers.Plain, s)
turn_by s bytes (Some head) = chunk_turn s head.0 head.1 head.2 (drop 12 bytes)

-- at the greatest moment so far; one above 253,402,300,799,999 counts as that number
abbrev pub at_moment : Standing → ℕ → Standing
at_moment s moment = record { now = max s.now (min moment 253402300799999); sets = s.sets; ended = s.ended }

-- the answer to a datagram, and what stands after it
unfoldable pub turn : Standing → ℕ × List ℕ → Chunked × Standing
turn s datagram = turn_by (at_moment s datagram.0) datagram.1 (chunk_head datagram.1)

-- what stands behind datagrams, oldest first, from what stood before, and from nothing
unfoldable pub standing_behind : Standing → List (ℕ × List ℕ) → Standing
standing_behind s [] = s
standing_behind s (datagram ∷ datagrams) = standing_behind (turn s datagram).1 datagrams

abbrev pub standing_of : List (ℕ × List ℕ) → Standing
standing_of datagrams = standing_behind (record { now = 0; sets = map.empty; ended = map.empty }) datagrams

-- the answer to a datagram at a moment, by the earlier datagrams with their moments, oldest first
abbrev pub chunk_answer : List (ℕ × List ℕ) → ℕ → List ℕ → Chunked
chunk_answer earlier moment bytes = (turn (standing_of earlier) (moment, bytes)).0

-- what is kept tells at each moment from now on what stands; what isn't live may have been discarded
abbrev pub Tells : {X : Type 0} → (X → ℕ) → ℕ → (ℕ → Option X) → (ℕ → Option X) → Type 0
Tells since now f g = (moment id : ℕ) → now ≤ moment → while_live since moment (f id) ≡ while_live since moment (g id)

pub record IsTable (now : ℕ) (sets : tree.BTreeMap ℕ ChunkSet) (ended : tree.BTreeMap ℕ ℕ) (s : Standing) : Type 0 where
  pub now_is : s.now ≡ now
  pub of_sets : Tells opened now (tree.get nat_cmp sets) (map.get s.sets)
  pub of_ended : Tells at_itself now (tree.get nat_cmp ended) (map.get s.ended)

-- a table that was given these datagrams with their moments, oldest first
abbrev pub StandsFor : Chunks → List (ℕ × List ℕ) → Type 0
StandsFor table datagrams = IsTable table.now table.sets table.ended (standing_of datagrams)
