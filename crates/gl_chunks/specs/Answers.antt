-- The answers to all datagrams of an input, told by the datagrams alone: no table is kept (GELF by UDP; the bounds and the
-- order of the cases are this project's). Lists of answered datagrams begin with the last one.
use Rattle.std.specs.Prelude.{ℕ, ◌+◌, Bool, true, false, not, ◌&&◌, List, [], ◌∷◌, ◌++◌, length, map, drop, min, max, Option, Some, None, option_map, nat_le, nat_lt, ◌==◌, if◌then◌else◌}
use Rattle.std.specs.List.{list_any, filter, find, flat_map, range_with_len}
use Rattle.gl_chunks.specs.declared.chunks.Chunked.{Chunked}
use Rattle.gl_chunks.specs.declared.chunks.Chunked.TheVariants as answers
use Rattle.gl_chunks.specs.Chunks.{chunk_head, begins_as_chunk, chunk_number, chunk_count, message}

-- a datagram, the moment at which it was taken, which is the greatest so far, and its answer
pub record Datagram : Type 0 where
  pub moment : ℕ
  pub bytes : List ℕ
  pub answer : Chunked

abbrev pub is_of : ℕ → Option (ℕ × ℕ × ℕ) → Bool
is_of id None = false
is_of id (Some head) = id == head.0

abbrev pub is_kept : Chunked → Bool
is_kept answers.Held = true
is_kept other = false

abbrev pub ends : Chunked → Bool
ends (answers.Whole bytes) = true
ends answers.TooLong = true
ends other = false

-- a chunk of an id that was held, and one with which a message of the id was whole or too long
abbrev pub is_held : ℕ → Datagram → Bool
is_held id d = is_of id (chunk_head d.bytes) && is_kept d.answer

abbrev pub is_end : ℕ → Datagram → Bool
is_end id d = is_of id (chunk_head d.bytes) && ends d.answer

-- a set, by its opener and all datagrams behind that, is live for 5,000 ms, unless its message ended
abbrev pub is_live : ℕ → ℕ → Option (Datagram × List Datagram) → Bool
is_live id moment None = false
is_live id moment (Some set) = nat_le moment (set.0.moment + 5000) && not (list_any (is_end id) set.1)

abbrev pub behind : Datagram → Option (Datagram × List Datagram) → Option (Datagram × List Datagram)
behind d None = None
behind d (Some set) = Some (set.0, d ∷ set.1)

-- the opener of an id, the last chunk of it that was held when no set of the id was live, and all datagrams behind it
unfoldable pub opener_of : ℕ → List Datagram → Option (Datagram × List Datagram)
opener_of id [] = None
opener_of id (d ∷ earlier) =
    if is_held id d && not (is_live id d.moment (opener_of id earlier)) then Some (d, []) else behind d (opener_of id earlier)

-- the members of a set: the chunks of its id that were held, from the opener on
abbrev pub members_of : ℕ → Datagram × List Datagram → List (List ℕ)
members_of id set = map (λ d. d.bytes) (filter (is_held id) set.1) ++ set.0.bytes ∷ []

-- the ids of all chunks, each once, and how many of them have a live set
abbrev pub with_id : Option (ℕ × ℕ × ℕ) → List ℕ → List ℕ
with_id None ids = ids
with_id (Some head) ids = if list_any (λ id. head.0 == id) ids then ids else head.0 ∷ ids

unfoldable pub ids_in : List Datagram → List ℕ
ids_in [] = []
ids_in (d ∷ earlier) = with_id (chunk_head d.bytes) (ids_in earlier)

abbrev pub live_ids : ℕ → List Datagram → List ℕ
live_ids moment earlier = filter (λ id. is_live id moment (opener_of id earlier)) (ids_in earlier)

-- a message of the id ended 5,000 ms ago at most
abbrev pub has_ended : ℕ → ℕ → List Datagram → Bool
has_ended id moment earlier = list_any (λ d. is_end id d && nat_le moment (d.moment + 5000)) earlier

-- the data of chunks: of all, of the one of a number, and of all numbers below a count
abbrev pub data_in : List ℕ → List ℕ
data_in chunk = drop 12 chunk

abbrev pub size_of : List (List ℕ) → ℕ
size_of chunks = length (flat_map data_in chunks)

abbrev pub part_of : List (List ℕ) → ℕ → Option (List ℕ)
part_of chunks number = option_map data_in (find (λ chunk. chunk_number chunk == number) chunks)

abbrev pub parts_of : ℕ → List (List ℕ) → List (Option (List ℕ))
parts_of count chunks = map (part_of chunks) (range_with_len 0 count)

-- chunks of a message of so many are too long, or whole, or lack others
abbrev pub whole_or_held : Option (List ℕ) → Chunked
whole_or_held None = answers.Held
whole_or_held (Some bytes) = answers.Whole bytes

abbrev pub grown : ℕ → List (List ℕ) → Chunked
grown count chunks = if nat_lt 1048576 (size_of chunks) then answers.TooLong else whole_or_held (message (parts_of count chunks))

-- a chunk beside the set of its id: of another count, there already, or one more member
abbrev pub in_set : List ℕ → ℕ → List (List ℕ) → Chunked
in_set chunk count members =
    if not (count == chunk_count chunk) then answers.CountMismatch count (chunk_count chunk)
    else (if list_any (λ member. chunk_number member == chunk_number chunk) members then answers.Repeat
    else grown count (chunk ∷ members))

-- where no set of its id is live, a chunk opens one, unless 1,024 others are live
abbrev pub opening : List ℕ → ℕ → Chunked
opening chunk live = if nat_le 1024 live then answers.ChunkTableFull else grown (chunk_count chunk) (chunk ∷ [])

abbrev pub by_set : ℕ → ℕ → List ℕ → ℕ → Option (Datagram × List Datagram) → Chunked
by_set id moment chunk live None = opening chunk live
by_set id moment chunk live (Some set) =
    if is_live id moment (Some set) then in_set chunk (chunk_count set.0.bytes) (members_of id set) else opening chunk live

abbrev pub of_chunk : List Datagram → ℕ → List ℕ → Option (ℕ × ℕ × ℕ) → Chunked
of_chunk earlier moment bytes None = if begins_as_chunk bytes then answers.BadChunk else answers.Plain
of_chunk earlier moment bytes (Some head) =
    if has_ended head.0 moment earlier then answers.Repeat
    else by_set head.0 moment bytes (length (live_ids moment earlier)) (opener_of head.0 earlier)

-- the answer to a datagram that is taken at this moment
abbrev pub answer_of : List Datagram → ℕ → List ℕ → Chunked
answer_of earlier moment bytes = of_chunk earlier moment bytes (chunk_head bytes)

-- a datagram is taken at the greatest moment so far; one above 253,402,300,799,999 counts as that number
abbrev pub greatest : List Datagram → ℕ
greatest [] = 0
greatest (d ∷ earlier) = d.moment

abbrev pub taken_at : List Datagram → ℕ → ℕ
taken_at earlier moment = max (greatest earlier) (min moment 253402300799999)

-- datagrams with their moments, oldest first, have these answers
pub data AreAnswers : List (ℕ × List ℕ) → List Datagram → Type 0 where
  nothing : AreAnswers [] []
  one_more : (given : List (ℕ × List ℕ)) (earlier : List Datagram) (moment : ℕ) (bytes : List ℕ) → AreAnswers given earlier
      → AreAnswers (given ++ (moment, bytes) ∷ []) (record { moment = taken_at earlier moment; bytes = bytes; answer = answer_of earlier (taken_at earlier moment) bytes } ∷ earlier)
