-- Which streams a message goes to (this project).
use Rattle.std.specs.Prelude.{ℕ, Bool, not, ◌&&◌, ◌||◌, ◌==◌, nat_lt, List, [], ◌∷◌, ◌++◌, map, filter, fold, if◌then◌else◌}
use Rattle.std.specs.List.{list_any}
use Rattle.gl_fields.specs.declared.field.Field.{Field}
use Rattle.gl_streams.specs.declared.stream.Stream.{Stream}
use Rattle.gl_streams.specs.Matching.{stream_matches}

abbrev pub matching : List Stream → List Field → List Stream
matching streams fields = filter (λ stream. stream_matches stream fields) streams

-- one of these streams takes a message away from the default stream
abbrev pub one_removes : List Stream → Bool
one_removes streams = list_any (λ stream. stream.remove_from_default) streams

-- rising ids with this one among them
abbrev pub with_id : List ℕ → ℕ → List ℕ
with_id ids id = filter (λ other. nat_lt other id) ids ++ id ∷ filter (λ other. nat_lt id other) ids

-- ids without this one
abbrev pub without_id : List ℕ → ℕ → List ℕ
without_id ids id = filter (λ other. not (other == id)) ids

-- the ids of these streams in rising order, each once
abbrev pub ids_of : List Stream → List ℕ
ids_of streams = fold with_id [] (map (λ stream. stream.id) streams)

-- the ids of the streams that match, and that of the default stream, which is 1, unless one of them removes it
abbrev pub streams_of : List Stream → List Field → List ℕ
streams_of streams fields =
    if one_removes (matching streams fields) then ids_of (matching streams fields) else with_id (ids_of (matching streams fields)) 1

abbrev pub has_id : ℕ → List ℕ → Bool
has_id id ids = list_any (λ other. other == id) ids

-- it is the id of a stream that matches, or the default stream's, which none removes
abbrev pub is_given : ℕ → List Stream → List Field → Bool
is_given id streams fields =
    list_any (λ stream. stream.id == id) (matching streams fields) || (1 == id && not (one_removes (matching streams fields)))
