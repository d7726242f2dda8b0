-- What a caller is told of the streams, of the server, and of a rule or a pipeline (this project).
use Rattle.std.specs.Prelude.{ℕ, List, [], ◌∷◌, filter, codes}
use Rattle.serde_json.specs.Data.{Data}
use Rattle.gl_text.specs.Ids.{id_text}
use Rattle.gl_streams.specs.declared.stream.Stream.{Stream}
use Rattle.gl_pages.specs.Pages.{is_chosen}
use Rattle.gl_http.specs.declared.reply.Reply.{Reply}
use Rattle.gl_bodies.specs.Json.{Member, object_of, list_of, text_at, count_at}
use Rattle.gl_bodies.specs.Replies.{reply}

abbrev pub stream_data : Stream → Data
stream_data stream = object_of (text_at (codes "id") (id_text stream.id) ∷ text_at (codes "name") stream.name ∷ [])

abbrev pub permitted_streams : List ℕ → List Stream → List Stream
permitted_streams permitted streams = filter (λ stream. is_chosen permitted stream.id) streams

abbrev pub streams_at : List ℕ → List Stream → Member
streams_at permitted streams = (codes "streams", list_of stream_data (permitted_streams permitted streams))

-- the permitted streams, as they stand
abbrev pub streams_reply : List ℕ → List Stream → Reply
streams_reply permitted streams = reply 200 (streams_at permitted streams ∷ [])

-- a live index and how many rows it has
abbrev pub index_data : List ℕ × ℕ → Data
index_data index = object_of (text_at (codes "name") index.0 ∷ count_at (codes "rows") index.1 ∷ [])

abbrev pub indexes_at : List (List ℕ × ℕ) → Member
indexes_at indexes = (codes "indexes", list_of index_data indexes)

-- how many outcomes are committed, the live indexes, how many entries the journal has, and the configuration's version
abbrev pub system_reply : (committed : ℕ) → List (List ℕ × ℕ) → (journal : ℕ) → (version : ℕ) → Reply
system_reply committed indexes journal version = reply 200 (
    count_at (codes "committed") committed ∷ indexes_at indexes ∷ count_at (codes "journal") journal ∷ count_at (codes "version") version ∷ [])

-- a rule or a pipeline, printed
abbrev pub source_reply : List ℕ → Reply
source_reply source = reply 200 (text_at (codes "source") source ∷ [])
