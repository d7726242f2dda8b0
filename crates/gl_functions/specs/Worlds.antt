-- What rules know beside a message's fields: the streams and lookup tables that there are, and in which streams the message is
-- (this project).
use Rattle.std.specs.Prelude.{ℕ, List, map, find, length, Option, option_and_then, ◌==◌, if◌then◌else◌}
use Rattle.std.specs.Map.{lookup}
use Rattle.std.specs.Str.{bytes_eq}
use Rattle.std.specs.BTreeMap.{BTreeMap}
use Rattle.std.specs.String.{string_bytes}
use Rattle.std.specs.declared.string.String.{String}
use Rattle.gl_fields.specs.declared.field.Field.{Field}
use Rattle.gl_lookup.specs.Tables.{Pair, value_of}
use Rattle.gl_streams.specs.declared.stream.Stream.{Stream}
use Rattle.gl_text.specs.Ids.{id_text}
use Rattle.gl_functions.specs.declared.world.World.{World}

pub record Known : Type 0 where
  pub streams : List Stream
  -- each table with its name
  pub tables : List (List ℕ × List Pair)

-- the tables of a map, each with its name
abbrev pub tables_of : {A : Type 0} → BTreeMap (String A) (List Pair) → List (List ℕ × List Pair)
tables_of lookups = map {B = List ℕ × List Pair} (λ entry. (string_bytes entry.0, entry.1)) lookups.entries

abbrev pub known_of : World → Known
known_of world = record { streams = world.streams.now; tables = tables_of world.lookups.now }

-- the stream of this id, or the one of this name where the id is empty
abbrev pub stream_named : Known → List ℕ → List ℕ → Option Stream
stream_named world id name =
    if length id == 0 then find (λ stream. bytes_eq name stream.name) world.streams
    else find (λ stream. bytes_eq id (id_text stream.id)) world.streams

-- what a key stands for in the table of this name
abbrev pub looked_up : Known → List ℕ → List ℕ → Option (List ℕ)
looked_up world table key = option_and_then (value_of key) (lookup (λ name. bytes_eq table name) world.tables)

-- what a function may look at: what is known, the message's fields, and the ids of the streams in which it is
pub record Sight : Type 0 where
  pub world : Known
  pub fields : List Field
  pub streams : List ℕ

abbrev pub sight : World → List Field → List ℕ → Sight
sight world fields streams = record { world = known_of world; fields = fields; streams = streams }
