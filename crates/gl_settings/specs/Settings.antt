-- A configuration as plain data, what stands in it, and that of a new store (this project).
use Rattle.std.specs.Prelude.{ℕ, Bool, true, false, ◌==◌, List, [], ◌∷◌, ◌++◌, map, filter, find, nat_lt, codes, Option, option_map, is_some, unwrap_or}
use Rattle.std.specs.List.{list_any, flat_map}
use Rattle.std.specs.Str.{bytes_eq}
use Rattle.std.specs.Map.{lookup}
use Rattle.std.specs.String.{string_bytes}
use Rattle.std.specs.declared.string.String.{String}
use Rattle.std.specs.BTreeMap.{BTreeMap}
use Rattle.gl_fields.specs.Fields.{comes_before}
use Rattle.gl_fields.specs.declared.input_kind.InputKind.{InputKind}
use Rattle.gl_fields.specs.declared.input_kind.InputKind.TheVariants.{Raw, Gelf, Syslog}
use Rattle.gl_fields.specs.declared.set_rule.SetRule.{SetRule}
use Rattle.gl_streams.specs.declared.stream.Stream.{Stream}
use Rattle.gl_extract.specs.declared.parts.ExtractorParts.{ExtractorParts}
use Rattle.gl_rulelang.specs.declared.pipeline.Pipeline.{Pipeline}
use Rattle.gl_rulelang.specs.Tree.{RuleTree}
use Rattle.gl_lookup.specs.Tables.{Pair}
use Rattle.gl_grok.specs.Tables.{Table}
use Rattle.gl_grok.specs.Initial.{initial}
use Rattle.gl_settings.specs.declared.input.Input.{Input}
use Rattle.gl_settings.specs.declared.user.User.{User}

-- A configuration. The version is the number of commands that made it. The inputs stand in the order in which they were
-- made, the streams by their ids, which are 1, 2 and so on, the connections by their streams, and all else by rising
-- names, byte by byte.
pub record Settings : Type 0 where
  pub version : ℕ
  pub inputs : List Input
  pub sets : List SetRule
  pub streams : List Stream
  pub rules : List RuleTree
  pub pipelines : List Pipeline
  -- the names of the pipelines that a stream is connected to, as they were given
  pub connections : List (ℕ × List (List ℕ))
  pub lookups : List (List ℕ × List Pair)
  pub groks : Table
  pub users : List User

-- the tables of a map, in rising order of their names' bytes
abbrev pub tables_of : {A X : Type 0} → BTreeMap (String A) X → List (List ℕ × X)
tables_of tables = map (λ entry. (string_bytes entry.0, entry.1)) tables.entries

-- What stands there.

-- one of these has this name
abbrev pub has_name : {A : Type 0} → (A → List ℕ) → List ℕ → List A → Bool
has_name name_of name xs = list_any (λ x. bytes_eq name (name_of x)) xs

-- the list with this one where its name stands in rising order, or in the place of the one of its name
abbrev pub placed : {A : Type 0} → (A → List ℕ) → A → List A → List A
placed name_of x xs =
    filter (λ y. comes_before (name_of y) (name_of x)) xs ++ x ∷ filter (λ y. comes_before (name_of x) (name_of y)) xs

-- the connections with this list for this stream, in place of the one that it had, also where the list is empty
abbrev pub connected : ℕ → List (List ℕ) → List (ℕ × List (List ℕ)) → List (ℕ × List (List ℕ))
connected stream pipelines connections =
    filter (λ other. nat_lt other.0 stream) connections ++ (stream, pipelines) ∷ filter (λ other. nat_lt stream other.0) connections

abbrev pub has_input : Settings → List ℕ → Bool
has_input c name = has_name (λ (input : Input). input.name) name c.inputs

abbrev pub has_set : Settings → List ℕ → Bool
has_set c name = has_name (λ (set : SetRule). set.name) name c.sets

abbrev pub has_stream_named : Settings → List ℕ → Bool
has_stream_named c name = has_name (λ (stream : Stream). stream.name) name c.streams

abbrev pub has_stream : Settings → ℕ → Bool
has_stream c id = list_any (λ stream. stream.id == id) c.streams

abbrev pub has_rule : Settings → List ℕ → Bool
has_rule c name = has_name (λ (rule : RuleTree). rule.name) name c.rules

abbrev pub has_pipeline : Settings → List ℕ → Bool
has_pipeline c name = has_name (λ (pipeline : Pipeline). pipeline.name) name c.pipelines

abbrev pub has_lookup : Settings → List ℕ → Bool
has_lookup c name = is_some (lookup (λ key. bytes_eq name key) c.lookups)

abbrev pub has_user : Settings → List ℕ → Bool
has_user c name = has_name (λ (user : User). user.name) name c.users

-- the rules that a pipeline names
abbrev pub rules_named : Pipeline → List (List ℕ)
rules_named pipeline = flat_map (λ stage. stage.rules) pipeline.stages

abbrev pub input_named : Settings → List ℕ → Option Input
input_named c name = find (λ input. bytes_eq name input.name) c.inputs

-- what decodes the payloads of the input with this name, if there is one
abbrev pub kind_of : Settings → List ℕ → Option InputKind
kind_of c name = option_map (λ input. input.kind) (input_named c name)

-- whether an input has this name
abbrev pub is_input : Settings → List ℕ → Bool
is_input c name = is_some (kind_of c name)

-- the extractors of the input with this name, in their order; none where there is no such input
abbrev pub extractors_of : Settings → List ℕ → List ExtractorParts
extractors_of c name = unwrap_or (option_map (λ input. input.extractors) (input_named c name)) []

-- The configuration of a new store: three inputs, each of the kind that its name says, one index set, which keeps one
-- index without limits, the default stream, which has no rules, the grok table to begin with, and the administrator
-- `admin`, whose token is `admin`.

abbrev pub new_input : List ℕ → InputKind → Input
new_input name kind = record { name = name; kind = kind; extractors = [] }

abbrev pub default_stream : Stream
default_stream = record {
  id = 1;
  name = codes "Default";
  index_set = codes "graylog";
  any = false;
  remove_from_default = false;
  paused = false;
  rules = [];
}

abbrev pub initial_settings : Settings
initial_settings = record {
  version = 0;
  inputs = new_input (codes "raw") Raw ∷ new_input (codes "gelf") Gelf ∷ new_input (codes "syslog") Syslog ∷ [];
  sets = record { name = codes "graylog"; max_docs = 0; max_ms = 0; keep = 1 } ∷ [];
  streams = default_stream ∷ [];
  rules = [];
  pipelines = [];
  connections = [];
  lookups = [];
  groks = initial;
  users = record {
    name = codes "admin";
    token_sha256 = codes "8c6976e5b5410415bde908bd4dee15dfb167a9c873fc4bb8a81f6f2ab448a918";
    admin = true;
    streams = [];
  } ∷ [];
}
