-- The text of a command: that of a JSON object, compact and with its keys in the order of their bytes (RFC 8259; which keys
-- an object has, this project).
use Rattle.std.specs.Prelude.{ℕ, ◌≤◌, ◌<◌, ◌^◌, ⊤, Bool, List, [], ◌∷◌, ◌++◌, length, map, codes}
use Rattle.std.specs.List.{All, fold}
use Rattle.std.specs.Str.{IsUtf8}
use Rattle.serde_json.specs.Data.{unsigned, Data, null, boolean, number, string, array, object, Items, no_items, item, Members, no_members, member, put}
use Rattle.serde_json.specs.View.{items_of}
use Rattle.serde_json.specs.Written.{compact_text}
use Rattle.gl_fields.specs.declared.input_kind.InputKind.{InputKind}
use Rattle.gl_fields.specs.declared.input_kind.InputKind.TheVariants.{Raw, Gelf, Syslog}
use Rattle.gl_extract.specs.declared.parts.ExtractorKind.{ExtractorKind}
use Rattle.gl_extract.specs.declared.parts.ExtractorKind.TheVariants as kinds
use Rattle.gl_extract.specs.declared.parts.Condition.{Condition}
use Rattle.gl_extract.specs.declared.parts.Condition.TheVariants as conditions
use Rattle.gl_extract.specs.declared.parts.Converter.{Converter}
use Rattle.gl_extract.specs.declared.parts.Converter.TheVariants.{Numeric, Lowercase, Uppercase, SyslogLevel, SyslogFacility}
use Rattle.gl_extract.specs.declared.parts.ExtractorParts.{ExtractorParts}
use Rattle.gl_commands.specs.declared.command.TestKind.{TestKind}
use Rattle.gl_commands.specs.declared.command.TestKind.TheVariants.{Exact, Regex, Greater, Smaller, Presence, Contains, Always}
use Rattle.gl_commands.specs.declared.command.RuleParts.{RuleParts}
use Rattle.gl_commands.specs.declared.command.Command.{Command}
use Rattle.gl_commands.specs.declared.command.Command.TheVariants.{CreateInput, SetExtractors, CreateIndexSet, CreateStream, SetStream, CreateRule, SetRule, CreatePipeline, SetPipeline, Connect, CreateLookup, SetLookup, CreateGrok, SetGrok, CreateUser, SetUser}
use Rattle.gl_text.specs.Ids.{id_text}

-- Names of what an enumeration has.

abbrev pub kind_name : InputKind → List ℕ
kind_name Raw = codes "raw"
kind_name Gelf = codes "gelf"
kind_name Syslog = codes "syslog"

abbrev pub test_name : TestKind → List ℕ
test_name Exact = codes "exact"
test_name Regex = codes "regex"
test_name Greater = codes "greater"
test_name Smaller = codes "smaller"
test_name Presence = codes "presence"
test_name Contains = codes "contains"
test_name Always = codes "always"

abbrev pub converter_name : Converter → List ℕ
converter_name Numeric = codes "numeric"
converter_name Lowercase = codes "lowercase"
converter_name Uppercase = codes "uppercase"
converter_name SyslogLevel = codes "syslog_level"
converter_name SyslogFacility = codes "syslog_facility"

-- Values.

-- keys and their values
abbrev pub Keys : Type 0
Keys = List (List ℕ × Data)

-- the object with these keys, which stand in the order of their bytes
abbrev pub keyed : Keys → Data
keyed keys = object (fold (λ (members : Members) (key : List ℕ × Data). put key.0 key.1 members) no_members keys)

abbrev pub list_data : {A : Type 0} → (A → Data) → List A → Data
list_data form xs = array (items_of (map form xs))

abbrev pub id_data : ℕ → Data
id_data id = string (id_text id)

abbrev pub whole : ℕ → Data
whole n = number (unsigned n)

abbrev pub rule_keys : RuleParts → Keys
rule_keys rule =
    (codes "field", string rule.field)
    ∷ (codes "test", string (test_name rule.test))
    ∷ (codes "value", string rule.value)
    ∷ (codes "inverted", boolean rule.inverted) ∷ []

abbrev pub rule_data : RuleParts → Data
rule_data rule = keyed (rule_keys rule)

-- an extractor's kind, its target, which is empty where it has none, and the keys of the kind
abbrev pub kind_keys : ExtractorKind → Keys
kind_keys (kinds.Regex pattern target) =
    (codes "kind", string (codes "regex")) ∷ (codes "target", string target) ∷ (codes "pattern", string pattern) ∷ []
kind_keys (kinds.Substring begin end target) =
    (codes "kind", string (codes "substring")) ∷ (codes "target", string target) ∷ (codes "begin", whole begin) ∷ (codes "end", whole end) ∷ []
kind_keys (kinds.Split by index target) =
    (codes "kind", string (codes "split")) ∷ (codes "target", string target) ∷ (codes "by", string by) ∷ (codes "index", whole index) ∷ []
kind_keys (kinds.Grok pattern) =
    (codes "kind", string (codes "grok")) ∷ (codes "target", string []) ∷ (codes "pattern", string pattern) ∷ []
kind_keys kinds.Json = (codes "kind", string (codes "json")) ∷ (codes "target", string []) ∷ []

abbrev pub condition_data : Condition → Data
condition_data conditions.None = null
condition_data (conditions.Contains part) = keyed ((codes "contains", string part) ∷ [])
condition_data (conditions.Regex pattern) = keyed ((codes "regex", string pattern) ∷ [])

abbrev pub extractor_keys : ExtractorParts → Keys
extractor_keys parts = kind_keys parts.kind
    ++ (codes "source", string parts.source)
    ∷ (codes "cut", boolean parts.cut)
    ∷ (codes "condition", condition_data parts.condition)
    ∷ (codes "converters", list_data (λ converter. string (converter_name converter)) parts.converters) ∷ []

abbrev pub extractor_data : ExtractorParts → Data
extractor_data parts = keyed (extractor_keys parts)

-- Commands.

abbrev pub of_kind : List ℕ → Keys → Keys
of_kind kind keys = (codes "kind", string kind) ∷ keys

abbrev pub source_keys : List ℕ → List ℕ → Keys
source_keys kind source = of_kind kind ((codes "source", string source) ∷ [])

abbrev pub lookup_keys : List ℕ → List ℕ → List ℕ → List ℕ → List ℕ → Keys
lookup_keys kind name csv key value = of_kind kind (
    (codes "name", string name) ∷ (codes "csv", string csv) ∷ (codes "key", string key) ∷ (codes "value", string value) ∷ [])

abbrev pub grok_keys : List ℕ → List ℕ → List ℕ → Keys
grok_keys kind name pattern = of_kind kind ((codes "name", string name) ∷ (codes "pattern", string pattern) ∷ [])

abbrev pub user_keys : List ℕ → List ℕ → List ℕ → Bool → List ℕ → Keys
user_keys kind name hash admin streams = of_kind kind (
    (codes "name", string name)
    ∷ (codes "token_sha256", string hash)
    ∷ (codes "admin", boolean admin)
    ∷ (codes "streams", list_data id_data streams) ∷ [])

-- the keys of a command's value
abbrev pub command_keys : Command → Keys
command_keys (CreateInput name kind) = of_kind (codes "create_input") (
    (codes "name", string name) ∷ (codes "type", string (kind_name kind)) ∷ [])
command_keys (SetExtractors input extractors) = of_kind (codes "set_extractors") (
    (codes "input", string input) ∷ (codes "extractors", list_data extractor_data extractors) ∷ [])
command_keys (CreateIndexSet name max_docs max_ms keep) = of_kind (codes "create_index_set") (
    (codes "name", string name)
    ∷ (codes "max_docs", whole max_docs)
    ∷ (codes "max_ms", whole max_ms)
    ∷ (codes "keep", whole keep) ∷ [])
command_keys (CreateStream name index_set any removes rules) = of_kind (codes "create_stream") (
    (codes "name", string name)
    ∷ (codes "index_set", string index_set)
    ∷ (codes "any", boolean any)
    ∷ (codes "remove_from_default", boolean removes)
    ∷ (codes "rules", list_data rule_data rules) ∷ [])
command_keys (SetStream id any removes paused rules) = of_kind (codes "set_stream") (
    (codes "id", id_data id)
    ∷ (codes "any", boolean any)
    ∷ (codes "remove_from_default", boolean removes)
    ∷ (codes "paused", boolean paused)
    ∷ (codes "rules", list_data rule_data rules) ∷ [])
command_keys (CreateRule source) = source_keys (codes "create_rule") source
command_keys (SetRule source) = source_keys (codes "set_rule") source
command_keys (CreatePipeline source) = source_keys (codes "create_pipeline") source
command_keys (SetPipeline source) = source_keys (codes "set_pipeline") source
command_keys (Connect stream pipelines) = of_kind (codes "connect") (
    (codes "stream", id_data stream) ∷ (codes "pipelines", list_data string pipelines) ∷ [])
command_keys (CreateLookup name csv key value) = lookup_keys (codes "create_lookup") name csv key value
command_keys (SetLookup name csv key value) = lookup_keys (codes "set_lookup") name csv key value
command_keys (CreateGrok name pattern) = grok_keys (codes "create_grok") name pattern
command_keys (SetGrok name pattern) = grok_keys (codes "set_grok") name pattern
command_keys (CreateUser name hash admin streams) = user_keys (codes "create_user") name hash admin streams
command_keys (SetUser name hash admin streams) = user_keys (codes "set_user") name hash admin streams

-- the value of a command
unfoldable pub command_data : Command → Data
command_data command = keyed (command_keys command)

-- the kept text of a command
abbrev pub command_bytes : Command → List ℕ
command_bytes command = compact_text (command_data command)

-- What commands a text may keep.

-- a number that is no id: at most 2^53
abbrev pub IsNumber : ℕ → Type 0
IsNumber n = n ≤ 9007199254740992

abbrev pub KindHasNumbers : ExtractorKind → Type 0
KindHasNumbers (kinds.Substring begin end target) = IsNumber begin × IsNumber end
KindHasNumbers (kinds.Split by index target) = IsNumber index
KindHasNumbers kind = ⊤

abbrev pub IsId : ℕ → Type 0
IsId id = id < 2 ^ 64

-- each number is in its range
abbrev pub HasNumbers : Command → Type 0
HasNumbers (SetExtractors input extractors) = All (λ (parts : ExtractorParts). KindHasNumbers parts.kind) extractors
HasNumbers (CreateIndexSet name max_docs max_ms keep) = IsNumber max_docs × IsNumber max_ms × IsNumber keep
HasNumbers (SetStream id any removes paused rules) = IsId id
HasNumbers (Connect stream pipelines) = IsId stream
HasNumbers (CreateUser name hash admin streams) = All IsId streams
HasNumbers (SetUser name hash admin streams) = All IsId streams
HasNumbers command = ⊤

-- each text of a value is UTF-8
abbrev mutual
  pub HasTexts : Data → Type 0
  HasTexts (string text) = IsUtf8 text
  HasTexts (array items) = ItemsHaveTexts items
  HasTexts (object members) = MembersHaveTexts members
  HasTexts other = ⊤

  pub ItemsHaveTexts : Items → Type 0
  ItemsHaveTexts no_items = ⊤
  ItemsHaveTexts (item d items) = HasTexts d × ItemsHaveTexts items

  pub MembersHaveTexts : Members → Type 0
  MembersHaveTexts no_members = ⊤
  MembersHaveTexts (member key d members) = IsUtf8 key × HasTexts d × MembersHaveTexts members

-- a command that is kept: its numbers are in their ranges, its texts are UTF-8, and its own text has at most 4,194,299 bytes
pub record IsCommand (command : Command) : Type 0 where
  pub numbers : HasNumbers command
  pub texts : HasTexts (command_data command)
  pub few : length (command_bytes command) ≤ 4194299
