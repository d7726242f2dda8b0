-- The command that a JSON value is, and the command that a kept text is (this project). A value is read by its keys; it is the
-- command's where it has no other keys than the command's own value. In a value no key stands twice.
use Rattle.std.specs.Prelude.{ℕ, Bool, List, [], ◌∷◌, ◌++◌, length, codes, find, nat_lt, ◌==◌, ◌≡◌, ⊤, Result, Ok, Err, Option, Some, None, option_map, option_and_then, is_some, unwrap_or, if◌then◌else◌}
use Rattle.std.specs.Option.{option_or}
use Rattle.std.specs.Map.{lookup}
use Rattle.std.specs.Str.{bytes_eq, is_utf8}
use Rattle.serde_json.specs.Data.{Data, Items, no_items, item}
use Rattle.serde_json.specs.Events.{members_len}
use Rattle.serde_json.specs.Find.{get, as_null, as_str, as_bool, as_array, as_object, as_number, as_u64}
use Rattle.serde_json.specs.Read.{read}
use Rattle.gl_fields.specs.declared.input_kind.InputKind.{InputKind}
use Rattle.gl_fields.specs.declared.input_kind.InputKind.TheVariants.{Raw, Gelf, Syslog}
use Rattle.gl_extract.specs.declared.parts.ExtractorKind.{ExtractorKind}
use Rattle.gl_extract.specs.declared.parts.ExtractorKind.TheVariants as kinds
use Rattle.gl_extract.specs.declared.parts.Condition.{Condition}
use Rattle.gl_extract.specs.declared.parts.Condition.TheVariants as conditions
use Rattle.gl_extract.specs.declared.parts.Converter.{Converter}
use Rattle.gl_extract.specs.declared.parts.Converter.TheVariants.{Numeric, Lowercase, Uppercase, SyslogLevel, SyslogFacility}
use Rattle.gl_extract.specs.declared.parts.ExtractorParts.{ExtractorParts}
use Rattle.gl_text.specs.Ids.{read_id}
use Rattle.gl_commands.specs.declared.command.TestKind.{TestKind}
use Rattle.gl_commands.specs.declared.command.TestKind.TheVariants.{Exact, Regex, Greater, Smaller, Presence, Contains, Always}
use Rattle.gl_commands.specs.declared.command.RuleParts.{RuleParts}
use Rattle.gl_commands.specs.declared.command.Command.{Command}
use Rattle.gl_commands.specs.declared.command.Command.TheVariants.{CreateInput, SetExtractors, CreateIndexSet, CreateStream, SetStream, CreateRule, SetRule, CreatePipeline, SetPipeline, Connect, CreateLookup, SetLookup, CreateGrok, SetGrok, CreateUser, SetUser}
use Rattle.gl_commands.specs.declared.unread.Unread.{Unread}
use Rattle.gl_commands.specs.declared.unread.Unread.TheVariants as unread
use Rattle.gl_commands.specs.Texts.{kind_name, test_name, converter_name, rule_data, extractor_data, command_data, command_bytes}

infixl 10 ◌>>=◌
abbrev pub ◌>>=◌ : {A B : Type 0} → Option A → (A → Option B) → Option B
o >>= f = option_and_then f o

-- Values of one form.

-- what has this name among these
abbrev pub one_named : {A : Type 0} → (A → List ℕ) → List A → List ℕ → Option A
one_named name_of all name = find (λ x. bytes_eq name (name_of x)) all

-- the kind of inputs of this name
unfoldable pub kind_named : List ℕ → Option InputKind
kind_named = one_named kind_name (Raw ∷ Gelf ∷ Syslog ∷ [])

unfoldable pub test_named : List ℕ → Option TestKind
test_named = one_named test_name (Exact ∷ Regex ∷ Greater ∷ Smaller ∷ Presence ∷ Contains ∷ Always ∷ [])

unfoldable pub converter_named : List ℕ → Option Converter
converter_named = one_named converter_name (Numeric ∷ Lowercase ∷ Uppercase ∷ SyslogLevel ∷ SyslogFacility ∷ [])

-- a whole number
abbrev pub as_whole : Data → Option ℕ
as_whole d = as_number d >>= as_u64

-- 2^53 at most
abbrev pub in_range : ℕ → Option ℕ
in_range n = if nat_lt 9007199254740992 n then None else Some n

unfoldable pub converter_in : Data → Option Converter
converter_in d = as_str d >>= converter_named

unfoldable pub id_in : Data → Option ℕ
id_in d = as_str d >>= read_id

-- each item is of this form
abbrev pub each_of : {A : Type 0} → (Data → Option A) → Items → Option (List A)
each_of form no_items = Some []
each_of form (item d ds) = form d >>= λ x. option_map (λ xs. x ∷ xs) (each_of form ds)

-- Values at a key.

-- what stands there, of this form
abbrev pub at : {A : Type 0} → (Data → Option A) → List ℕ → Data → Option A
at form key d = get key d >>= form

-- what the text there says
abbrev pub said_at : {A : Type 0} → (List ℕ → Option A) → List ℕ → Data → Option A
said_at meaning key d = at as_str key d >>= meaning

-- a whole number from 0 to 2^53
abbrev pub number_at : List ℕ → Data → Option ℕ
number_at key d = at as_whole key d >>= in_range

-- a list whose items are of this form
abbrev pub list_at : {A : Type 0} → (Data → Option A) → List ℕ → Data → Option (List A)
list_at form key d = at as_array key d >>= each_of form

-- how many keys an object has
abbrev pub width : Data → ℕ
width d = unwrap_or (option_map members_len (as_object d)) 0

-- what was read of a value by its keys, where the value has as many keys as what was read has in its own value
abbrev pub unless_more : {A : Type 0} → (A → Data) → Data → A → Option A
unless_more value_of d x = if width d == width (value_of x) then Some x else None

-- Rules of streams, and extractors.

unfoldable pub rule_in : Data → Option RuleParts
rule_in d = do
  field ← at as_str (codes "field") d
  test ← said_at test_named (codes "test") d
  value ← at as_str (codes "value") d
  inverted ← at as_bool (codes "inverted") d
  unless_more rule_data d (record { field = field; test = test; value = value; inverted = inverted })

-- the first of its two keys, or else the second
unfoldable pub condition_keys : Data → Option Condition
condition_keys d = option_or (option_map conditions.Contains (at as_str (codes "contains") d)) (option_map conditions.Regex (at as_str (codes "regex") d))

-- null, or an object of one key
unfoldable pub condition_in : Data → Option Condition
condition_in d = if is_some (as_null d) then Some conditions.None else (if width d == 1 then condition_keys d else None)

unfoldable pub regex_in : Data → Option ExtractorKind
regex_in d = do
  pattern ← at as_str (codes "pattern") d
  target ← at as_str (codes "target") d
  Some (kinds.Regex pattern target)

unfoldable pub substring_in : Data → Option ExtractorKind
substring_in d = do
  begin ← number_at (codes "begin") d
  end ← number_at (codes "end") d
  target ← at as_str (codes "target") d
  Some (kinds.Substring begin end target)

unfoldable pub split_in : Data → Option ExtractorKind
split_in d = do
  by ← at as_str (codes "by") d
  index ← number_at (codes "index") d
  target ← at as_str (codes "target") d
  Some (kinds.Split by index target)

-- it has no target: an empty one is told
unfoldable pub unless_target : Data → ExtractorKind → Option ExtractorKind
unless_target d kind = do
  target ← at as_str (codes "target") d
  if length target == 0 then Some kind else None

unfoldable pub grok_kind_in : Data → Option ExtractorKind
grok_kind_in d = do
  pattern ← at as_str (codes "pattern") d
  unless_target d (kinds.Grok pattern)

-- what a value is read as by the name of its kind
abbrev pub of_kind : {A : Type 0} → List (List ℕ × (Data → Option A)) → Data → List ℕ → Option A
of_kind readers d kind = lookup (λ name. bytes_eq kind name) readers >>= λ reader. reader d

abbrev pub extractor_kinds : List (List ℕ × (Data → Option ExtractorKind))
extractor_kinds =
    (codes "regex", regex_in) ∷ (codes "substring", substring_in) ∷ (codes "split", split_in) ∷ (codes "grok", grok_kind_in) ∷ (codes "json", λ d. unless_target d kinds.Json) ∷ []

unfoldable pub extractor_kind_in : Data → Option ExtractorKind
extractor_kind_in d = at as_str (codes "kind") d >>= of_kind extractor_kinds d

unfoldable pub extractor_in : Data → Option ExtractorParts
extractor_in d = do
  kind ← extractor_kind_in d
  source ← at as_str (codes "source") d
  cut ← at as_bool (codes "cut") d
  condition ← at condition_in (codes "condition") d
  converters ← list_at converter_in (codes "converters") d
  unless_more extractor_data d (record { kind = kind; source = source; cut = cut; condition = condition; converters = converters })

-- Commands.

unfoldable pub input_in : Data → Option Command
input_in d = do
  name ← at as_str (codes "name") d
  kind ← said_at kind_named (codes "type") d
  Some (CreateInput name kind)

unfoldable pub extractors_in : Data → Option Command
extractors_in d = do
  input ← at as_str (codes "input") d
  extractors ← list_at extractor_in (codes "extractors") d
  Some (SetExtractors input extractors)

unfoldable pub index_set_in : Data → Option Command
index_set_in d = do
  name ← at as_str (codes "name") d
  max_docs ← number_at (codes "max_docs") d
  max_ms ← number_at (codes "max_ms") d
  keep ← number_at (codes "keep") d
  Some (CreateIndexSet name max_docs max_ms keep)

unfoldable pub stream_in : Data → Option Command
stream_in d = do
  name ← at as_str (codes "name") d
  index_set ← at as_str (codes "index_set") d
  any ← at as_bool (codes "any") d
  removes ← at as_bool (codes "remove_from_default") d
  rules ← list_at rule_in (codes "rules") d
  Some (CreateStream name index_set any removes rules)

unfoldable pub setting_in : Data → Option Command
setting_in d = do
  id ← said_at read_id (codes "id") d
  any ← at as_bool (codes "any") d
  removes ← at as_bool (codes "remove_from_default") d
  paused ← at as_bool (codes "paused") d
  rules ← list_at rule_in (codes "rules") d
  Some (SetStream id any removes paused rules)

abbrev pub source_in : (List ℕ → Command) → Data → Option Command
source_in make d = at as_str (codes "source") d >>= λ source. Some (make source)

unfoldable pub connection_in : Data → Option Command
connection_in d = do
  stream ← said_at read_id (codes "stream") d
  pipelines ← list_at as_str (codes "pipelines") d
  Some (Connect stream pipelines)

-- name, text, key's column and value's column
unfoldable pub table_parts : Data → Option (List ℕ × List ℕ × List ℕ × List ℕ)
table_parts d = do
  name ← at as_str (codes "name") d
  csv ← at as_str (codes "csv") d
  key ← at as_str (codes "key") d
  value ← at as_str (codes "value") d
  Some (name, csv, key, value)

abbrev pub table_in : (List ℕ → List ℕ → List ℕ → List ℕ → Command) → Data → Option Command
table_in make d = table_parts d >>= λ parts. Some (make parts.0 parts.1 parts.2 parts.3)

-- name and pattern
unfoldable pub grok_parts : Data → Option (List ℕ × List ℕ)
grok_parts d = do
  name ← at as_str (codes "name") d
  pattern ← at as_str (codes "pattern") d
  Some (name, pattern)

abbrev pub grok_in : (List ℕ → List ℕ → Command) → Data → Option Command
grok_in make d = grok_parts d >>= λ parts. Some (make parts.0 parts.1)

-- name, hash of the token, whether it is an administrator, and streams
unfoldable pub user_parts : Data → Option (List ℕ × List ℕ × Bool × List ℕ)
user_parts d = do
  name ← at as_str (codes "name") d
  hash ← at as_str (codes "token_sha256") d
  admin ← at as_bool (codes "admin") d
  streams ← list_at id_in (codes "streams") d
  Some (name, hash, admin, streams)

abbrev pub user_in : (List ℕ → List ℕ → Bool → List ℕ → Command) → Data → Option Command
user_in make d = user_parts d >>= λ parts. Some (make parts.0 parts.1 parts.2 parts.3)

abbrev pub command_kinds : List (List ℕ × (Data → Option Command))
command_kinds =
    (codes "create_input", input_in)
    ∷ (codes "set_extractors", extractors_in)
    ∷ (codes "create_index_set", index_set_in)
    ∷ (codes "create_stream", stream_in)
    ∷ (codes "set_stream", setting_in)
    ∷ (codes "create_rule", source_in CreateRule)
    ∷ (codes "set_rule", source_in SetRule)
    ∷ (codes "create_pipeline", source_in CreatePipeline)
    ∷ (codes "set_pipeline", source_in SetPipeline)
    ∷ (codes "connect", connection_in)
    ∷ (codes "create_lookup", table_in CreateLookup)
    ∷ (codes "set_lookup", table_in SetLookup)
    ∷ (codes "create_grok", grok_in CreateGrok)
    ∷ (codes "set_grok", grok_in SetGrok)
    ∷ (codes "create_user", user_in CreateUser)
    ∷ (codes "set_user", user_in SetUser) ∷ []

-- the command of a value's keys, however long its text is
unfoldable pub keys_in : Data → Option Command
keys_in d = do
  kind ← at as_str (codes "kind") d
  command ← of_kind command_kinds d kind
  unless_more command_data d command

-- its text has at most 4,194,299 bytes
abbrev pub unless_long : Command → Option Command
unless_long command = if nat_lt 4194299 (length (command_bytes command)) then None else Some command

-- the command that a value is
unfoldable pub command_of : Data → Option Command
command_of d = keys_in d >>= unless_long

-- a command whose text is this one
abbrev pub unless_other : List ℕ → Command → Option Command
unless_other text command = if bytes_eq text (command_bytes command) then Some command else None

-- the command of which this is the kept text: other spaces, another order of the keys or another spelling make it none
unfoldable pub command_in : List ℕ → Option Command
command_in text = if is_utf8 text then (do
  d ← read text
  command ← command_of d
  unless_other text command) else None

-- What a reader answers.

abbrev pub IsOther : {Y : Type 0} → Unread → Option Y → Type 0
IsOther unread.Other read = read ≡ None
IsOther unread.OutOfMemory read = ⊤

-- it gives what the value is read as, seen so, and refuses what isn't read; memory may be wanting
abbrev pub Gives : {X Y : Type 0} → (X → Y) → Result X Unread → Option Y → Type 0
Gives seen (Ok x) read = read ≡ Some (seen x)
Gives seen (Err stop) read = IsOther stop read

abbrev pub Reads : {X : Type 0} → Result X Unread → Option X → Type 0
Reads result read = Gives (λ x. x) result read
