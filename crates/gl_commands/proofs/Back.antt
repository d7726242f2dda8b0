-- The object of a command is read as the command.
use Rattle.std.specs.Prelude.{◌≡◌, ◌==◌, ◌≤◌, ℕ, Bool, true, List, [], ◌∷◌, map, Option, Some, None, option_map, option_and_then}
use Rattle.std.specs.List.{All}
use Rattle.std.proofs.Common.{refl, ap, ◌∙◌, arith}
use Rattle.std.proofs.lemmas.Bool.{le-ltb}
use Rattle.std.proofs.lemmas.Bool.Decides.{Decides-eqb}
use Rattle.std.proofs.lemmas.List.Elements.{All-head, All-tail}
use Rattle.serde_json.specs.Data.{Data, string}
use Rattle.serde_json.specs.Find.{as_str}
use Rattle.serde_json.specs.View.{items_of}
use Rattle.gl_fields.specs.declared.input_kind.InputKind.{InputKind}
use Rattle.gl_fields.specs.declared.input_kind.InputKind.TheVariants.{Raw, Gelf, Syslog}
use Rattle.gl_extract.specs.declared.parts.ExtractorKind.{ExtractorKind}
use Rattle.gl_extract.specs.declared.parts.ExtractorKind.TheVariants as kinds
use Rattle.gl_extract.specs.declared.parts.Condition.{Condition}
use Rattle.gl_extract.specs.declared.parts.Condition.TheVariants as conditions
use Rattle.gl_extract.specs.declared.parts.Converter.{Converter}
use Rattle.gl_extract.specs.declared.parts.Converter.TheVariants.{Numeric, Lowercase, Uppercase, SyslogLevel, SyslogFacility}
use Rattle.gl_extract.specs.declared.parts.ExtractorParts.{ExtractorParts}
use Rattle.gl_text.specs.Ids.{id_text, read_id}
use Rattle.gl_text.proofs.Ids.{read_id-id_text}
use Rattle.gl_commands.specs.declared.command.TestKind.{TestKind}
use Rattle.gl_commands.specs.declared.command.TestKind.TheVariants.{Exact, Regex, Greater, Smaller, Presence, Contains, Always}
use Rattle.gl_commands.specs.declared.command.RuleParts.{RuleParts}
use Rattle.gl_commands.specs.declared.command.Command.{Command}
use Rattle.gl_commands.specs.declared.command.Command.TheVariants.{CreateInput, SetExtractors, CreateIndexSet, CreateStream, SetStream, CreateRule, SetRule, CreatePipeline, SetPipeline, Connect, CreateLookup, SetLookup, CreateGrok, SetGrok, CreateUser, SetUser}
use Rattle.gl_commands.specs.Texts.{kind_name, test_name, converter_name, id_data, rule_data, condition_data, extractor_data, command_data, IsNumber, IsId, KindHasNumbers, HasNumbers}
use Rattle.gl_commands.specs.CommandReading.{kind_named, test_named, converter_named, in_range, each_of, converter_in, id_in, rule_in, condition_keys, condition_in, regex_in, substring_in, split_in, unless_target, grok_kind_in, extractor_kind_in, extractor_in, input_in, extractors_in, index_set_in, stream_in, setting_in, connection_in, table_parts, grok_parts, user_parts, keys_in}

kind_back : (kind : InputKind) → kind_named (kind_name kind) ≡ Some kind
unfolding kind_named
kind_back Raw = refl
kind_back Gelf = refl
kind_back Syslog = refl

test_back : (test : TestKind) → test_named (test_name test) ≡ Some test
unfolding test_named
test_back Exact = refl
test_back Regex = refl
test_back Greater = refl
test_back Smaller = refl
test_back Presence = refl
test_back Contains = refl
test_back Always = refl

converter_back : (converter : Converter) → converter_in (string (converter_name converter)) ≡ Some converter
unfolding converter_in converter_named
converter_back Numeric = refl
converter_back Lowercase = refl
converter_back Uppercase = refl
converter_back SyslogLevel = refl
converter_back SyslogFacility = refl

number_back : (n : ℕ) → IsNumber n → in_range n ≡ Some n
number_back n h = rw (le-ltb 9007199254740992 n h) refl

id_back : (id : ℕ) → IsId id → id_in (id_data id) ≡ Some id
unfolding id_in
id_back id h = read_id-id_text id h

each_back : {A : Type 0} (form : Data → Option A) (value_of : A → Data) → ((x : A) → form (value_of x) ≡ Some x) → (xs : List A) → each_of form (items_of (map value_of xs)) ≡ Some xs
each_back form value_of one [] = refl
each_back form value_of one (x ∷ xs) = rw (one x, each_back form value_of one xs) refl

each_back_where : {A : Type 0} (P : A → Type 0) (form : Data → Option A) (value_of : A → Data) → ((x : A) → P x → form (value_of x) ≡ Some x) → (xs : List A) → All P xs
    → each_of form (items_of (map value_of xs)) ≡ Some xs
each_back_where P form value_of one [] h = refl
each_back_where P form value_of one (x ∷ xs) h = rw (one x (All-head P x xs h), each_back_where P form value_of one xs (All-tail P x xs h)) refl

rule_back : (rule : RuleParts) → rule_in (rule_data rule) ≡ Some rule
unfolding rule_in
rule_back rule = rw (test_back rule.test) refl

rules_back : (rules : List RuleParts) → each_of rule_in (items_of (map rule_data rules)) ≡ Some rules
rules_back rules = each_back rule_in rule_data rule_back rules

condition_back : (condition : Condition) → condition_in (condition_data condition) ≡ Some condition
unfolding condition_in condition_keys
condition_back conditions.None = refl
condition_back (conditions.Contains part) = refl
condition_back (conditions.Regex pattern) = refl

converters_back : (converters : List Converter) → each_of converter_in (items_of (map (λ converter. string (converter_name converter)) converters)) ≡ Some converters
converters_back converters = each_back converter_in (λ converter. string (converter_name converter)) converter_back converters

by_kind : (source : List ℕ) (cut : Bool) (condition : Condition) (converters : List Converter) (kind : ExtractorKind) → KindHasNumbers kind
    → extractor_in (extractor_data (record { kind = kind; source = source; cut = cut; condition = condition; converters = converters }))
    ≡ Some (record { kind = kind; source = source; cut = cut; condition = condition; converters = converters })
unfolding extractor_in extractor_kind_in regex_in substring_in split_in unless_target grok_kind_in
by_kind source cut condition converters (kinds.Regex pattern target) h = rw (condition_back condition, converters_back converters) refl
by_kind source cut condition converters (kinds.Substring begin end target) h =
    rw (number_back begin h.0, number_back end h.1, condition_back condition, converters_back converters) refl
by_kind source cut condition converters (kinds.Split by index target) h = rw (number_back index h, condition_back condition, converters_back converters) refl
by_kind source cut condition converters (kinds.Grok pattern) h = rw (condition_back condition, converters_back converters) refl
by_kind source cut condition converters kinds.Json h = rw (condition_back condition, converters_back converters) refl

extractor_back : (parts : ExtractorParts) → KindHasNumbers parts.kind → extractor_in (extractor_data parts) ≡ Some parts
extractor_back parts h = by_kind parts.source parts.cut parts.condition parts.converters parts.kind h

extractors_back : (extractors : List ExtractorParts) → All (λ (parts : ExtractorParts). KindHasNumbers parts.kind) extractors → each_of extractor_in (items_of (map extractor_data extractors)) ≡ Some extractors
extractors_back extractors h = each_back_where (λ (parts : ExtractorParts). KindHasNumbers parts.kind) extractor_in extractor_data extractor_back extractors h

ids_back : (ids : List ℕ) → All IsId ids → each_of id_in (items_of (map id_data ids)) ≡ Some ids
ids_back ids h = each_back_where IsId id_in id_data id_back ids h

names_back : (names : List (List ℕ)) → each_of as_str (items_of (map string names)) ≡ Some names
names_back names = each_back as_str string (λ name. refl) names

pub keys_back : (command : Command) → HasNumbers command → keys_in (command_data command) ≡ Some command
unfolding keys_in command_data input_in extractors_in index_set_in stream_in setting_in connection_in table_parts grok_parts user_parts
keys_back (CreateInput name kind) h = rw (kind_back kind) refl
keys_back (SetExtractors input extractors) h = rw (extractors_back extractors h) refl
keys_back (CreateIndexSet name max_docs max_ms keep) h = rw (number_back max_docs h.0, number_back max_ms h.1, number_back keep h.2) refl
keys_back (CreateStream name index_set any removes rules) h = rw (rules_back rules) refl
keys_back (SetStream id any removes paused rules) h = rw (read_id-id_text id h, rules_back rules) refl
keys_back (CreateRule source) h = refl
keys_back (SetRule source) h = refl
keys_back (CreatePipeline source) h = refl
keys_back (SetPipeline source) h = refl
keys_back (Connect stream pipelines) h = rw (read_id-id_text stream h, names_back pipelines) refl
keys_back (CreateLookup name csv key value) h = refl
keys_back (SetLookup name csv key value) h = refl
keys_back (CreateGrok name pattern) h = refl
keys_back (SetGrok name pattern) h = refl
keys_back (CreateUser name hash admin streams) h = rw (ids_back streams h) refl
keys_back (SetUser name hash admin streams) h = rw (ids_back streams h) refl
