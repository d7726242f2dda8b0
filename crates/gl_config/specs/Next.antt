-- The configuration that a command makes of one, where nothing refuses it (this project).
use Rattle.std.specs.Prelude.{ℕ, ◌+◌, Bool, false, ◌==◌, List, [], ◌∷◌, ◌++◌, length, map, Option, Some, option_map, option_to_list, Result, Ok, Err, if◌then◌else◌}
use Rattle.std.specs.List.{flat_map}
use Rattle.std.specs.Str.{bytes_eq}
use Rattle.std.specs.BTreeMap.{insert_entry}
use Rattle.std.specs.Ordering.{nat_cmp}
use Rattle.std.specs.Cmp.Lexicographic.{slice_cmp}
use Rattle.gl_fields.specs.declared.set_rule.SetRule.{SetRule}
use Rattle.gl_streams.specs.declared.stream.Stream.{Stream}
use Rattle.gl_streams.specs.declared.stream.StreamRule.{StreamRule}
use Rattle.gl_streams.specs.declared.stream.Test.{Test}
use Rattle.gl_streams.specs.declared.stream.Test.TheVariants as tests
use Rattle.gl_extract.specs.declared.parts.ExtractorParts.{ExtractorParts}
use Rattle.gl_text.specs.Numbers.{whole_number}
use Rattle.gl_rulelang.specs.declared.pipeline.Pipeline.{Pipeline}
use Rattle.gl_rulelang.specs.Tree.{RuleTree}
use Rattle.gl_rulelang.specs.Faults.{Fault}
use Rattle.gl_rulelang.specs.Rules.{rule_text}
use Rattle.gl_rulelang.specs.Pipelines.{pipeline_text}
use Rattle.gl_grok.specs.Tables.{with_pattern}
use Rattle.gl_lookup.specs.declared.refusal.LookupRefusal.{LookupRefusal}
use Rattle.gl_lookup.specs.Rows.{rows_of}
use Rattle.gl_lookup.specs.Tables.{Pair, table_of}
use Rattle.gl_commands.specs.declared.command.TestKind.{TestKind}
use Rattle.gl_commands.specs.declared.command.TestKind.TheVariants.{Exact, Regex, Greater, Smaller, Presence, Contains, Always}
use Rattle.gl_commands.specs.declared.command.RuleParts.{RuleParts}
use Rattle.gl_commands.specs.declared.command.Command.{Command}
use Rattle.gl_commands.specs.declared.command.Command.TheVariants.{CreateInput, SetExtractors, CreateIndexSet, CreateStream, SetStream, CreateRule, SetRule as ChangeRule, CreatePipeline, SetPipeline, Connect, CreateLookup, SetLookup, CreateGrok, SetGrok, CreateUser, SetUser}
use Rattle.gl_settings.specs.declared.input.Input.{Input}
use Rattle.gl_settings.specs.declared.user.User.{User}
use Rattle.gl_settings.specs.Settings.{Settings, new_input, placed, connected}

-- Streams.

-- the test that a rule makes, where it compares with a number only if its value writes one
abbrev pub test_of : TestKind → List ℕ → Option Test
test_of Exact value = Some (tests.Exact value)
test_of Regex value = Some (tests.Regex value)
test_of Greater value = option_map tests.Greater (whole_number value)
test_of Smaller value = option_map tests.Smaller (whole_number value)
test_of Presence value = Some tests.Presence
test_of Contains value = Some (tests.Contains value)
test_of Always value = Some tests.Always

abbrev pub rule_of : RuleParts → Option StreamRule
rule_of rule = option_map (λ test. record { field = rule.field; test = test; inverted = rule.inverted }) (test_of rule.test rule.value)

abbrev pub rules_of : List RuleParts → List StreamRule
rules_of rules = flat_map (λ rule. option_to_list (rule_of rule)) rules

-- a new stream's id is the number of streams and one more; it isn't paused
abbrev pub new_stream : Settings → List ℕ → List ℕ → Bool → Bool → List StreamRule → Stream
new_stream c name index_set any removes rules = record {
  id = length c.streams + 1;
  name = name;
  index_set = index_set;
  any = any;
  remove_from_default = removes;
  paused = false;
  rules = rules;
}

-- what the stream of this id does is replaced; its name and its index set stay
abbrev pub stream_set : ℕ → Bool → Bool → Bool → List StreamRule → Stream → Stream
stream_set id any removes paused rules stream =
    if stream.id == id then record stream { any = any; remove_from_default = removes; paused = paused; rules = rules } else stream

-- What is put in its place.

abbrev pub with_extractors : List ℕ → List ExtractorParts → Input → Input
with_extractors name extractors input = if bytes_eq name input.name then record input { extractors = extractors } else input

abbrev pub with_stream : Settings → List ℕ → List ℕ → Bool → Bool → List StreamRule → Settings
with_stream c name index_set any removes rules = record c { streams = c.streams ++ new_stream c name index_set any removes rules ∷ [] }

abbrev pub with_setting : Settings → ℕ → Bool → Bool → Bool → List StreamRule → Settings
with_setting c id any removes paused rules = record c { streams = map (stream_set id any removes paused rules) c.streams }

abbrev pub with_rule : Settings → Result RuleTree Fault → Settings
with_rule c (Err fault) = c
with_rule c (Ok rule) = record c { rules = placed (λ (r : RuleTree). r.name) rule c.rules }

abbrev pub with_pipeline : Settings → Result Pipeline Fault → Settings
with_pipeline c (Err fault) = c
with_pipeline c (Ok pipeline) = record c { pipelines = placed (λ (p : Pipeline). p.name) pipeline c.pipelines }

abbrev pub with_lookup : Settings → List ℕ → Result (List Pair) LookupRefusal → Settings
with_lookup c name (Err refusal) = c
with_lookup c name (Ok table) = record c { lookups = insert_entry (slice_cmp nat_cmp) c.lookups name table }

abbrev pub with_grok : Settings → List ℕ → List ℕ → Settings
with_grok c name pattern = record c { groks = with_pattern c.groks name pattern }

abbrev pub with_user : Settings → List ℕ → List ℕ → Bool → List ℕ → Settings
with_user c name hash admin streams = record c {
  users = placed (λ (user : User). user.name) (record { name = name; token_sha256 = hash; admin = admin; streams = streams }) c.users;
}

-- what a command changes
abbrev pub changed : Settings → Command → Settings
changed c (CreateInput name kind) = record c { inputs = c.inputs ++ new_input name kind ∷ [] }
changed c (SetExtractors input extractors) = record c { inputs = map (with_extractors input extractors) c.inputs }
changed c (CreateIndexSet name max_docs max_ms keep) = record c {
  sets = placed (λ (set : SetRule). set.name) (record { name = name; max_docs = max_docs; max_ms = max_ms; keep = keep }) c.sets;
}
changed c (CreateStream name index_set any removes rules) = with_stream c name index_set any removes (rules_of rules)
changed c (SetStream id any removes paused rules) = with_setting c id any removes paused (rules_of rules)
changed c (CreateRule source) = with_rule c (rule_text source)
changed c (ChangeRule source) = with_rule c (rule_text source)
changed c (CreatePipeline source) = with_pipeline c (pipeline_text source)
changed c (SetPipeline source) = with_pipeline c (pipeline_text source)
changed c (Connect stream pipelines) = record c { connections = connected stream pipelines c.connections }
changed c (CreateLookup name csv key value) = with_lookup c name (table_of key value (rows_of csv))
changed c (SetLookup name csv key value) = with_lookup c name (table_of key value (rows_of csv))
changed c (CreateGrok name pattern) = with_grok c name pattern
changed c (SetGrok name pattern) = with_grok c name pattern
changed c (CreateUser name hash admin streams) = with_user c name hash admin streams
changed c (SetUser name hash admin streams) = with_user c name hash admin streams

-- these settings as those behind the others: under the next version
abbrev pub behind : Settings → Settings → Settings
behind c next = record next { version = c.version + 1 }

-- the next configuration: what the command changes, under the next version
unfoldable pub next_settings : Settings → Command → Settings
next_settings c command = behind c (changed c command)
