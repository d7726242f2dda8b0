-- What every configuration keeps that commands make of that of a new store (this project).
use Rattle.std.specs.Prelude.{◌≡◌, ⊤, ℕ, ◌<◌, Bool, true, false, not, ◌&&◌, ◌==◌, List, length, map, None, IsOk}
use Rattle.std.specs.List.{All, list_any, range_with_len}
use Rattle.std.specs.Str.{bytes_eq}
use Rattle.gl_fields.specs.Fields.{Rises, comes_before}
use Rattle.gl_fields.specs.declared.set_rule.SetRule.{SetRule}
use Rattle.gl_streams.specs.declared.stream.Stream.{Stream}
use Rattle.gl_extract.specs.declared.parts.ExtractorKind.{ExtractorKind}
use Rattle.gl_extract.specs.declared.parts.ExtractorKind.TheVariants.{Grok}
use Rattle.gl_extract.specs.declared.parts.ExtractorParts.{ExtractorParts}
use Rattle.gl_grok.specs.Tables.{Table}
use Rattle.gl_grok.specs.Answers.{answer}
use Rattle.gl_rulelang.specs.declared.pipeline.Pipeline.{Pipeline}
use Rattle.gl_rulelang.specs.Tree.{RuleTree}
use Rattle.gl_check.specs.Checking.{first_fault}
use Rattle.gl_settings.specs.declared.input.Input.{Input}
use Rattle.gl_settings.specs.declared.user.User.{User}
use Rattle.gl_settings.specs.Settings.{Settings, has_name, rules_named}
use Rattle.gl_settings.specs.Limits.{limit_of}

-- Names.

-- names rise byte by byte, so that no two are equal
abbrev pub Rising : List (List ℕ) → Type 0
Rising names = Rises (λ name later. comes_before name later ≡ true) names

-- no two names are equal, in whatever order they stand
abbrev pub Differ : List (List ℕ) → Type 0
Differ names = Rises (λ name later. bytes_eq later name ≡ false) names

-- the keys of a table, and what they stand for
abbrev pub keys : {X : Type 0} → List (List ℕ × X) → List (List ℕ)
keys table = map (λ entry. entry.0) table

abbrev pub values : {X : Type 0} → List (List ℕ × X) → List X
values table = map (λ entry. entry.1) table

-- Patterns of grok.

-- the pattern becomes an expression by this table
abbrev pub Expands : Table → List ℕ → Type 0
Expands groks pattern = IsOk (answer groks pattern)

-- of the kinds of extractors that of grok asks for it
abbrev pub KindExpands : Table → ExtractorKind → Type 0
KindExpands groks (Grok pattern) = Expands groks pattern
KindExpands groks other = ⊤

-- Each part, with what it refers to.

-- the names of inputs differ, and their patterns of grok expand
pub record AreInputs (groks : Table) (inputs : List Input) : Type 0 where
  pub names : Differ (map (λ (input : Input). input.name) inputs)
  pub expand : All (λ (input : Input). All (λ (parts : ExtractorParts). KindExpands groks parts.kind) input.extractors) inputs

-- the names of index sets rise, and each keeps an index at least
pub record AreSets (sets : List SetRule) : Type 0 where
  pub names : Rising (map (λ (set : SetRule). set.name) sets)
  pub keep : All (λ (set : SetRule). 0 < set.keep) sets

-- the ids of streams are 1, 2 and so on, their names differ, and their index sets are there
pub record AreStreams (sets : List SetRule) (streams : List Stream) : Type 0 where
  pub ids : map (λ (stream : Stream). stream.id) streams ≡ range_with_len 1 (length streams)
  pub names : Differ (map (λ (stream : Stream). stream.name) streams)
  pub known_sets : All (λ (stream : Stream). has_name (λ (set : SetRule). set.name) stream.index_set sets ≡ true) streams

-- the names of rules rise, and no rule has a fault
pub record AreRules (rules : List RuleTree) : Type 0 where
  pub names : Rising (map (λ (rule : RuleTree). rule.name) rules)
  pub lawful : All (λ rule. first_fault rule ≡ None) rules

abbrev pub IsRule : List RuleTree → List ℕ → Type 0
IsRule rules name = has_name (λ (rule : RuleTree). rule.name) name rules ≡ true

-- the names of pipelines rise, and their rules are there
pub record ArePipelines (rules : List RuleTree) (pipelines : List Pipeline) : Type 0 where
  pub names : Rising (map (λ (pipeline : Pipeline). pipeline.name) pipelines)
  pub known_rules : All (λ (pipeline : Pipeline). All (IsRule rules) (rules_named pipeline)) pipelines

abbrev pub IsStreamId : List Stream → ℕ → Type 0
IsStreamId streams id = list_any (λ (stream : Stream). stream.id == id) streams ≡ true

abbrev pub IsPipelineName : List Pipeline → List ℕ → Type 0
IsPipelineName pipelines name = has_name (λ (pipeline : Pipeline). pipeline.name) name pipelines ≡ true

-- the streams of connections rise and are there, as their pipelines are
pub record AreConnections (streams : List Stream) (pipelines : List Pipeline) (connections : List (ℕ × List (List ℕ))) : Type 0 where
  pub rise : Rises (λ (a b : ℕ × List (List ℕ)). a.0 < b.0) connections
  pub known_streams : All (λ (connection : ℕ × List (List ℕ)). IsStreamId streams connection.0) connections
  pub known_pipelines : All (λ (connection : ℕ × List (List ℕ)). All (IsPipelineName pipelines) connection.1) connections

-- the names of patterns of grok rise, and each pattern expands
pub record AreGroks (groks : Table) : Type 0 where
  pub names : Rising (keys groks)
  pub expand : All (Expands groks) (values groks)

-- two users of different names have one hash
abbrev pub shares : User → User → Bool
shares user other = not (bytes_eq user.name other.name) && bytes_eq user.token_sha256 other.token_sha256

-- the names of users rise, no two have one hash, and their streams are there
pub record AreUsers (streams : List Stream) (users : List User) : Type 0 where
  pub names : Rising (map (λ (user : User). user.name) users)
  pub hashes : All (λ (user : User). list_any (shares user) users ≡ false) users
  pub known_streams : All (λ (user : User). All (IsStreamId streams) user.streams) users

-- each part is as it must be, and all keep the limits
pub record IsSettings (c : Settings) : Type 0 where
  pub inputs : AreInputs c.groks c.inputs
  pub sets : AreSets c.sets
  pub streams : AreStreams c.sets c.streams
  pub rules : AreRules c.rules
  pub pipelines : ArePipelines c.rules c.pipelines
  pub connections : AreConnections c.streams c.pipelines c.connections
  pub lookups : Rising (keys c.lookups)
  pub groks : AreGroks c.groks
  pub users : AreUsers c.streams c.users
  pub limits : limit_of c ≡ None
