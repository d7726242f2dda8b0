-- Why a command is refused, and what it makes of a configuration (this project). Of each kind the causes stand in the order
-- in which they count: a text that doesn't read, a bad name, a taken one, an unknown one, a bad text, a limit, the budget.
use Rattle.std.specs.Prelude.{◌≡◌, ⊤, ℕ, Bool, not, ◌&&◌, ◌||◌, ◌==◌, List, [], ◌∷◌, map, if◌then◌else◌, Option, Some, None, is_some, option_map, Result, Ok, Err}
use Rattle.std.specs.List.{list_all, list_any}
use Rattle.std.specs.Option.{option_or}
use Rattle.std.specs.Result.{result_err}
use Rattle.std.specs.Str.{bytes_eq}
use Rattle.gl_fields.specs.Fields.{is_field_name}
use Rattle.gl_rulelang.specs.declared.refusal.TextRefusal.{TextRefusal}
use Rattle.gl_rulelang.specs.declared.refusal.TextRefusal.TheVariants.{BadToken, Unexpected, TooDeep}
use Rattle.gl_rulelang.specs.declared.pipeline.Pipeline.{Pipeline}
use Rattle.gl_rulelang.specs.Tree.{RuleTree}
use Rattle.gl_rulelang.specs.Faults.{Fault, bad_token, unexpected, too_deep}
use Rattle.gl_rulelang.specs.Rules.{rule_text}
use Rattle.gl_rulelang.specs.Pipelines.{pipeline_text}
use Rattle.gl_check.specs.Checking.{first_fault}
use Rattle.gl_grok.specs.Answers.{answer}
use Rattle.gl_grok.specs.Pieces.{is_pattern_name}
use Rattle.gl_grok.specs.Tables.{Table, is_known, with_pattern}
use Rattle.gl_lookup.specs.Rows.{rows_of}
use Rattle.gl_lookup.specs.Tables.{table_of}
use Rattle.gl_extract.specs.declared.parts.ExtractorKind.{ExtractorKind}
use Rattle.gl_extract.specs.declared.parts.ExtractorKind.TheVariants.{Grok as GrokKind}
use Rattle.gl_extract.specs.declared.parts.ExtractorParts.{ExtractorParts}
use Rattle.gl_extract.specs.Refusals.{refusal_of}
use Rattle.gl_commands.specs.declared.command.RuleParts.{RuleParts}
use Rattle.gl_commands.specs.declared.command.Command.{Command}
use Rattle.gl_commands.specs.declared.command.Command.TheVariants.{CreateInput, SetExtractors, CreateIndexSet, CreateStream, SetStream, CreateRule, SetRule as ChangeRule, CreatePipeline, SetPipeline, Connect, CreateLookup, SetLookup, CreateGrok, SetGrok, CreateUser, SetUser}
use Rattle.gl_settings.specs.declared.refusal.Text.{Text}
use Rattle.gl_settings.specs.declared.refusal.Text.TheVariants.{Rule, Check, Grok, Csv, Extract, Number, Hash}
use Rattle.gl_settings.specs.declared.refusal.ConfigRefusal.{ConfigRefusal}
use Rattle.gl_settings.specs.declared.refusal.ConfigRefusal.TheVariants.{BadName, NameTaken, UnknownName, BadText, OutOfMemory}
use Rattle.gl_settings.specs.declared.input.Input.{Input}
use Rattle.gl_config.specs.declared.own.Own.{Own}
use Rattle.gl_config.specs.declared.own.Own.TheVariants.{Created, Changed}
use Rattle.gl_settings.specs.Names.{is_short_name, is_title, is_hash}
use Rattle.gl_settings.specs.Settings.{Settings, has_input, has_set, has_stream_named, has_stream, has_rule, has_pipeline, has_lookup, has_user, rules_named}
use Rattle.gl_settings.specs.Limits.{limit_of}
use Rattle.gl_config.specs.Next.{rule_of, next_settings}

-- Causes.

abbrev pub Cause : Type 0
Cause = Option ConfigRefusal

-- the first of these causes
abbrev pub first_of : List Cause → Cause
first_of [] = None
first_of (cause ∷ causes) = option_or cause (first_of causes)

abbrev pub unless : Bool → ConfigRefusal → Cause
unless fine refusal = if fine then None else Some refusal

-- its own name isn't of the form, unless this is true
abbrev pub named : Bool → Cause
named good = unless good BadName

-- what is created is there already
abbrev pub created : Bool → Cause
created there = unless (not there) NameTaken

-- what is changed, or referred to, isn't there
abbrev pub known : Bool → Cause
known there = unless there UnknownName

abbrev pub lower : {A : Type 0} → (A → Text) → Option A → Cause
lower text refusal = option_map (λ r. BadText (text r)) refusal

-- Texts.

abbrev pub text_refusal : Fault → TextRefusal
text_refusal (bad_token at) = BadToken at
text_refusal (unexpected at) = Unexpected at
text_refusal too_deep = TooDeep

-- a source doesn't read
abbrev pub text_cause : {A : Type 0} → Result A Fault → Cause
text_cause (Ok read) = None
text_cause (Err fault) = Some (BadText (Rule (text_refusal fault)))

-- a rule that reads has a fault
abbrev pub check_cause : RuleTree → Cause
check_cause rule = lower Check (first_fault rule)

-- a text makes no lookup table
abbrev pub csv_cause : List ℕ → List ℕ → List ℕ → Cause
csv_cause csv key value = lower Csv (result_err (table_of key value (rows_of csv)))

-- the pattern isn't expanded by this table
abbrev pub grok_cause : Table → List ℕ → Cause
grok_cause groks pattern = lower Grok (result_err (answer groks pattern))

abbrev pub kind_cause : Table → ExtractorKind → Cause
kind_cause groks (GrokKind pattern) = grok_cause groks pattern
kind_cause groks kind = None

-- the parts make no extractor, or its grok pattern isn't expanded
abbrev pub extractor_cause : Table → ExtractorParts → Cause
extractor_cause groks parts = option_or (lower Extract (refusal_of parts)) (kind_cause groks parts.kind)

-- a name of a field that a rule tests
abbrev pub fields_are_named : List RuleParts → Bool
fields_are_named rules = list_all (λ rule. is_field_name rule.field) rules

-- a rule compares with a number, and its value writes none
abbrev pub number_cause : List RuleParts → Cause
number_cause rules = unless (list_all (λ rule. is_some (rule_of rule)) rules) (BadText Number)

-- With a changed table a pattern isn't expanded that was before: the first named one, or else the first of the extractors, by
-- input and place.

abbrev pub groks_cause : Table → Cause
groks_cause groks = first_of (map (λ entry. grok_cause groks entry.1) groks)

abbrev pub kinds_cause : Table → List ExtractorParts → Cause
kinds_cause groks extractors = first_of (map (λ (extractor : ExtractorParts). kind_cause groks extractor.kind) extractors)

abbrev pub inputs_cause : Table → List Input → Cause
inputs_cause groks inputs = first_of (map (λ (input : Input). kinds_cause groks input.extractors) inputs)

abbrev pub others_cause : Settings → Table → Cause
others_cause c groks = option_or (groks_cause groks) (inputs_cause groks c.inputs)

-- another user has this hash
abbrev pub is_anothers : Settings → List ℕ → List ℕ → Bool
is_anothers c name hash = list_any (λ user. not (bytes_eq name user.name) && bytes_eq hash user.token_sha256) c.users

-- what is created isn't there yet, and what is changed is
abbrev pub own_cause : Own → Bool → Cause
own_cause Created there = created there
own_cause Changed there = known there

-- a name isn't of the form, or it is there, or isn't
abbrev pub name_cause : Own → List ℕ → Bool → Cause
name_cause own name there = option_or (named (is_short_name name)) (own_cause own there)

abbrev pub title_cause : Own → List ℕ → Bool → Cause
title_cause own name there = option_or (named (is_title name)) (own_cause own there)

-- Each kind: the first of its causes.

abbrev pub input_refusal : Settings → List ℕ → Cause
input_refusal c name = first_of (named (is_short_name name) ∷ created (has_input c name) ∷ [])

abbrev pub extractors_refusal : Settings → List ℕ → List ExtractorParts → Cause
extractors_refusal c input extractors = option_or (known (has_input c input)) (first_of (map (extractor_cause c.groks) extractors))

abbrev pub set_refusal : Settings → List ℕ → ℕ → Cause
set_refusal c name keep = first_of (
    named (is_short_name name)
    ∷ created (has_set c name)
    ∷ unless (not (keep == 0)) (BadText Number) ∷ [])

abbrev pub stream_names : Settings → List ℕ → List ℕ → List RuleParts → Cause
stream_names c name index_set rules = first_of (
    named (is_title name && fields_are_named rules)
    ∷ created (has_stream_named c name)
    ∷ known (has_set c index_set) ∷ [])

abbrev pub stream_refusal : Settings → List ℕ → List ℕ → List RuleParts → Cause
stream_refusal c name index_set rules = option_or (stream_names c name index_set rules) (number_cause rules)

-- the default stream can't be changed
abbrev pub setting_names : Settings → ℕ → List RuleParts → Cause
setting_names c id rules = first_of (
    named (fields_are_named rules)
    ∷ known (not (id == 1) && has_stream c id) ∷ [])

abbrev pub setting_refusal : Settings → ℕ → List RuleParts → Cause
setting_refusal c id rules = option_or (setting_names c id rules) (number_cause rules)

abbrev pub rule_refusal : Own → Settings → Result RuleTree Fault → Cause
rule_refusal own c (Err fault) = text_cause {A = RuleTree} (Err fault)
rule_refusal own c (Ok rule) = option_or (title_cause own rule.name (has_rule c rule.name)) (check_cause rule)

abbrev pub pipeline_refusal : Own → Settings → Result Pipeline Fault → Cause
pipeline_refusal own c (Err fault) = text_cause {A = Pipeline} (Err fault)
pipeline_refusal own c (Ok pipeline) =
    option_or (title_cause own pipeline.name (has_pipeline c pipeline.name)) (known (list_all (has_rule c) (rules_named pipeline)))

abbrev pub connection_refusal : Settings → ℕ → List (List ℕ) → Cause
connection_refusal c stream pipelines = known (has_stream c stream && list_all (has_pipeline c) pipelines)

abbrev pub lookup_refusal : Own → Settings → List ℕ → List ℕ → List ℕ → List ℕ → Cause
lookup_refusal own c name csv key value = option_or (name_cause own name (has_lookup c name)) (csv_cause csv key value)

abbrev pub grok_name_cause : Own → Settings → List ℕ → Cause
grok_name_cause own c name = option_or (named (is_pattern_name name)) (own_cause own (is_known c.groks name))

-- the own pattern is tried in the next table, and where it was there before, all others are
abbrev pub new_grok_refusal : Settings → List ℕ → List ℕ → Cause
new_grok_refusal c name pattern =
    option_or (grok_name_cause Created c name) (grok_cause (with_pattern c.groks name pattern) pattern)

abbrev pub grok_refusal : Settings → List ℕ → List ℕ → Cause
grok_refusal c name pattern =
    option_or (grok_name_cause Changed c name)
    (option_or (grok_cause (with_pattern c.groks name pattern) pattern) (others_cause c (with_pattern c.groks name pattern)))

abbrev pub new_user_refusal : Settings → List ℕ → List ℕ → List ℕ → Cause
new_user_refusal c name hash streams = first_of (
    named (is_short_name name)
    ∷ created (has_user c name || is_anothers c name hash)
    ∷ known (list_all (has_stream c) streams)
    ∷ unless (is_hash hash) (BadText Hash) ∷ [])

-- another's hash is told before an unknown name
abbrev pub user_refusal : Settings → List ℕ → List ℕ → List ℕ → Cause
user_refusal c name hash streams = first_of (
    named (is_short_name name)
    ∷ created (is_anothers c name hash)
    ∷ known (has_user c name && list_all (has_stream c) streams)
    ∷ unless (is_hash hash) (BadText Hash) ∷ [])

-- why a command is refused, whatever the limits: the first of its kind's causes
unfoldable pub first_refusal : Settings → Command → Cause
first_refusal c (CreateInput name kind) = input_refusal c name
first_refusal c (SetExtractors input extractors) = extractors_refusal c input extractors
first_refusal c (CreateIndexSet name max_docs max_ms keep) = set_refusal c name keep
first_refusal c (CreateStream name index_set any removes rules) = stream_refusal c name index_set rules
first_refusal c (SetStream id any removes paused rules) = setting_refusal c id rules
first_refusal c (CreateRule source) = rule_refusal Created c (rule_text source)
first_refusal c (ChangeRule source) = rule_refusal Changed c (rule_text source)
first_refusal c (CreatePipeline source) = pipeline_refusal Created c (pipeline_text source)
first_refusal c (SetPipeline source) = pipeline_refusal Changed c (pipeline_text source)
first_refusal c (Connect stream pipelines) = connection_refusal c stream pipelines
first_refusal c (CreateLookup name csv key value) = lookup_refusal Created c name csv key value
first_refusal c (SetLookup name csv key value) = lookup_refusal Changed c name csv key value
first_refusal c (CreateGrok name pattern) = new_grok_refusal c name pattern
first_refusal c (SetGrok name pattern) = grok_refusal c name pattern
first_refusal c (CreateUser name hash admin streams) = new_user_refusal c name hash streams
first_refusal c (SetUser name hash admin streams) = user_refusal c name hash streams

-- what a call made, where there is no cause against it
abbrev pub Makes : Cause → Settings → Settings → Type 0
Makes cause next made = (cause ≡ None) × (made ≡ next)

abbrev pub refused_by : Cause → Settings → Result Settings ConfigRefusal
refused_by None next = Ok next
refused_by (Some refusal) next = Err refusal

-- the configuration behind a command, or the first reason for which it is refused
unfoldable pub applied : Settings → Command → Result Settings ConfigRefusal
applied c command = refused_by (option_or (first_refusal c command) (limit_of (next_settings c command))) (next_settings c command)

-- what was answered is what is expected, unless memory ran out
abbrev pub Answers : Result Settings ConfigRefusal → Result Settings ConfigRefusal → Type 0
Answers (Ok settings) expected = expected ≡ Ok settings
Answers (Err OutOfMemory) expected = ⊤
Answers (Err refusal) expected = expected ≡ Err refusal
