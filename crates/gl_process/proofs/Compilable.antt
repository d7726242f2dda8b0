-- Each configuration that commands make can be compiled.
use Rattle.std.proofs.Common.{◌≡◌, ℕ, ◌+◌, ◌<◌, ◌≤◌, Bool, true, false, ◌==◌, cond, List, [], ◌∷◌, ◌++◌, length, map, fold, find, take, drop, nat_lt, Option, Some, None, Result, Ok, Err, refl, sym, ◌∙◌, subst, arith}
use Rattle.std.specs.Prelude.{IsOk, is_ok, option_map, option_and_then, unwrap_or, codes}
use Rattle.std.specs.List.{All}
use Rattle.std.specs.Option.{option_or}
use Rattle.std.specs.Result.{result_err, result_ok}
use Rattle.std.specs.Str.{bytes_eq}
use Rattle.std.proofs.lemmas.Bool.{false≢true}
use Rattle.std.proofs.lemmas.Bool.Decides.{nat_tests}
use Rattle.std.proofs.lemmas.List.{length-append}
use Rattle.std.proofs.lemmas.List.Elements.{All-nil, All-cons, All-push, All-map, All-weaker}
use Rattle.gl_fields.specs.declared.entry.Entry.{Entry}
use Rattle.gl_fields.specs.declared.input_kind.InputKind.TheVariants.{Raw, Gelf, Syslog}
use Rattle.gl_streams.specs.declared.stream.Stream.{Stream}
use Rattle.gl_streams.specs.declared.stream.StreamRule.{StreamRule}
use Rattle.gl_grok.specs.declared.expansion.Expanded.{Expanded}
use Rattle.gl_grok.specs.declared.refusal.GrokRefusal.{GrokRefusal}
use Rattle.gl_grok.specs.Answers.{answer}
use Rattle.gl_grok.specs.Names.{contains, names_met}
use Rattle.gl_grok.specs.Tables.{Table, is_known, with_pattern}
use Rattle.gl_grok.specs.Initial.{initial}
use Rattle.gl_extract.specs.declared.parts.ExtractorKind.{ExtractorKind}
use Rattle.gl_extract.specs.declared.parts.ExtractorKind.TheVariants.{Grok as GrokKind}
use Rattle.gl_extract.specs.declared.parts.ExtractorParts.{ExtractorParts}
use Rattle.gl_extract.specs.Refusals.{refusal_of}
use Rattle.gl_rulelang.specs.declared.pipeline.Pipeline.{Pipeline}
use Rattle.gl_rulelang.specs.Tree.{RuleTree}
use Rattle.gl_rulelang.specs.Faults.{Fault}
use Rattle.gl_rulelang.specs.Rules.{rule_text}
use Rattle.gl_rulelang.specs.Pipelines.{pipeline_text}
use Rattle.gl_lookup.specs.declared.refusal.LookupRefusal.{LookupRefusal}
use Rattle.gl_lookup.specs.Rows.{rows_of}
use Rattle.gl_lookup.specs.Tables.{Pair, table_of}
use Rattle.gl_commands.specs.declared.command.Command.{Command}
use Rattle.gl_commands.specs.declared.command.Command.TheVariants.{CreateInput, SetExtractors, CreateIndexSet, CreateStream, SetStream, CreateRule, SetRule, CreatePipeline, SetPipeline, Connect, CreateLookup, SetLookup, CreateGrok, SetGrok, CreateUser, SetUser}
use Rattle.gl_commands.specs.CommandReading.{command_in}
use Rattle.gl_settings.specs.declared.refusal.Bound.{Bound}
use Rattle.gl_settings.specs.declared.refusal.Bound.TheVariants.{Inputs, IndexSets, Streams}
use Rattle.gl_settings.specs.declared.refusal.ConfigRefusal.{ConfigRefusal}
use Rattle.gl_settings.specs.declared.refusal.ConfigRefusal.TheVariants.{Limit}
use Rattle.gl_settings.specs.declared.refusal.Text.TheVariants.{Grok, Extract}
use Rattle.gl_settings.specs.declared.input.Input.{Input}
use Rattle.gl_settings.specs.Settings.{Settings, initial_settings, default_stream, new_input}
use Rattle.gl_settings.specs.Limits.{limit_of, first_passed, counted, counted_last, budget_refusal}
use Rattle.gl_settings.specs.Patterns.{pattern_bytes}
use Rattle.gl_config.specs.declared.own.Own.TheVariants.{Created, Changed}
use Rattle.gl_config.specs.Next.{with_extractors, stream_set, new_stream, rules_of, with_stream, with_rule, with_pipeline, with_lookup, behind, next_settings}
use Rattle.gl_config.specs.Applying.{Cause, first_of, created, lower, grok_cause, kind_cause, extractor_cause, groks_cause, kinds_cause, inputs_cause, others_cause, known, named, own_cause, grok_name_cause, first_refusal, refused_by, applied}
use Rattle.gl_settings.specs.Settings.{has_input}
use Rattle.gl_grok.specs.Pieces.{is_pattern_name}
use Rattle.gl_history.specs.Versions.{commands_of, accepted, after_command, config_at}
use Rattle.gl_building.specs.Places.{Expands, AllExpand, InputsExpand}
use Rattle.gl_outcome.specs.Compiling.{IsCompilable}

-- Causes.

none_both : (a b : Cause) → option_or a b ≡ None → (a ≡ None) × (b ≡ None)
none_both None b e = (refl, e)
none_both (Some refusal) b e = absurd cc

first_none : {A : Type 0} (f : A → Cause) (xs : List A) → first_of (map f xs) ≡ None → All (λ (x : A). f x ≡ None) xs
first_none f [] e = All-nil (λ x. f x ≡ None)
first_none f (x ∷ xs) e =
    let both = none_both (f x) (first_of (map f xs)) e in
    All-cons (λ y. f y ≡ None) x xs both.0 (first_none f xs both.1)

not_there : (there : Bool) → created there ≡ None → there ≡ false
not_there true e = absurd cc
not_there false e = refl

-- What expands.

grok_fine : (groks : Table) (pattern : List ℕ) → grok_cause groks pattern ≡ None → IsOk (answer groks pattern)
grok_fine groks pattern e = by (answer groks pattern) e
  where
    by : (r : Result Expanded GrokRefusal) → lower Grok (result_err r) ≡ None → IsOk r
    by (Ok expanded) e = refl
    by (Err refusal) e = absurd cc

kind_fine : (groks : Table) (kind : ExtractorKind) → kind_cause groks kind ≡ None → Expands groks kind
kind_fine groks (GrokKind pattern) e = grok_fine groks pattern e
kind_fine groks other e = tt

kinds_fine : (groks : Table) (extractors : List ExtractorParts) → kinds_cause groks extractors ≡ None → AllExpand groks extractors
kinds_fine groks extractors e =
    All-weaker (λ (parts : ExtractorParts). kind_cause groks parts.kind ≡ None) (λ (parts : ExtractorParts). Expands groks parts.kind)
    (λ parts fine. kind_fine groks parts.kind fine) extractors
    (first_none (λ (parts : ExtractorParts). kind_cause groks parts.kind) extractors e)

inputs_fine : (groks : Table) (inputs : List Input) → inputs_cause groks inputs ≡ None → InputsExpand groks inputs
inputs_fine groks inputs e =
    All-weaker (λ (input : Input). kinds_cause groks input.extractors ≡ None) (λ (input : Input). AllExpand groks input.extractors)
    (λ input fine. kinds_fine groks input.extractors fine) inputs
    (first_none (λ (input : Input). kinds_cause groks input.extractors) inputs e)

extractors_fine : (groks : Table) (extractors : List ExtractorParts) → first_of (map (extractor_cause groks) extractors) ≡ None → AllExpand groks extractors
extractors_fine groks extractors e =
    All-weaker (λ (parts : ExtractorParts). extractor_cause groks parts ≡ None) (λ (parts : ExtractorParts). Expands groks parts.kind)
    (λ parts fine. kind_fine groks parts.kind (none_both (lower Extract (refusal_of parts)) (kind_cause groks parts.kind) fine).1) extractors
    (first_none (extractor_cause groks) extractors e)

-- with other extractors for an input
replaced : (groks : Table) (name : List ℕ) (extractors : List ExtractorParts) (inputs : List Input) → AllExpand groks extractors → InputsExpand groks inputs
    → InputsExpand groks (map (with_extractors name extractors) inputs)
replaced groks name extractors inputs fine expand =
    All-map (λ (input : Input). AllExpand groks input.extractors) (with_extractors name extractors) inputs
    (All-weaker (λ (input : Input). AllExpand groks input.extractors) (λ (input : Input). AllExpand groks (with_extractors name extractors input).extractors)
    (λ input here. by (bytes_eq name input.name) input here) inputs expand)
  where
    by : (is : Bool) (input : Input) → AllExpand groks input.extractors → AllExpand groks (cond is (record input { extractors = extractors }) input).extractors
    by true input here = fine
    by false input here = here

-- Streams.

still_low : (id : ℕ) (any removes paused : Bool) (rules : List StreamRule) (streams : List Stream) → All (λ (stream : Stream). stream.id < 65535) streams
    → All (λ (stream : Stream). stream.id < 65535) (map (stream_set id any removes paused rules) streams)
still_low id any removes paused rules streams low =
    All-map (λ (stream : Stream). stream.id < 65535) (stream_set id any removes paused rules) streams
    (All-weaker (λ (stream : Stream). stream.id < 65535) (λ (stream : Stream). (stream_set id any removes paused rules stream).id < 65535)
    (λ stream here. by (stream.id == id) stream here) streams low)
  where
    by : (is : Bool) (stream : Stream) → stream.id < 65535
        → (cond is (record stream { any = any; remove_from_default = removes; paused = paused; rules = rules }) stream).id < 65535
    by true stream here = here
    by false stream here = here

-- Bounds.

none_found : {X : Type 0} (p : X → Bool) (x : X) (xs : List X) → find p (x ∷ xs) ≡ None → (p x ≡ false) × (find p xs ≡ None)
none_found p x xs e = by (p x) refl e
  where
    by : (b : Bool) → p x ≡ b → cond b (Some x) (find p xs) ≡ None → (p x ≡ false) × (find p xs ≡ None)
    by true is e = absurd cc
    by false is e = (is, e)

nothing : {X Y : Type 0} (f : X → Y) (o : Option X) → option_map f o ≡ None → o ≡ None
nothing f None e = refl
nothing f (Some x) e = absurd cc

third_none : {X : Type 0} (p : X → Bool) (x y z : X) (xs : List X) → find p (x ∷ y ∷ z ∷ xs) ≡ None → p z ≡ false
third_none p x y z xs e = (none_found p z xs (none_found p y (z ∷ xs) (none_found p x (y ∷ z ∷ xs) e).1).1).0

few_streams : (c : Settings) → limit_of c ≡ None → length c.streams ≤ 128
few_streams c e =
    let passed = none_both (first_passed (counted c)) (option_or (first_passed (counted_last c)) (budget_refusal (pattern_bytes c))) e in
    let found = nothing (λ (bound : Bound × ℕ × ℕ). Limit bound.0 bound.1) (find (λ (bound : Bound × ℕ × ℕ). nat_lt bound.1 bound.2) (counted c)) passed.0 in
    below (length c.streams)
    (third_none (λ (bound : Bound × ℕ × ℕ). nat_lt bound.1 bound.2) (Inputs, 32, length c.inputs) (IndexSets, 16, length c.sets) (Streams, 128, length c.streams)
    (drop 3 (counted c)) found)
  where
    below : (n : ℕ) → nat_lt 128 n ≡ false → n ≤ 128
    below n e = grind (arith, nat_tests)

-- What changes neither inputs nor streams nor patterns of grok.

rule_kept : (c : Settings) (read : Result RuleTree Fault) → IsCompilable c → IsCompilable (behind c (with_rule c read))
rule_kept c (Ok rule) h = record { groks = h.groks; ids = h.ids }
rule_kept c (Err fault) h = record { groks = h.groks; ids = h.ids }

pipeline_kept : (c : Settings) (read : Result Pipeline Fault) → IsCompilable c → IsCompilable (behind c (with_pipeline c read))
pipeline_kept c (Ok pipeline) h = record { groks = h.groks; ids = h.ids }
pipeline_kept c (Err fault) h = record { groks = h.groks; ids = h.ids }

lookup_kept : (c : Settings) (name : List ℕ) (table : Result (List Pair) LookupRefusal) → IsCompilable c → IsCompilable (behind c (with_lookup c name table))
lookup_kept c name (Ok table) h = record { groks = h.groks; ids = h.ids }
lookup_kept c name (Err refusal) h = record { groks = h.groks; ids = h.ids }

-- that of a new store has three inputs without extractors, and one stream
pub begins : IsCompilable initial_settings
begins =
    let P : Input → Type 0 = λ (input : Input). AllExpand initial input.extractors in
    let none : AllExpand initial [] = All-nil (λ (parts : ExtractorParts). Expands initial parts.kind) in
    record {
      groks = All-cons P (new_input (codes "raw") Raw) (new_input (codes "gelf") Gelf ∷ new_input (codes "syslog") Syslog ∷ []) none
          (All-cons P (new_input (codes "gelf") Gelf) (new_input (codes "syslog") Syslog ∷ []) none
          (All-cons P (new_input (codes "syslog") Syslog) [] none (All-nil P)));
      ids = All-cons (λ (stream : Stream). stream.id < 65535) default_stream [] (omega arith) (All-nil (λ (stream : Stream). stream.id < 65535));
    }

-- A new name of grok plays no part in what expands without it.
module _
    (keeps : (table : Table) (text name pattern : List ℕ) → contains (names_met table text) name ≡ false → answer (with_pattern table name pattern) text ≡ answer table text)
    (knows : (table : Table) (text name : List ℕ) (expanded : Expanded) → answer table text ≡ Ok expanded → contains (names_met table text) name ≡ true → is_known table name ≡ true) where
  still_expands : (groks : Table) (name pattern text : List ℕ) → is_known groks name ≡ false → IsOk (answer groks text) → IsOk (answer (with_pattern groks name pattern) text)
  still_expands groks name pattern text new ok = by (answer groks text) refl (contains (names_met groks text) name) refl ok
    where
      by : (r : Result Expanded GrokRefusal) → answer groks text ≡ r → (b : Bool) → contains (names_met groks text) name ≡ b → IsOk r
          → IsOk (answer (with_pattern groks name pattern) text)
      by (Ok expanded) e true met ok = absurd (false≢true (sym new ∙ knows groks text name expanded e met))
      by (Ok expanded) e false met ok = subst (λ (r : Result Expanded GrokRefusal). is_ok r ≡ true) (sym (keeps groks text name pattern met ∙ e)) refl
      by (Err refusal) e b met ok = absurd (false≢true ok)

  kind_still : (groks : Table) (name pattern : List ℕ) → is_known groks name ≡ false → (kind : ExtractorKind) → Expands groks kind → Expands (with_pattern groks name pattern) kind
  kind_still groks name pattern new (GrokKind text) ok = still_expands groks name pattern text new ok
  kind_still groks name pattern new other ok = tt

  inputs_still : (groks : Table) (name pattern : List ℕ) → is_known groks name ≡ false → (inputs : List Input) → InputsExpand groks inputs
      → InputsExpand (with_pattern groks name pattern) inputs
  inputs_still groks name pattern new inputs expand =
      All-weaker (λ (input : Input). AllExpand groks input.extractors) (λ (input : Input). AllExpand (with_pattern groks name pattern) input.extractors)
      (λ input here. All-weaker (λ (parts : ExtractorParts). Expands groks parts.kind) (λ (parts : ExtractorParts). Expands (with_pattern groks name pattern) parts.kind)
      (λ parts ok. kind_still groks name pattern new parts.kind ok) input.extractors here) inputs expand

  kept : (c : Settings) (command : Command) → first_refusal c command ≡ None → limit_of (next_settings c command) ≡ None → IsCompilable c
      → IsCompilable (next_settings c command)
  unfolding first_refusal next_settings
  kept c (CreateInput name kind) e l h = record {
    groks = All-push (λ (input : Input). AllExpand c.groks input.extractors) c.inputs (new_input name kind) h.groks (All-nil (λ (parts : ExtractorParts). Expands c.groks parts.kind));
    ids = h.ids;
  }
  kept c (SetExtractors name extractors) e l h = record {
    groks = replaced c.groks name extractors c.inputs
        (extractors_fine c.groks extractors (none_both (known (has_input c name)) (first_of (map (extractor_cause c.groks) extractors)) e).1) h.groks;
    ids = h.ids;
  }
  kept c (CreateStream name index_set any removes rules) e l h =
      let few = few_streams (behind c (with_stream c name index_set any removes (rules_of rules))) l in
      let one : length (c.streams ++ new_stream c name index_set any removes (rules_of rules) ∷ []) ≡ length c.streams + 1 = length-append c.streams (new_stream c name index_set any removes (rules_of rules) ∷ []) in
      record {
        groks = h.groks;
        ids = All-push (λ (stream : Stream). stream.id < 65535) c.streams (new_stream c name index_set any removes (rules_of rules)) h.ids (omega (arith, few, one));
      }
  kept c (SetStream id any removes paused rules) e l h = record { groks = h.groks; ids = still_low id any removes paused (rules_of rules) c.streams h.ids }
  kept c (CreateRule source) e l h = rule_kept c (rule_text source) h
  kept c (SetRule source) e l h = rule_kept c (rule_text source) h
  kept c (CreatePipeline source) e l h = pipeline_kept c (pipeline_text source) h
  kept c (SetPipeline source) e l h = pipeline_kept c (pipeline_text source) h
  kept c (CreateLookup name csv key value) e l h = lookup_kept c name (table_of key value (rows_of csv)) h
  kept c (SetLookup name csv key value) e l h = lookup_kept c name (table_of key value (rows_of csv)) h
  kept c (CreateGrok name pattern) e l h =
      let own = none_both (grok_name_cause Created c name) (grok_cause (with_pattern c.groks name pattern) pattern) e in
      let new = none_both (named (is_pattern_name name)) (own_cause Created (is_known c.groks name)) own.0 in
      record { groks = inputs_still c.groks name pattern (not_there (is_known c.groks name) new.1) c.inputs h.groks; ids = h.ids }
  kept c (SetGrok name pattern) e l h =
      let groks = with_pattern c.groks name pattern in
      let own = none_both (grok_name_cause Changed c name) (option_or (grok_cause groks pattern) (others_cause c groks)) e in
      let others = none_both (grok_cause groks pattern) (others_cause c groks) own.1 in
      let inputs = none_both (groks_cause groks) (inputs_cause groks c.inputs) others.1 in
      record { groks = inputs_fine groks c.inputs inputs.1; ids = h.ids }
  kept c (CreateIndexSet name max_docs max_ms keep) e l h = record { groks = h.groks; ids = h.ids }
  kept c (Connect stream pipelines) e l h = record { groks = h.groks; ids = h.ids }
  kept c (CreateUser name hash admin streams) e l h = record { groks = h.groks; ids = h.ids }
  kept c (SetUser name hash admin streams) e l h = record { groks = h.groks; ids = h.ids }

  made_by : (cause : Cause) (made next : Settings) → refused_by cause made ≡ Ok next → (cause ≡ None) × (made ≡ next)
  made_by None made next e = (refl, cc)
  made_by (Some refusal) made next e = absurd cc

  -- a command that is taken keeps it so
  pub stays : (c next : Settings) (command : Command) → IsCompilable c → applied c command ≡ Ok next → IsCompilable next
  unfolding applied
  stays c next command h e =
      let both = made_by (option_or (first_refusal c command) (limit_of (next_settings c command))) (next_settings c command) next e in
      let none = none_both (first_refusal c command) (limit_of (next_settings c command)) both.0 in
      subst IsCompilable both.1 (kept c command none.0 none.1 h)

  -- whichever texts come
  made : (c : Settings) (command : Command) (r : Result Settings ConfigRefusal) → applied c command ≡ r → IsCompilable c → IsCompilable (unwrap_or (result_ok r) c)
  made c command (Ok next) e h = stays c next command h e
  made c command (Err refusal) e h = h

  taken : (c : Settings) (found : Option Command) → IsCompilable c → IsCompilable (unwrap_or (option_and_then (λ command. result_ok (applied c command)) found) c)
  taken c None h = h
  taken c (Some command) h = made c command (applied c command) refl h

  after : (c : Settings) (text : List ℕ) → IsCompilable c → IsCompilable (after_command c text)
  unfolding accepted
  after c text h = taken c (command_in text) h

  along : (texts : List (List ℕ)) (c : Settings) → IsCompilable c → IsCompilable (fold after_command c texts)
  along [] c h = h
  along (text ∷ texts) c h = along texts (after_command c text) (after c text h)

  pub always : (journal : List Entry) (version : ℕ) → IsCompilable (config_at journal version)
  unfolding config_at
  always journal version = along (take version (commands_of journal)) initial_settings begins
