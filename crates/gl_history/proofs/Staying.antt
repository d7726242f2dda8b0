-- What a command makes of lawful settings is lawful.
use Rattle.std.proofs.Common.{◌≡◌, ℕ, zero, suc, ◌+◌, ◌<◌, Bool, true, false, not, ◌&&◌, ◌||◌, ◌==◌, List, [], ◌∷◌, ◌++◌, length, filter, map, Option, Some, None, Result, Ok, Err, refl, sym, ap, ◌∙◌, subst, arith, bytes_eq}
use Rattle.std.specs.Prelude.{if◌then◌else◌, nat_lt, slice_index_or}
use Rattle.std.specs.List.{All, list_all, list_any, range_with_len}
use Rattle.std.specs.Option.{option_or}
use Rattle.std.specs.Ordering.{nat_cmp}
use Rattle.std.specs.Cmp.Lexicographic.{slice_cmp}
use Rattle.std.proofs.lemmas.Bool.{ltb-true}
use Rattle.std.proofs.lemmas.List.{map_push, length_push, length-map}
use Rattle.std.proofs.lemmas.List.Elements.{All-nil, All-cons, All-append, All-push, All-weaker, All-map, All-filter, filter_passes}
use Rattle.std.proofs.lemmas.Map.Views.{All-values-insert_entry}
use Rattle.gl_fields.specs.Fields.{Rises, comes_before}
use Rattle.gl_fields.proofs.Names.{itself_same}
use Rattle.gl_fields.proofs.Rising.{Rises-filter, Rises-joined}
use Rattle.gl_fields.specs.declared.input_kind.InputKind.{InputKind}
use Rattle.gl_fields.specs.declared.set_rule.SetRule.{SetRule}
use Rattle.gl_streams.specs.declared.stream.Stream.{Stream}
use Rattle.gl_streams.specs.declared.stream.StreamRule.{StreamRule}
use Rattle.gl_extract.specs.declared.parts.ExtractorParts.{ExtractorParts}
use Rattle.gl_grok.specs.Pieces.{is_pattern_name}
use Rattle.gl_grok.specs.Tables.{Table, with_pattern, is_known}
use Rattle.gl_lookup.specs.declared.refusal.LookupRefusal.{LookupRefusal}
use Rattle.gl_lookup.specs.Rows.{rows_of}
use Rattle.gl_lookup.specs.Tables.{Pair, table_of}
use Rattle.gl_rulelang.specs.declared.pipeline.Pipeline.{Pipeline}
use Rattle.gl_rulelang.specs.Tree.{RuleTree}
use Rattle.gl_rulelang.specs.Faults.{Fault}
use Rattle.gl_rulelang.specs.Rules.{rule_text}
use Rattle.gl_rulelang.specs.Pipelines.{pipeline_text}
use Rattle.gl_check.specs.Checking.{first_fault}
use Rattle.gl_check.specs.declared.refusal.CheckRefusal.{CheckRefusal}
use Rattle.gl_commands.specs.declared.command.RuleParts.{RuleParts}
use Rattle.gl_commands.specs.declared.command.Command.{Command}
use Rattle.gl_commands.specs.declared.command.Command.TheVariants.{CreateInput, SetExtractors, CreateIndexSet, CreateStream, SetStream, CreateRule, SetRule as ChangeRule, CreatePipeline, SetPipeline, Connect, CreateLookup, SetLookup, CreateGrok, SetGrok, CreateUser, SetUser}
use Rattle.gl_settings.specs.declared.input.Input.{Input}
use Rattle.gl_settings.specs.declared.user.User.{User}
use Rattle.gl_settings.specs.declared.refusal.Text.TheVariants.{Check, Number, Hash}
use Rattle.gl_settings.specs.declared.refusal.ConfigRefusal.TheVariants.{BadText}
use Rattle.gl_settings.specs.Names.{is_short_name, is_title, is_hash}
use Rattle.gl_settings.specs.Settings.{Settings, placed, connected, has_name, has_input, has_set, has_stream_named, has_stream, has_rule, has_pipeline, has_user, rules_named, new_input}
use Rattle.gl_settings.specs.Limits.{limit_of}
use Rattle.gl_config.specs.declared.own.Own.{Own}
use Rattle.gl_config.specs.declared.own.Own.TheVariants.{Created, Changed}
use Rattle.gl_config.specs.Next.{rules_of, new_stream, stream_set, with_extractors, with_stream, with_setting, with_rule, with_pipeline, with_lookup, with_grok, with_user, behind, next_settings}
use Rattle.gl_config.specs.Applying.{Cause, first_of, unless, named, created, known, lower, check_cause, extractor_cause, number_cause, fields_are_named, is_anothers, title_cause, grok_name_cause, own_cause, grok_cause, groks_cause, inputs_cause, others_cause, input_refusal, extractors_refusal, set_refusal, stream_names, stream_refusal, rule_refusal, pipeline_refusal, connection_refusal, new_grok_refusal, grok_refusal, new_user_refusal, user_refusal, first_refusal, applied}
use Rattle.gl_history.specs.Lawful.{Differ, values, Expands, KindExpands, AreInputs, IsRule, IsStreamId, IsPipelineName, AreConnections, AreGroks, shares, AreUsers, IsSettings}
use Rattle.gl_history.proofs.Listing.{both_first, both_second, neither_second, all_of, none_of, none_filtered, none_around, any_more, any_same, keys_same, rises_push, range_more, placed_rises, placed_all, placed_has, entries_rise, bytes_eq_sym}
use Rattle.gl_history.proofs.Causing.{none_first, none_second, fine, not_created, is_there, firsts_none, made_by, expands, extractors_expand, inputs_expand, NamesApart, still_expands, kind_still_expands}

-- an input more, and other extractors of one

mapped_all : {X Y : Type 0} (P : Y → Type 0) (f : X → Y) (xs : List X) → All (λ x. P (f x)) xs → All P (map f xs)
mapped_all P f xs h = All-map P f xs h

input_more : (groks : Table) (inputs : List Input) (name : List ℕ) (kind : InputKind) → AreInputs groks inputs
    → list_any (λ (input : Input). bytes_eq name input.name) inputs ≡ false → AreInputs groks (inputs ++ new_input name kind ∷ [])
input_more groks inputs name kind h new = record {
  names = subst (λ (names : List (List ℕ)). Differ names) (sym (map_push (λ (input : Input). input.name) inputs (new_input name kind)))
      (rises_push (λ (a b : List ℕ). bytes_eq b a ≡ false) (map (λ (input : Input). input.name) inputs) name h.names
      (mapped_all (λ (other : List ℕ). bytes_eq name other ≡ false) (λ (input : Input). input.name) inputs (none_of (λ (input : Input). bytes_eq name input.name) inputs new)));
  expand = All-push (λ (input : Input). All (λ (parts : ExtractorParts). KindExpands groks parts.kind) input.extractors) inputs (new_input name kind) h.expand
      (All-nil (λ (parts : ExtractorParts). KindExpands groks parts.kind));
}

stay_input : (c : Settings) (name : List ℕ) (kind : InputKind) → IsSettings c → input_refusal c name ≡ None
    → limit_of (behind c (record c { inputs = c.inputs ++ new_input name kind ∷ [] })) ≡ None
    → IsSettings (behind c (record c { inputs = c.inputs ++ new_input name kind ∷ [] }))
stay_input c name kind h none limits =
    let rest : option_or (created (has_input c name)) None ≡ None = none_second (named (is_short_name name)) (option_or (created (has_input c name)) None) none in
    record {
      inputs = input_more c.groks c.inputs name kind h.inputs (not_created (has_input c name) (none_first (created (has_input c name)) None rest));
      sets = h.sets;
      streams = h.streams;
      rules = h.rules;
      pipelines = h.pipelines;
      connections = h.connections;
      lookups = h.lookups;
      groks = h.groks;
      users = h.users;
      limits = limits;
    }

renamed : (b : Bool) (extractors : List ExtractorParts) (input : Input) → (if b then record input { extractors = extractors } else input).name ≡ input.name
renamed true extractors input = refl
renamed false extractors input = refl

replaced : (groks : Table) (b : Bool) (extractors : List ExtractorParts) (input : Input) → All (λ (parts : ExtractorParts). KindExpands groks parts.kind) extractors
    → All (λ (parts : ExtractorParts). KindExpands groks parts.kind) input.extractors
    → All (λ (parts : ExtractorParts). KindExpands groks parts.kind) (if b then record input { extractors = extractors } else input).extractors
replaced groks true extractors input new old = new
replaced groks false extractors input new old = old

stay_extractors : (c : Settings) (name : List ℕ) (extractors : List ExtractorParts) → IsSettings c → extractors_refusal c name extractors ≡ None
    → limit_of (behind c (record c { inputs = map (with_extractors name extractors) c.inputs })) ≡ None
    → IsSettings (behind c (record c { inputs = map (with_extractors name extractors) c.inputs }))
stay_extractors c name extractors h none limits =
    let new : All (λ (parts : ExtractorParts). KindExpands c.groks parts.kind) extractors
    = extractors_expand c.groks extractors (none_second (known (has_input c name)) (first_of (map (extractor_cause c.groks) extractors)) none) in
    record {
      inputs = record {
        names = subst (λ (names : List (List ℕ)). Differ names)
            (sym (keys_same (λ (input : Input). input.name) (with_extractors name extractors) (λ input. renamed (bytes_eq name input.name) extractors input) c.inputs)) h.inputs.names;
        expand = All-map (λ (input : Input). All (λ (parts : ExtractorParts). KindExpands c.groks parts.kind) input.extractors) (with_extractors name extractors) c.inputs
            (All-weaker (λ (input : Input). All (λ (parts : ExtractorParts). KindExpands c.groks parts.kind) input.extractors)
            (λ (input : Input). All (λ (parts : ExtractorParts). KindExpands c.groks parts.kind) (with_extractors name extractors input).extractors)
            (λ input old. replaced c.groks (bytes_eq name input.name) extractors input new old) c.inputs h.inputs.expand);
      };
      sets = h.sets;
      streams = h.streams;
      rules = h.rules;
      pipelines = h.pipelines;
      connections = h.connections;
      lookups = h.lookups;
      groks = h.groks;
      users = h.users;
      limits = limits;
    }

-- an index set more

above_none : (n : ℕ) → not (n == 0) ≡ true → 0 < n
above_none zero h = cc h
above_none (suc n) h = omega arith

abbrev new_set : List ℕ → ℕ → ℕ → ℕ → SetRule
new_set name max_docs max_ms keep = record { name = name; max_docs = max_docs; max_ms = max_ms; keep = keep }

stay_set : (c : Settings) (name : List ℕ) (max_docs max_ms keep : ℕ) → IsSettings c → set_refusal c name keep ≡ None
    → limit_of (behind c (record c { sets = placed (λ (set : SetRule). set.name) (new_set name max_docs max_ms keep) c.sets })) ≡ None
    → IsSettings (behind c (record c { sets = placed (λ (set : SetRule). set.name) (new_set name max_docs max_ms keep) c.sets }))
stay_set c name max_docs max_ms keep h none limits =
    let new : SetRule = new_set name max_docs max_ms keep in
    let last : Cause = option_or (unless (not (keep == 0)) (BadText Number)) None in
    let rest : option_or (created (has_set c name)) last ≡ None = none_second (named (is_short_name name)) (option_or (created (has_set c name)) last) none in
    let kept : unless (not (keep == 0)) (BadText Number) ≡ None = none_first (unless (not (keep == 0)) (BadText Number)) None (none_second (created (has_set c name)) last rest) in
    record {
      inputs = h.inputs;
      sets = record {
        names = placed_rises (λ (set : SetRule). set.name) new c.sets h.sets.names;
        keep = placed_all (λ (set : SetRule). 0 < set.keep) (λ (set : SetRule). set.name) new c.sets h.sets.keep (above_none keep (fine (not (keep == 0)) (BadText Number) kept));
      };
      streams = record {
        ids = h.streams.ids;
        names = h.streams.names;
        known_sets = All-weaker (λ (stream : Stream). has_name (λ (set : SetRule). set.name) stream.index_set c.sets ≡ true)
            (λ (stream : Stream). has_name (λ (set : SetRule). set.name) stream.index_set (placed (λ (set : SetRule). set.name) new c.sets) ≡ true)
            (λ stream there. placed_has (λ (set : SetRule). set.name) new stream.index_set c.sets there) c.streams h.streams.known_sets;
      };
      rules = h.rules;
      pipelines = h.pipelines;
      connections = h.connections;
      lookups = h.lookups;
      groks = h.groks;
      users = h.users;
      limits = limits;
    }

-- what refers to streams, where each id that was there is there

ids_stay : (streams others : List Stream) → ((id : ℕ) → IsStreamId streams id → IsStreamId others id) → (ids : List ℕ) → All (IsStreamId streams) ids → All (IsStreamId others) ids
ids_stay streams others stay ids h = All-weaker (IsStreamId streams) (IsStreamId others) stay ids h

connections_stay : (streams others : List Stream) (pipelines : List Pipeline) (connections : List (ℕ × List (List ℕ))) → ((id : ℕ) → IsStreamId streams id → IsStreamId others id)
    → AreConnections streams pipelines connections → AreConnections others pipelines connections
connections_stay streams others pipelines connections stay h = record {
  rise = h.rise;
  known_streams = All-weaker (λ (connection : ℕ × List (List ℕ)). IsStreamId streams connection.0) (λ (connection : ℕ × List (List ℕ)). IsStreamId others connection.0)
      (λ connection there. stay connection.0 there) connections h.known_streams;
  known_pipelines = h.known_pipelines;
}

users_stay : (streams others : List Stream) (users : List User) → ((id : ℕ) → IsStreamId streams id → IsStreamId others id) → AreUsers streams users → AreUsers others users
users_stay streams others users stay h = record {
  names = h.names;
  hashes = h.hashes;
  known_streams = All-weaker (λ (user : User). All (IsStreamId streams) user.streams) (λ (user : User). All (IsStreamId others) user.streams)
      (λ user there. ids_stay streams others stay user.streams there) users h.known_streams;
}

-- a stream more

stay_stream : (c : Settings) (name index_set : List ℕ) (any removes : Bool) (rules : List RuleParts) → IsSettings c → stream_refusal c name index_set rules ≡ None
    → limit_of (behind c (with_stream c name index_set any removes (rules_of rules))) ≡ None
    → IsSettings (behind c (with_stream c name index_set any removes (rules_of rules)))
stay_stream c name index_set any removes rules h none limits =
    let new : Stream = new_stream c name index_set any removes (rules_of rules) in
    let first : stream_names c name index_set rules ≡ None = none_first (stream_names c name index_set rules) (number_cause rules) none in
    let last : Cause = option_or (known (has_set c index_set)) None in
    let rest : option_or (created (has_stream_named c name)) last ≡ None
    = none_second (named (is_title name && fields_are_named rules)) (option_or (created (has_stream_named c name)) last) first in
    let apart : has_stream_named c name ≡ false = not_created (has_stream_named c name) (none_first (created (has_stream_named c name)) last rest) in
    let there : has_set c index_set ≡ true = is_there (has_set c index_set) (none_first (known (has_set c index_set)) None (none_second (created (has_stream_named c name)) last rest)) in
    let stay : (id : ℕ) → IsStreamId c.streams id → IsStreamId (c.streams ++ new ∷ []) id = λ id is. any_more (λ (stream : Stream). stream.id == id) c.streams (new ∷ []) is in
    let one : length (c.streams ++ new ∷ []) ≡ suc (length c.streams) = omega (arith, length_push c.streams new) in
    let next : length c.streams + 1 ≡ 1 + length c.streams = omega arith in
    record {
      inputs = h.inputs;
      sets = h.sets;
      streams = record {
        ids = map_push (λ (stream : Stream). stream.id) c.streams new
            ∙ (λ i. h.streams.ids i ++ next i ∷ [])
            ∙ sym (range_more 1 (length c.streams))
            ∙ ap (range_with_len 1) (sym one);
        names = subst (λ (names : List (List ℕ)). Differ names) (sym (map_push (λ (stream : Stream). stream.name) c.streams new))
            (rises_push (λ (a b : List ℕ). bytes_eq b a ≡ false) (map (λ (stream : Stream). stream.name) c.streams) name h.streams.names
            (mapped_all (λ (other : List ℕ). bytes_eq name other ≡ false) (λ (stream : Stream). stream.name) c.streams (none_of (λ (stream : Stream). bytes_eq name stream.name) c.streams apart)));
        known_sets = All-push (λ (stream : Stream). has_name (λ (set : SetRule). set.name) stream.index_set c.sets ≡ true) c.streams new h.streams.known_sets there;
      };
      rules = h.rules;
      pipelines = h.pipelines;
      connections = connections_stay c.streams (c.streams ++ new ∷ []) c.pipelines c.connections stay h.connections;
      lookups = h.lookups;
      groks = h.groks;
      users = users_stay c.streams (c.streams ++ new ∷ []) c.users stay h.users;
      limits = limits;
    }

-- what a stream does, replaced

abbrev doing : Bool → Bool → Bool → Bool → List StreamRule → Stream → Stream
doing b any removes paused rules stream = if b then record stream { any = any; remove_from_default = removes; paused = paused; rules = rules } else stream

same_id : (b any removes paused : Bool) (rules : List StreamRule) (stream : Stream) → (doing b any removes paused rules stream).id ≡ stream.id
same_id true any removes paused rules stream = refl
same_id false any removes paused rules stream = refl

same_name : (b any removes paused : Bool) (rules : List StreamRule) (stream : Stream) → (doing b any removes paused rules stream).name ≡ stream.name
same_name true any removes paused rules stream = refl
same_name false any removes paused rules stream = refl

same_set : (b any removes paused : Bool) (rules : List StreamRule) (stream : Stream) → (doing b any removes paused rules stream).index_set ≡ stream.index_set
same_set true any removes paused rules stream = refl
same_set false any removes paused rules stream = refl

stay_setting : (c : Settings) (id : ℕ) (any removes paused : Bool) (rules : List StreamRule) → IsSettings c
    → limit_of (behind c (with_setting c id any removes paused rules)) ≡ None
    → IsSettings (behind c (with_setting c id any removes paused rules))
stay_setting c id any removes paused rules h limits =
    let f : Stream → Stream = stream_set id any removes paused rules in
    let streams : List Stream = map f c.streams in
    let stay : (other : ℕ) → IsStreamId c.streams other → IsStreamId streams other
    = λ other is. any_same (λ (stream : Stream). stream.id == other) f (λ stream. ap (λ (n : ℕ). n == other) (same_id (stream.id == id) any removes paused rules stream)) c.streams ∙ is in
    record {
      inputs = h.inputs;
      sets = h.sets;
      streams = record {
        ids = keys_same (λ (stream : Stream). stream.id) f (λ stream. same_id (stream.id == id) any removes paused rules stream) c.streams
            ∙ h.streams.ids ∙ ap (range_with_len 1) (sym (length-map c.streams f));
        names = subst (λ (names : List (List ℕ)). Differ names)
            (sym (keys_same (λ (stream : Stream). stream.name) f (λ stream. same_name (stream.id == id) any removes paused rules stream) c.streams)) h.streams.names;
        known_sets = All-map (λ (stream : Stream). has_name (λ (set : SetRule). set.name) stream.index_set c.sets ≡ true) f c.streams
            (All-weaker (λ (stream : Stream). has_name (λ (set : SetRule). set.name) stream.index_set c.sets ≡ true)
            (λ (stream : Stream). has_name (λ (set : SetRule). set.name) (f stream).index_set c.sets ≡ true)
            (λ stream there. ap (λ (name : List ℕ). has_name (λ (set : SetRule). set.name) name c.sets) (same_set (stream.id == id) any removes paused rules stream) ∙ there)
            c.streams h.streams.known_sets);
      };
      rules = h.rules;
      pipelines = h.pipelines;
      connections = connections_stay c.streams streams c.pipelines c.connections stay h.connections;
      lookups = h.lookups;
      groks = h.groks;
      users = users_stay c.streams streams c.users stay h.users;
      limits = limits;
    }

-- rules and pipelines

no_fault : (o : Option CheckRefusal) → lower Check o ≡ None → o ≡ None
no_fault None h = refl
no_fault (Some fault) h = cc h

stay_rule : (own : Own) (c : Settings) (read : Result RuleTree Fault) → IsSettings c → rule_refusal own c read ≡ None
    → limit_of (behind c (with_rule c read)) ≡ None → IsSettings (behind c (with_rule c read))
stay_rule own c (Err fault) h none limits = absurd cc
stay_rule own c (Ok rule) h none limits =
    let next : List RuleTree = placed (λ (r : RuleTree). r.name) rule c.rules in
    record {
      inputs = h.inputs;
      sets = h.sets;
      streams = h.streams;
      rules = record {
        names = placed_rises (λ (r : RuleTree). r.name) rule c.rules h.rules.names;
        lawful = placed_all (λ r. first_fault r ≡ None) (λ (r : RuleTree). r.name) rule c.rules h.rules.lawful
            (no_fault (first_fault rule) (none_second (title_cause own rule.name (has_rule c rule.name)) (check_cause rule) none));
      };
      pipelines = record {
        names = h.pipelines.names;
        known_rules = All-weaker (λ (pipeline : Pipeline). All (IsRule c.rules) (rules_named pipeline)) (λ (pipeline : Pipeline). All (IsRule next) (rules_named pipeline))
            (λ pipeline there. All-weaker (IsRule c.rules) (IsRule next) (λ name is. placed_has (λ (r : RuleTree). r.name) rule name c.rules is) (rules_named pipeline) there)
            c.pipelines h.pipelines.known_rules;
      };
      connections = h.connections;
      lookups = h.lookups;
      groks = h.groks;
      users = h.users;
      limits = limits;
    }

stay_pipeline : (own : Own) (c : Settings) (read : Result Pipeline Fault) → IsSettings c → pipeline_refusal own c read ≡ None
    → limit_of (behind c (with_pipeline c read)) ≡ None → IsSettings (behind c (with_pipeline c read))
stay_pipeline own c (Err fault) h none limits = absurd cc
stay_pipeline own c (Ok pipeline) h none limits =
    let next : List Pipeline = placed (λ (p : Pipeline). p.name) pipeline c.pipelines in
    let there : list_all (has_rule c) (rules_named pipeline) ≡ true
    = is_there (list_all (has_rule c) (rules_named pipeline))
    (none_second (title_cause own pipeline.name (has_pipeline c pipeline.name)) (known (list_all (has_rule c) (rules_named pipeline))) none) in
    record {
      inputs = h.inputs;
      sets = h.sets;
      streams = h.streams;
      rules = h.rules;
      pipelines = record {
        names = placed_rises (λ (p : Pipeline). p.name) pipeline c.pipelines h.pipelines.names;
        known_rules = placed_all (λ (p : Pipeline). All (IsRule c.rules) (rules_named p)) (λ (p : Pipeline). p.name) pipeline c.pipelines h.pipelines.known_rules
            (all_of (has_rule c) (rules_named pipeline) there);
      };
      connections = record {
        rise = h.connections.rise;
        known_streams = h.connections.known_streams;
        known_pipelines = All-weaker (λ (connection : ℕ × List (List ℕ)). All (IsPipelineName c.pipelines) connection.1) (λ (connection : ℕ × List (List ℕ)). All (IsPipelineName next) connection.1)
            (λ connection is. All-weaker (IsPipelineName c.pipelines) (IsPipelineName next) (λ name has. placed_has (λ (p : Pipeline). p.name) pipeline name c.pipelines has) connection.1 is)
            c.connections h.connections.known_pipelines;
      };
      lookups = h.lookups;
      groks = h.groks;
      users = h.users;
      limits = limits;
    }

-- connections

connected_all : (P : ℕ × List (List ℕ) → Type 0) (stream : ℕ) (pipelines : List (List ℕ)) (connections : List (ℕ × List (List ℕ))) → All P connections → P (stream, pipelines)
    → All P (connected stream pipelines connections)
connected_all P stream pipelines connections h here =
    All-append P (filter (λ (other : ℕ × List (List ℕ)). nat_lt other.0 stream) connections)
    ((stream, pipelines) ∷ filter (λ (other : ℕ × List (List ℕ)). nat_lt stream other.0) connections)
    (All-filter (λ (other : ℕ × List (List ℕ)). nat_lt other.0 stream) P connections h)
    (All-cons P (stream, pipelines) (filter (λ (other : ℕ × List (List ℕ)). nat_lt stream other.0) connections) here
    (All-filter (λ (other : ℕ × List (List ℕ)). nat_lt stream other.0) P connections h))

connected_rises : (stream : ℕ) (pipelines : List (List ℕ)) (connections : List (ℕ × List (List ℕ))) → Rises (λ (a b : ℕ × List (List ℕ)). a.0 < b.0) connections
    → Rises (λ (a b : ℕ × List (List ℕ)). a.0 < b.0) (connected stream pipelines connections)
connected_rises stream pipelines connections h =
    let R : ℕ × List (List ℕ) → ℕ × List (List ℕ) → Type 0 = λ a b. a.0 < b.0 in
    let p : ℕ × List (List ℕ) → Bool = λ other. nat_lt other.0 stream in
    let q : ℕ × List (List ℕ) → Bool = λ other. nat_lt stream other.0 in
    Rises-joined R (λ a b c ab bc. omega (arith, ab, bc)) (filter p connections) (stream, pipelines) (filter q connections) (Rises-filter R p connections h)
    (All-weaker (λ other. p other ≡ true) (λ other. other.0 < stream) (λ other is. ltb-true other.0 stream is) (filter p connections) (filter_passes p connections))
    (All-weaker (λ other. q other ≡ true) (λ other. stream < other.0) (λ other is. ltb-true stream other.0 is) (filter q connections) (filter_passes q connections))
    (Rises-filter R q connections h)

stay_connection : (c : Settings) (stream : ℕ) (pipelines : List (List ℕ)) → IsSettings c → connection_refusal c stream pipelines ≡ None
    → limit_of (behind c (record c { connections = connected stream pipelines c.connections })) ≡ None
    → IsSettings (behind c (record c { connections = connected stream pipelines c.connections }))
stay_connection c stream pipelines h none limits =
    let there : (has_stream c stream && list_all (has_pipeline c) pipelines) ≡ true = is_there (has_stream c stream && list_all (has_pipeline c) pipelines) none in
    record {
      inputs = h.inputs;
      sets = h.sets;
      streams = h.streams;
      rules = h.rules;
      pipelines = h.pipelines;
      connections = record {
        rise = connected_rises stream pipelines c.connections h.connections.rise;
        known_streams = connected_all (λ (connection : ℕ × List (List ℕ)). IsStreamId c.streams connection.0) stream pipelines c.connections h.connections.known_streams
            (both_first (has_stream c stream) (list_all (has_pipeline c) pipelines) there);
        known_pipelines = connected_all (λ (connection : ℕ × List (List ℕ)). All (IsPipelineName c.pipelines) connection.1) stream pipelines c.connections h.connections.known_pipelines
            (all_of (has_pipeline c) pipelines (both_second (has_stream c stream) (list_all (has_pipeline c) pipelines) there));
      };
      lookups = h.lookups;
      groks = h.groks;
      users = h.users;
      limits = limits;
    }

-- tables

stay_lookup : (c : Settings) (name : List ℕ) (read : Result (List Pair) LookupRefusal) → IsSettings c → limit_of (behind c (with_lookup c name read)) ≡ None
    → IsSettings (behind c (with_lookup c name read))
stay_lookup c name (Err refusal) h limits = record {
  inputs = h.inputs;
  sets = h.sets;
  streams = h.streams;
  rules = h.rules;
  pipelines = h.pipelines;
  connections = h.connections;
  lookups = h.lookups;
  groks = h.groks;
  users = h.users;
  limits = limits;
}
stay_lookup c name (Ok table) h limits = record {
  inputs = h.inputs;
  sets = h.sets;
  streams = h.streams;
  rules = h.rules;
  pipelines = h.pipelines;
  connections = h.connections;
  lookups = entries_rise name table c.lookups h.lookups;
  groks = h.groks;
  users = h.users;
  limits = limits;
}

-- patterns of grok

groks_more : (groks : Table) (name pattern : List ℕ) → AreGroks groks → All (Expands (with_pattern groks name pattern)) (values groks) → Expands (with_pattern groks name pattern) pattern
    → AreGroks (with_pattern groks name pattern)
groks_more groks name pattern h others own = record {
  names = entries_rise name pattern groks h.names;
  expand = All-values-insert_entry (slice_cmp nat_cmp) name pattern (Expands (with_pattern groks name pattern)) groks others own;
}

grok_stays : (c : Settings) (name pattern : List ℕ) → IsSettings c → AreGroks (with_pattern c.groks name pattern)
    → All (λ (input : Input). All (λ (parts : ExtractorParts). KindExpands (with_pattern c.groks name pattern) parts.kind) input.extractors) c.inputs
    → limit_of (behind c (with_grok c name pattern)) ≡ None → IsSettings (behind c (with_grok c name pattern))
grok_stays c name pattern h groks expand limits = record {
  inputs = record { names = h.inputs.names; expand = expand };
  sets = h.sets;
  streams = h.streams;
  rules = h.rules;
  pipelines = h.pipelines;
  connections = h.connections;
  lookups = h.lookups;
  groks = groks;
  users = h.users;
  limits = limits;
}

stay_new_grok : NamesApart → (c : Settings) (name pattern : List ℕ) → IsSettings c → new_grok_refusal c name pattern ≡ None
    → limit_of (behind c (with_grok c name pattern)) ≡ None → IsSettings (behind c (with_grok c name pattern))
stay_new_grok apart c name pattern h none limits =
    let next : Table = with_pattern c.groks name pattern in
    let name_none : grok_name_cause Created c name ≡ None = none_first (grok_name_cause Created c name) (grok_cause next pattern) none in
    let new : is_known c.groks name ≡ false
    = not_created (is_known c.groks name) (none_second (named (is_pattern_name name)) (own_cause Created (is_known c.groks name)) name_none) in
    let own : Expands next pattern = expands next pattern (none_second (grok_name_cause Created c name) (grok_cause next pattern) none) in
    grok_stays c name pattern h
    (groks_more c.groks name pattern h.groks
    (All-weaker (Expands c.groks) (Expands next) (λ text is. still_expands apart c.groks name pattern new text is) (values c.groks) h.groks.expand) own)
    (All-weaker (λ (input : Input). All (λ (parts : ExtractorParts). KindExpands c.groks parts.kind) input.extractors)
    (λ (input : Input). All (λ (parts : ExtractorParts). KindExpands next parts.kind) input.extractors)
    (λ input is. All-weaker (λ (parts : ExtractorParts). KindExpands c.groks parts.kind) (λ (parts : ExtractorParts). KindExpands next parts.kind)
    (λ parts expand. kind_still_expands apart c.groks name pattern new parts.kind expand) input.extractors is) c.inputs h.inputs.expand)
    limits

values_expand : (next : Table) (entries : Table) → All (λ (entry : List ℕ × List ℕ). grok_cause next entry.1 ≡ None) entries → All (Expands next) (values entries)
values_expand next entries h =
    All-map (Expands next) (λ (entry : List ℕ × List ℕ). entry.1) entries
    (All-weaker (λ (entry : List ℕ × List ℕ). grok_cause next entry.1 ≡ None) (λ (entry : List ℕ × List ℕ). Expands next entry.1)
    (λ entry none. expands next entry.1 none) entries h)

stay_grok : (c : Settings) (name pattern : List ℕ) → IsSettings c → grok_refusal c name pattern ≡ None
    → limit_of (behind c (with_grok c name pattern)) ≡ None → IsSettings (behind c (with_grok c name pattern))
stay_grok c name pattern h none limits =
    let next : Table = with_pattern c.groks name pattern in
    let rest : option_or (grok_cause next pattern) (others_cause c next) ≡ None
    = none_second (grok_name_cause Changed c name) (option_or (grok_cause next pattern) (others_cause c next)) none in
    let others : others_cause c next ≡ None = none_second (grok_cause next pattern) (others_cause c next) rest in
    grok_stays c name pattern h
    (record {
      names = entries_rise name pattern c.groks h.groks.names;
      expand = values_expand next next (firsts_none (λ (entry : List ℕ × List ℕ). grok_cause next entry.1) next (none_first (groks_cause next) (inputs_cause next c.inputs) others));
    })
    (inputs_expand next c.inputs (none_second (groks_cause next) (inputs_cause next c.inputs) others))
    limits

-- users

shares_sym : (user other : User) → shares user other ≡ shares other user
shares_sym user other = λ i. not (bytes_eq_sym user.name other.name i) && bytes_eq_sym user.token_sha256 other.token_sha256 i

abbrev user_name : User → List ℕ
user_name user = user.name

hash_apart : (users : List User) (new user : User) → list_any (shares user) users ≡ false → shares user new ≡ false → list_any (shares user) (placed user_name new users) ≡ false
hash_apart users new user none here =
    none_around (shares user) (filter (λ (y : User). comes_before y.name new.name) users) new (filter (λ (y : User). comes_before new.name y.name) users)
    (none_filtered (shares user) (λ (y : User). comes_before y.name new.name) users none) here
    (none_filtered (shares user) (λ (y : User). comes_before new.name y.name) users none)

hashes_apart : (users : List User) (new : User) → All (λ (user : User). list_any (shares user) users ≡ false) users → list_any (shares new) users ≡ false
    → All (λ (user : User). list_any (shares user) (placed user_name new users) ≡ false) (placed user_name new users)
hashes_apart users new old none =
    placed_all (λ (user : User). list_any (shares user) (placed user_name new users) ≡ false) user_name new users
    (λ k d lt. hash_apart users new (slice_index_or users k d) (old k d lt)
    (shares_sym (slice_index_or users k d) new ∙ none_of (shares new) users none k d lt))
    (hash_apart users new new none (ap (λ (b : Bool). not b && bytes_eq new.token_sha256 new.token_sha256) (itself_same new.name)))

user_stays : (c : Settings) (name hash : List ℕ) (admin : Bool) (streams : List ℕ) → IsSettings c → is_anothers c name hash ≡ false → list_all (has_stream c) streams ≡ true
    → limit_of (behind c (with_user c name hash admin streams)) ≡ None → IsSettings (behind c (with_user c name hash admin streams))
user_stays c name hash admin streams h apart there limits =
    let new : User = record { name = name; token_sha256 = hash; admin = admin; streams = streams } in
    record {
      inputs = h.inputs;
      sets = h.sets;
      streams = h.streams;
      rules = h.rules;
      pipelines = h.pipelines;
      connections = h.connections;
      lookups = h.lookups;
      groks = h.groks;
      users = record {
        names = placed_rises user_name new c.users h.users.names;
        hashes = hashes_apart c.users new h.users.hashes apart;
        known_streams = placed_all (λ (user : User). All (IsStreamId c.streams) user.streams) user_name new c.users h.users.known_streams (all_of (has_stream c) streams there);
      };
      limits = limits;
    }

stay_new_user : (c : Settings) (name hash : List ℕ) (admin : Bool) (streams : List ℕ) → IsSettings c → new_user_refusal c name hash streams ≡ None
    → limit_of (behind c (with_user c name hash admin streams)) ≡ None → IsSettings (behind c (with_user c name hash admin streams))
stay_new_user c name hash admin streams h none limits =
    let last : Cause = option_or (unless (is_hash hash) (BadText Hash)) None in
    let middle : Cause = option_or (known (list_all (has_stream c) streams)) last in
    let taken : Bool = has_user c name || is_anothers c name hash in
    let rest : option_or (created taken) middle ≡ None = none_second (named (is_short_name name)) (option_or (created taken) middle) none in
    user_stays c name hash admin streams h
    (neither_second (has_user c name) (is_anothers c name hash) (not_created taken (none_first (created taken) middle rest)))
    (is_there (list_all (has_stream c) streams) (none_first (known (list_all (has_stream c) streams)) last (none_second (created taken) middle rest)))
    limits

stay_user : (c : Settings) (name hash : List ℕ) (admin : Bool) (streams : List ℕ) → IsSettings c → user_refusal c name hash streams ≡ None
    → limit_of (behind c (with_user c name hash admin streams)) ≡ None → IsSettings (behind c (with_user c name hash admin streams))
stay_user c name hash admin streams h none limits =
    let last : Cause = option_or (unless (is_hash hash) (BadText Hash)) None in
    let there : Bool = has_user c name && list_all (has_stream c) streams in
    let middle : Cause = option_or (known there) last in
    let rest : option_or (created (is_anothers c name hash)) middle ≡ None
    = none_second (named (is_short_name name)) (option_or (created (is_anothers c name hash)) middle) none in
    user_stays c name hash admin streams h
    (not_created (is_anothers c name hash) (none_first (created (is_anothers c name hash)) middle rest))
    (both_second (has_user c name) (list_all (has_stream c) streams) (is_there there (none_first (known there) last (none_second (created (is_anothers c name hash)) middle rest))))
    limits

-- each command

stay : NamesApart → (c : Settings) (command : Command) → IsSettings c → first_refusal c command ≡ None → limit_of (next_settings c command) ≡ None → IsSettings (next_settings c command)
unfolding first_refusal next_settings
stay apart c (CreateInput name kind) h none limits = stay_input c name kind h none limits
stay apart c (SetExtractors input extractors) h none limits = stay_extractors c input extractors h none limits
stay apart c (CreateIndexSet name max_docs max_ms keep) h none limits = stay_set c name max_docs max_ms keep h none limits
stay apart c (CreateStream name index_set any removes rules) h none limits = stay_stream c name index_set any removes rules h none limits
stay apart c (SetStream id any removes paused rules) h none limits = stay_setting c id any removes paused (rules_of rules) h limits
stay apart c (CreateRule source) h none limits = stay_rule Created c (rule_text source) h none limits
stay apart c (ChangeRule source) h none limits = stay_rule Changed c (rule_text source) h none limits
stay apart c (CreatePipeline source) h none limits = stay_pipeline Created c (pipeline_text source) h none limits
stay apart c (SetPipeline source) h none limits = stay_pipeline Changed c (pipeline_text source) h none limits
stay apart c (Connect stream pipelines) h none limits = stay_connection c stream pipelines h none limits
stay apart c (CreateLookup name csv key value) h none limits = stay_lookup c name (table_of key value (rows_of csv)) h limits
stay apart c (SetLookup name csv key value) h none limits = stay_lookup c name (table_of key value (rows_of csv)) h limits
stay apart c (CreateGrok name pattern) h none limits = stay_new_grok apart c name pattern h none limits
stay apart c (SetGrok name pattern) h none limits = stay_grok c name pattern h none limits
stay apart c (CreateUser name hash admin streams) h none limits = stay_new_user c name hash admin streams h none limits
stay apart c (SetUser name hash admin streams) h none limits = stay_user c name hash admin streams h none limits

pub settings_stay : NamesApart → (c next : Settings) (command : Command) → IsSettings c → applied c command ≡ Ok next → IsSettings next
unfolding applied
settings_stay apart c next command h made =
    let both : (option_or (first_refusal c command) (limit_of (next_settings c command)) ≡ None) × (next_settings c command ≡ next)
    = made_by (option_or (first_refusal c command) (limit_of (next_settings c command))) (next_settings c command) next made in
    subst IsSettings both.1
    (stay apart c command h (none_first (first_refusal c command) (limit_of (next_settings c command)) both.0)
    (none_second (first_refusal c command) (limit_of (next_settings c command)) both.0))
