-- The configurations of journals are lawful: that of a new store, and so each behind it.
use Rattle.std.proofs.Common.{◌≡◌, ℕ, ◌+◌, ◌<◌, ◌≤◌, Bool, true, false, ◌&&◌, List, [], ◌∷◌, length, get_or, take, find, cond, Option, Some, None, Result, Ok, Err, refl, sym, ap, ◌∙◌, arith, bytes_eq, lit<}
use Rattle.std.specs.Prelude.{is_ok, nat_lt, option_map, option_and_then, unwrap_or, codes, slice_index_or}
use Rattle.std.specs.List.{All, fold, list_all, list_any}
use Rattle.std.specs.Option.{option_or}
use Rattle.std.specs.Result.{result_ok}
use Rattle.std.proofs.lemmas.Bool.{ltb-false}
use Rattle.std.proofs.lemmas.List.{get_or-map}
use Rattle.std.proofs.lemmas.List.Elements.{All-nil, All-cons}
use Rattle.std.proofs.lemmas.List.FromFn.{get_or-range_with_len}
use Rattle.gl_fields.specs.Fields.{Rises, comes_before}
use Rattle.gl_fields.specs.declared.entry.Entry.{Entry}
use Rattle.gl_fields.specs.declared.input_kind.InputKind.TheVariants.{Raw, Gelf, Syslog}
use Rattle.gl_fields.specs.declared.set_rule.SetRule.{SetRule}
use Rattle.gl_streams.specs.declared.stream.Stream.{Stream}
use Rattle.gl_extract.specs.declared.parts.ExtractorParts.{ExtractorParts}
use Rattle.gl_grok.specs.Answers.{answer}
use Rattle.gl_grok.specs.Initial.{initial}
use Rattle.gl_rulelang.specs.declared.pipeline.Pipeline.{Pipeline}
use Rattle.gl_check.specs.Checking.{first_fault}
use Rattle.gl_commands.specs.declared.command.Command.{Command}
use Rattle.gl_commands.specs.CommandReading.{command_in}
use Rattle.gl_settings.specs.declared.input.Input.{Input}
use Rattle.gl_settings.specs.declared.user.User.{User}
use Rattle.gl_settings.specs.declared.refusal.Bound.{Bound}
use Rattle.gl_settings.specs.declared.refusal.Bound.TheVariants.{Streams}
use Rattle.gl_settings.specs.declared.refusal.ConfigRefusal.{ConfigRefusal}
use Rattle.gl_settings.specs.declared.refusal.ConfigRefusal.TheVariants.{Limit}
use Rattle.gl_settings.specs.Settings.{Settings, initial_settings, default_stream, new_input, has_name, rules_named}
use Rattle.gl_settings.specs.Limits.{counted, counted_last, first_passed, budget_refusal, limit_of}
use Rattle.gl_settings.specs.Patterns.{pattern_bytes}
use Rattle.gl_config.specs.Applying.{applied}
use Rattle.gl_history.specs.Versions.{commands_of, accepted, after_command, config_at}
use Rattle.gl_history.specs.Lawful.{keys, values, KindExpands, IsRule, IsStreamId, IsPipelineName, shares, IsSettings}
use Rattle.gl_history.proofs.Listing.{both_first, both_second, all_of}
use Rattle.gl_history.proofs.Causing.{NamesApart, none_first}
use Rattle.gl_history.proofs.Staying.{settings_stay}

-- what a test says of a list

abbrev rising : {X : Type 0} → (X → X → Bool) → List X → Bool
rising r [] = true
rising r (x ∷ xs) = list_all (r x) xs && rising r xs

rises : {X : Type 0} (r : X → X → Bool) (xs : List X) → rising r xs ≡ true → Rises (λ x y. r x y ≡ true) xs
rises r [] h = tt
rises r (x ∷ xs) h = (all_of (r x) xs (both_first (list_all (r x) xs) (rising r xs) h), rises r xs (both_second (list_all (r x) xs) (rising r xs) h))

one : {X : Type 0} (P : X → Type 0) (x : X) → P x → All P (x ∷ [])
one P x h = All-cons P x [] h (All-nil P)

three : {X : Type 0} (P : X → Type 0) (x y z : X) → P x → P y → P z → All P (x ∷ y ∷ z ∷ [])
three P x y z h i j = All-cons P x (y ∷ z ∷ []) h (All-cons P y (z ∷ []) i (one P z j))

abbrev first_set : SetRule
first_set = record { name = codes "graylog"; max_docs = 0; max_ms = 0; keep = 1 }

abbrev admin : User
admin = record {
  name = codes "admin";
  token_sha256 = codes "8c6976e5b5410415bde908bd4dee15dfb167a9c873fc4bb8a81f6f2ab448a918";
  admin = true;
  streams = [];
}

abbrev InputExpands : Input → Type 0
InputExpands input = All (λ (parts : ExtractorParts). KindExpands initial parts.kind) input.extractors

no_extractors : All (λ (parts : ExtractorParts). KindExpands initial parts.kind) []
no_extractors = All-nil (λ (parts : ExtractorParts). KindExpands initial parts.kind)

pub new_store : IsSettings initial_settings
new_store = record {
  inputs = record {
    names = (
      All-cons (λ name. bytes_eq name (codes "raw") ≡ false) (codes "gelf") (codes "syslog" ∷ []) refl (one (λ name. bytes_eq name (codes "raw") ≡ false) (codes "syslog") refl),
      (one (λ name. bytes_eq name (codes "gelf") ≡ false) (codes "syslog") refl, (All-nil (λ name. bytes_eq name (codes "syslog") ≡ false), tt)),
    );
    expand = three InputExpands (new_input (codes "raw") Raw) (new_input (codes "gelf") Gelf) (new_input (codes "syslog") Syslog) no_extractors no_extractors no_extractors;
  };
  sets = record {
    names = (All-nil (λ name. comes_before (codes "graylog") name ≡ true), tt);
    keep = one (λ (set : SetRule). 0 < set.keep) first_set (omega arith);
  };
  streams = record {
    ids = refl;
    names = (All-nil (λ name. bytes_eq name (codes "Default") ≡ false), tt);
    known_sets = one (λ (stream : Stream). has_name (λ (set : SetRule). set.name) stream.index_set (first_set ∷ []) ≡ true) default_stream refl;
  };
  rules = record { names = tt; lawful = All-nil (λ rule. first_fault rule ≡ None) };
  pipelines = record { names = tt; known_rules = All-nil (λ (pipeline : Pipeline). All (IsRule []) (rules_named pipeline)) };
  connections = record {
    rise = tt;
    known_streams = All-nil (λ (connection : ℕ × List (List ℕ)). IsStreamId (default_stream ∷ []) connection.0);
    known_pipelines = All-nil (λ (connection : ℕ × List (List ℕ)). All (IsPipelineName []) connection.1);
  };
  lookups = tt;
  groks = record { names = rises comes_before (keys initial) refl; expand = all_of (λ pattern. is_ok (answer initial pattern)) (values initial) refl };
  users = record {
    names = (All-nil (λ name. comes_before (codes "admin") name ≡ true), tt);
    hashes = one (λ (user : User). list_any (shares user) (admin ∷ []) ≡ false) admin refl;
    known_streams = one (λ (user : User). All (IsStreamId (default_stream ∷ [])) user.streams) admin (All-nil (IsStreamId (default_stream ∷ [])));
  };
  limits = refl;
}

-- each configuration of a journal

after_result : NamesApart → (c : Settings) (command : Command) → IsSettings c → (r : Result Settings ConfigRefusal) → applied c command ≡ r → IsSettings (unwrap_or (result_ok r) c)
after_result apart c command h (Ok next) is = settings_stay apart c next command h is
after_result apart c command h (Err refusal) is = h

after_option : NamesApart → (c : Settings) → IsSettings c → (o : Option Command) → IsSettings (unwrap_or (option_and_then (λ command. result_ok (applied c command)) o) c)
after_option apart c h None = h
after_option apart c h (Some command) = after_result apart c command h (applied c command) refl

after_text : NamesApart → (c : Settings) (text : List ℕ) → IsSettings c → IsSettings (after_command c text)
unfolding accepted
after_text apart c text h = after_option apart c h (command_in text)

after_all : NamesApart → (texts : List (List ℕ)) (c : Settings) → IsSettings c → IsSettings (fold after_command c texts)
after_all apart [] c h = h
after_all apart (text ∷ texts) c h = after_all apart texts (after_command c text) (after_text apart c text h)

pub at_version : NamesApart → (journal : List Entry) (version : ℕ) → IsSettings (config_at journal version)
unfolding config_at
at_version apart journal version = after_all apart (take version (commands_of journal)) initial_settings new_store

-- the ids of streams

found_by : {X : Type 0} (p : X → Bool) (x : X) (xs : List X) (b : Bool) → p x ≡ b → cond b (Some x) (find p xs) ≡ None → (find p xs ≡ None → All (λ y. p y ≡ false) xs)
    → All (λ y. p y ≡ false) (x ∷ xs)
found_by p x xs true is h rest = absurd cc
found_by p x xs false is h rest = All-cons (λ y. p y ≡ false) x xs is (rest h)

found_none : {X : Type 0} (p : X → Bool) (xs : List X) → find p xs ≡ None → All (λ x. p x ≡ false) xs
found_none p [] h = All-nil (λ x. p x ≡ false)
found_none p (x ∷ xs) h = found_by p x xs (p x) refl h (λ none. found_none p xs none)

no_refusal : (o : Option (Bound × ℕ × ℕ)) → option_map (λ (bound : Bound × ℕ × ℕ). Limit bound.0 bound.1) o ≡ None → o ≡ None
no_refusal None h = refl
no_refusal (Some bound) h = absurd cc

few_streams : (c : Settings) → limit_of c ≡ None → length c.streams ≤ 128
few_streams c h =
    let first : first_passed (counted c) ≡ None
    = none_first (first_passed (counted c)) (option_or (first_passed (counted_last c)) (budget_refusal (pattern_bytes c))) h in
    let none : All (λ (bound : Bound × ℕ × ℕ). nat_lt bound.1 bound.2 ≡ false) (counted c)
    = found_none (λ (bound : Bound × ℕ × ℕ). nat_lt bound.1 bound.2) (counted c) (no_refusal (find (λ (bound : Bound × ℕ × ℕ). nat_lt bound.1 bound.2) (counted c)) first) in
    let third : nat_lt 128 (length c.streams) ≡ false = none 2 (Streams, 128, length c.streams) (lit< tt) in
    omega (arith, ltb-false 128 (length c.streams) third)

pub few_ids : (c : Settings) → IsSettings c → All (λ (stream : Stream). stream.id ≤ 128) c.streams
few_ids c h k d lt =
    let id : (slice_index_or c.streams k d).id ≡ 1 + k =
    sym (get_or-map (λ (stream : Stream). stream.id) c.streams k d 0 lt)
    ∙ ap (λ (ids : List ℕ). get_or ids k 0) h.streams.ids
    ∙ get_or-range_with_len 1 (length c.streams) k 0 lt in
    omega (arith, id, lt, few_streams c h.limits)
