-- What it says that a command has no cause against it.
use Rattle.std.proofs.Common.{◌≡◌, ℕ, Bool, true, false, List, [], ◌∷◌, map, Some, None, Result, Ok, Err, refl, sym, ap, ◌∙◌}
use Rattle.std.specs.Prelude.{is_ok, IsOk}
use Rattle.std.specs.List.{All}
use Rattle.std.specs.Option.{option_or}
use Rattle.std.specs.Result.{result_err}
use Rattle.std.proofs.lemmas.List.Elements.{All-nil, All-cons, All-weaker}
use Rattle.gl_extract.specs.declared.parts.ExtractorKind.{ExtractorKind}
use Rattle.gl_extract.specs.declared.parts.ExtractorKind.TheVariants.{Regex, Substring, Split, Grok, Json}
use Rattle.gl_extract.specs.declared.parts.ExtractorParts.{ExtractorParts}
use Rattle.gl_extract.specs.Refusals.{refusal_of}
use Rattle.gl_grok.specs.declared.expansion.Expanded.{Expanded}
use Rattle.gl_grok.specs.declared.refusal.GrokRefusal.{GrokRefusal}
use Rattle.gl_grok.specs.Tables.{Table, with_pattern, is_known}
use Rattle.gl_grok.specs.Names.{contains, names_met}
use Rattle.gl_grok.specs.Answers.{answer}
use Rattle.gl_settings.specs.declared.input.Input.{Input}
use Rattle.gl_settings.specs.declared.refusal.Text.TheVariants.{Grok as GrokText, Extract}
use Rattle.gl_settings.specs.declared.refusal.ConfigRefusal.{ConfigRefusal}
use Rattle.gl_settings.specs.declared.refusal.ConfigRefusal.TheVariants.{UnknownName}
use Rattle.gl_settings.specs.Settings.{Settings}
use Rattle.gl_config.specs.Applying.{Cause, first_of, unless, created, known, lower, grok_cause, kind_cause, extractor_cause, kinds_cause, inputs_cause, refused_by}
use Rattle.gl_history.specs.Lawful.{Expands, KindExpands}

pub none_first : (a b : Cause) → option_or a b ≡ None → a ≡ None
none_first None b h = refl
none_first (Some r) b h = h

pub none_second : (a b : Cause) → option_or a b ≡ None → b ≡ None
none_second None b h = h
none_second (Some r) b h = cc h

pub fine : (b : Bool) (r : ConfigRefusal) → unless b r ≡ None → b ≡ true
fine true r h = refl
fine false r h = cc h

pub not_created : (b : Bool) → created b ≡ None → b ≡ false
not_created true h = cc h
not_created false h = refl

pub is_there : (b : Bool) → known b ≡ None → b ≡ true
is_there b h = fine b UnknownName h

pub firsts_none : {X : Type 0} (f : X → Cause) (xs : List X) → first_of (map f xs) ≡ None → All (λ x. f x ≡ None) xs
firsts_none f [] h = All-nil (λ x. f x ≡ None)
firsts_none f (x ∷ xs) h =
    All-cons (λ y. f y ≡ None) x xs (none_first (f x) (first_of (map f xs)) h) (firsts_none f xs (none_second (f x) (first_of (map f xs)) h))

pub made_by : (cause : Cause) (made next : Settings) → refused_by cause made ≡ Ok next → (cause ≡ None) × (made ≡ next)
made_by None made next h = (refl, cc)
made_by (Some refusal) made next h = absurd cc

-- patterns of grok

expands_by : (r : Result Expanded GrokRefusal) → lower GrokText (result_err r) ≡ None → IsOk r
expands_by (Ok expanded) h = refl
expands_by (Err refusal) h = cc h

pub expands : (groks : Table) (pattern : List ℕ) → grok_cause groks pattern ≡ None → Expands groks pattern
expands groks pattern h = expands_by (answer groks pattern) h

pub kind_expands : (groks : Table) (kind : ExtractorKind) → kind_cause groks kind ≡ None → KindExpands groks kind
kind_expands groks (Regex pattern target) h = tt
kind_expands groks (Substring begin end target) h = tt
kind_expands groks (Split by index target) h = tt
kind_expands groks (Grok pattern) h = expands groks pattern h
kind_expands groks Json h = tt

pub extractors_expand : (groks : Table) (extractors : List ExtractorParts) → first_of (map (extractor_cause groks) extractors) ≡ None
    → All (λ (parts : ExtractorParts). KindExpands groks parts.kind) extractors
extractors_expand groks extractors h =
    All-weaker (λ parts. extractor_cause groks parts ≡ None) (λ (parts : ExtractorParts). KindExpands groks parts.kind)
    (λ parts none. kind_expands groks parts.kind (none_second (lower Extract (refusal_of parts)) (kind_cause groks parts.kind) none))
    extractors (firsts_none (extractor_cause groks) extractors h)

pub kinds_expand : (groks : Table) (extractors : List ExtractorParts) → kinds_cause groks extractors ≡ None → All (λ (parts : ExtractorParts). KindExpands groks parts.kind) extractors
kinds_expand groks extractors h =
    All-weaker (λ (parts : ExtractorParts). kind_cause groks parts.kind ≡ None) (λ (parts : ExtractorParts). KindExpands groks parts.kind)
    (λ parts none. kind_expands groks parts.kind none) extractors (firsts_none (λ (parts : ExtractorParts). kind_cause groks parts.kind) extractors h)

pub inputs_expand : (groks : Table) (inputs : List Input) → inputs_cause groks inputs ≡ None
    → All (λ (input : Input). All (λ (parts : ExtractorParts). KindExpands groks parts.kind) input.extractors) inputs
inputs_expand groks inputs h =
    All-weaker (λ (input : Input). kinds_cause groks input.extractors ≡ None) (λ (input : Input). All (λ (parts : ExtractorParts). KindExpands groks parts.kind) input.extractors)
    (λ input none. kinds_expand groks input.extractors none) inputs (firsts_none (λ (input : Input). kinds_cause groks input.extractors) inputs h)

-- a pattern more

-- what is answered of a text that doesn't reach a name isn't changed by it, and what a text that expands reaches is known
pub record NamesApart : Type 0 where
  pub answered : (table : Table) (text name pattern : List ℕ) → contains (names_met table text) name ≡ false → answer (with_pattern table name pattern) text ≡ answer table text
  pub reached : (table : Table) (text name : List ℕ) (expanded : Expanded) → answer table text ≡ Ok expanded → contains (names_met table text) name ≡ true → is_known table name ≡ true

by_met : NamesApart → (table : Table) (name pattern text : List ℕ) (expanded : Expanded) → is_known table name ≡ false → answer table text ≡ Ok expanded
    → (b : Bool) → contains (names_met table text) name ≡ b → Expands (with_pattern table name pattern) text
by_met apart table name pattern text expanded new is true met =
    let clash : true ≡ false = sym (apart.reached table text name expanded is met) ∙ new in
    cc clash
by_met apart table name pattern text expanded new is false met = ap is_ok (apart.answered table text name pattern met ∙ is)

pub still_expands : NamesApart → (table : Table) (name pattern : List ℕ) → is_known table name ≡ false → (text : List ℕ) → Expands table text → Expands (with_pattern table name pattern) text
still_expands apart table name pattern new text ok = by (answer table text) refl ok
  where
    by : (r : Result Expanded GrokRefusal) → answer table text ≡ r → IsOk r → Expands (with_pattern table name pattern) text
    by (Ok expanded) is ok = by_met apart table name pattern text expanded new is (contains (names_met table text) name) refl
    by (Err refusal) is ok = cc ok

pub kind_still_expands : NamesApart → (table : Table) (name pattern : List ℕ) → is_known table name ≡ false → (kind : ExtractorKind) → KindExpands table kind
    → KindExpands (with_pattern table name pattern) kind
kind_still_expands apart table name pattern new (Regex text target) h = tt
kind_still_expands apart table name pattern new (Substring begin end target) h = tt
kind_still_expands apart table name pattern new (Split by index target) h = tt
kind_still_expands apart table name pattern new (Grok text) h = still_expands apart table name pattern new text h
kind_still_expands apart table name pattern new Json h = tt
