-- The object of a command: whole numbers, rising keys, four levels, and no float.
use Rattle.std.specs.Prelude.{◌≡◌, ℕ, suc, ◌≤◌, ⊤, Bool, false, List, [], ◌∷◌, map, codes}
use Rattle.std.proofs.Common.{refl, arith}
use Rattle.serde_json.specs.Data.{Data, boolean, string, depth}
use Rattle.serde_json.specs.View.{items_of}
use Rattle.serde_json.specs.Written.{has_float, items_have_float}
use Rattle.gl_extract.specs.declared.parts.ExtractorKind.{ExtractorKind}
use Rattle.gl_extract.specs.declared.parts.ExtractorKind.TheVariants as kinds
use Rattle.gl_extract.specs.declared.parts.Condition.{Condition}
use Rattle.gl_extract.specs.declared.parts.Condition.TheVariants as conditions
use Rattle.gl_extract.specs.declared.parts.Converter.{Converter}
use Rattle.gl_extract.specs.declared.parts.ExtractorParts.{ExtractorParts}
use Rattle.gl_commands.specs.declared.command.RuleParts.{RuleParts}
use Rattle.gl_commands.specs.declared.command.Command.{Command}
use Rattle.gl_commands.specs.declared.command.Command.TheVariants.{CreateInput, SetExtractors, CreateIndexSet, CreateStream, SetStream, CreateRule, SetRule, CreatePipeline, SetPipeline, Connect, CreateLookup, SetLookup, CreateGrok, SetGrok, CreateUser, SetUser}
use Rattle.gl_commands.specs.Texts.{converter_name, whole, id_data, list_data, rule_keys, rule_data, condition_data, extractor_keys, extractor_data, command_keys, command_data, IsNumber, KindHasNumbers, HasNumbers}
use Rattle.gl_commands.proofs.Canonical.{IsCanonical}
use Rattle.gl_commands.proofs.Keyed.{IsTidy, EachKey, keyed_tidy, list_tidy, each_tidy}

leaf : (n : ℕ) → ⊤ × (0 ≤ n)
leaf n = (tt, omega arith)

number_tidy : (n k : ℕ) → IsNumber k → IsTidy n (whole k)
number_tidy n k h = (omega (arith, h), omega arith)

rule_tidy : (rule : RuleParts) → IsTidy 2 (rule_data rule)
rule_tidy rule = keyed_tidy 1 (rule_keys rule) (leaf 1, (leaf 1, (leaf 1, (leaf 1, tt))))

condition_tidy : (condition : Condition) → IsTidy 1 (condition_data condition)
condition_tidy conditions.None = (tt, omega arith)
condition_tidy (conditions.Contains part) = keyed_tidy 0 ((codes "contains", string part) ∷ []) (leaf 0, tt)
condition_tidy (conditions.Regex pattern) = keyed_tidy 0 ((codes "regex", string pattern) ∷ []) (leaf 0, tt)

converters_tidy : (converters : List Converter) → IsTidy 1 (list_data (λ converter. string (converter_name converter)) converters)
converters_tidy converters = each_tidy 0 (λ converter. string (converter_name converter)) (λ converter. leaf 0) converters

kind_tidy : (source : List ℕ) (cut : Bool) (condition : Condition) (converters : List Converter) (kind : ExtractorKind) → KindHasNumbers kind
    → EachKey (IsTidy 1) (extractor_keys (record { kind = kind; source = source; cut = cut; condition = condition; converters = converters }))
kind_tidy source cut condition converters (kinds.Regex pattern target) h =
    (leaf 1, (leaf 1, (leaf 1, (leaf 1, (leaf 1, (condition_tidy condition, (converters_tidy converters, tt)))))))
kind_tidy source cut condition converters (kinds.Substring begin end target) h =
    (leaf 1, (leaf 1, (number_tidy 1 begin h.0, (number_tidy 1 end h.1, (leaf 1, (leaf 1, (condition_tidy condition, (converters_tidy converters, tt))))))))
kind_tidy source cut condition converters (kinds.Split by index target) h =
    (leaf 1, (leaf 1, (leaf 1, (number_tidy 1 index h, (leaf 1, (leaf 1, (condition_tidy condition, (converters_tidy converters, tt))))))))
kind_tidy source cut condition converters (kinds.Grok pattern) h =
    (leaf 1, (leaf 1, (leaf 1, (leaf 1, (leaf 1, (condition_tidy condition, (converters_tidy converters, tt)))))))
kind_tidy source cut condition converters kinds.Json h =
    (leaf 1, (leaf 1, (leaf 1, (leaf 1, (condition_tidy condition, (converters_tidy converters, tt))))))

extractor_tidy : (parts : ExtractorParts) → KindHasNumbers parts.kind → IsTidy 2 (extractor_data parts)
extractor_tidy parts h = keyed_tidy 1 (extractor_keys parts) (kind_tidy parts.source parts.cut parts.condition parts.converters parts.kind h)

rules_tidy : (rules : List RuleParts) → IsTidy 3 (list_data rule_data rules)
rules_tidy rules = each_tidy 2 rule_data rule_tidy rules

ids_tidy : (n : ℕ) (ids : List ℕ) → IsTidy (suc n) (list_data id_data ids)
ids_tidy n ids = each_tidy n id_data (λ id. leaf n) ids

texts_tidy : (n : ℕ) (texts : List (List ℕ)) → IsTidy (suc n) (list_data string texts)
texts_tidy n texts = each_tidy n string (λ name. leaf n) texts

keys_tidy : (command : Command) → HasNumbers command → EachKey (IsTidy 3) (command_keys command)
keys_tidy (CreateInput name kind) h = (leaf 3, (leaf 3, (leaf 3, tt)))
keys_tidy (SetExtractors input extractors) h =
    (leaf 3, (leaf 3, (list_tidy 2 extractor_data (λ (parts : ExtractorParts). KindHasNumbers parts.kind) extractor_tidy extractors h, tt)))
keys_tidy (CreateIndexSet name max_docs max_ms keep) h =
    (leaf 3, (leaf 3, (number_tidy 3 max_docs h.0, (number_tidy 3 max_ms h.1, (number_tidy 3 keep h.2, tt)))))
keys_tidy (CreateStream name index_set any removes rules) h =
    (leaf 3, (leaf 3, (leaf 3, (leaf 3, (leaf 3, (rules_tidy rules, tt))))))
keys_tidy (SetStream id any removes paused rules) h =
    (leaf 3, (leaf 3, (leaf 3, (leaf 3, (leaf 3, (rules_tidy rules, tt))))))
keys_tidy (CreateRule source) h = (leaf 3, (leaf 3, tt))
keys_tidy (SetRule source) h = (leaf 3, (leaf 3, tt))
keys_tidy (CreatePipeline source) h = (leaf 3, (leaf 3, tt))
keys_tidy (SetPipeline source) h = (leaf 3, (leaf 3, tt))
keys_tidy (Connect stream pipelines) h = (leaf 3, (leaf 3, (texts_tidy 2 pipelines, tt)))
keys_tidy (CreateLookup name csv key value) h = (leaf 3, (leaf 3, (leaf 3, (leaf 3, (leaf 3, tt)))))
keys_tidy (SetLookup name csv key value) h = (leaf 3, (leaf 3, (leaf 3, (leaf 3, (leaf 3, tt)))))
keys_tidy (CreateGrok name pattern) h = (leaf 3, (leaf 3, (leaf 3, tt)))
keys_tidy (SetGrok name pattern) h = (leaf 3, (leaf 3, (leaf 3, tt)))
keys_tidy (CreateUser name hash admin streams) h = (leaf 3, (leaf 3, (leaf 3, (leaf 3, (ids_tidy 2 streams, tt)))))
keys_tidy (SetUser name hash admin streams) h = (leaf 3, (leaf 3, (leaf 3, (leaf 3, (ids_tidy 2 streams, tt)))))

pub command_tidy : (command : Command) → HasNumbers command → IsTidy 4 (command_data command)
unfolding command_data
command_tidy command h = keyed_tidy 3 (command_keys command) (keys_tidy command h)

-- It has no float, whatever its numbers are.

no_float_in : {A : Type 0} (form : A → Data) → ((x : A) → has_float (form x) ≡ false) → (xs : List A) → items_have_float (items_of (map form xs)) ≡ false
no_float_in form one [] = refl
no_float_in form one (x ∷ xs) = rw (one x, no_float_in form one xs) refl

extractor_has_none : (parts : ExtractorParts) → has_float (extractor_data parts) ≡ false
extractor_has_none parts = of_parts parts.kind parts.condition
  where
    none : items_have_float (items_of (map (λ converter. string (converter_name converter)) parts.converters)) ≡ false
    none = no_float_in (λ converter. string (converter_name converter)) (λ converter. refl) parts.converters

    of_condition : (condition : Condition) → has_float (condition_data condition) ≡ false
    of_condition conditions.None = refl
    of_condition (conditions.Contains part) = refl
    of_condition (conditions.Regex pattern) = refl

    of_parts : (kind : ExtractorKind) (condition : Condition) → has_float (extractor_data (record { kind = kind; source = parts.source; cut = parts.cut; condition = condition; converters = parts.converters })) ≡ false
    of_parts (kinds.Regex pattern target) condition = rw (of_condition condition, none) refl
    of_parts (kinds.Substring begin end target) condition = rw (of_condition condition, none) refl
    of_parts (kinds.Split by index target) condition = rw (of_condition condition, none) refl
    of_parts (kinds.Grok pattern) condition = rw (of_condition condition, none) refl
    of_parts kinds.Json condition = rw (of_condition condition, none) refl

rules_have_none : (rules : List RuleParts) → items_have_float (items_of (map rule_data rules)) ≡ false
rules_have_none rules = no_float_in rule_data (λ rule. refl) rules

ids_have_none : (ids : List ℕ) → items_have_float (items_of (map id_data ids)) ≡ false
ids_have_none ids = no_float_in id_data (λ id. refl) ids

pub no_float : (command : Command) → has_float (command_data command) ≡ false
unfolding command_data
no_float (CreateInput name kind) = refl
no_float (SetExtractors input extractors) = rw (no_float_in extractor_data extractor_has_none extractors) refl
no_float (CreateIndexSet name max_docs max_ms keep) = refl
no_float (CreateStream name index_set any removes rules) = rw (rules_have_none rules) refl
no_float (SetStream id any removes paused rules) = rw (rules_have_none rules) refl
no_float (CreateRule source) = refl
no_float (SetRule source) = refl
no_float (CreatePipeline source) = refl
no_float (SetPipeline source) = refl
no_float (Connect stream pipelines) = rw (no_float_in string (λ name. refl) pipelines) refl
no_float (CreateLookup name csv key value) = refl
no_float (SetLookup name csv key value) = refl
no_float (CreateGrok name pattern) = refl
no_float (SetGrok name pattern) = refl
no_float (CreateUser name hash admin streams) = rw (ids_have_none streams) refl
no_float (SetUser name hash admin streams) = rw (ids_have_none streams) refl
