-- What was built meets a message: the book of rules, and the input that the message names.
use Rattle.std.proofs.Common.{◌≡◌, ℕ, ◌<◌, true, false, List, [], ◌∷◌, length, get_or, map, Option, Some, None, Result, Ok, Err, refl, sym, ap, ◌∙◌, subst, arith}
use Rattle.std.specs.Prelude.{position, slice_get, is_some, option_map, unwrap_or, IfOk}
use Rattle.std.specs.List.{All}
use Rattle.std.specs.Str.{bytes_eq}
use Rattle.std.proofs.lemmas.Bool.{false≢true}
use Rattle.std.proofs.lemmas.List.{get_or-map, length-map}
use Rattle.std.proofs.lemmas.Option.{slice_get-get_or}
use Rattle.gl_base.proofs.Counting.{find_at_none, find_at_some}
use Rattle.gl_fields.specs.declared.field.Field.{Field}
use Rattle.gl_fields.specs.declared.input_kind.InputKind.{InputKind}
use Rattle.gl_fields.specs.declared.input_kind.InputKind.TheVariants.{Raw}
use Rattle.gl_fields.specs.declared.entry.Message.{Message as Payload}
use Rattle.gl_fields.specs.declared.entry.Cause.{Cause}
use Rattle.gl_fields.specs.declared.entry.Outcome.{Outcome}
use Rattle.gl_fields.specs.declared.entry.Outcome.TheVariants.{Undecodable}
use Rattle.gl_rulelang.specs.declared.pipeline.Pipeline.{Pipeline}
use Rattle.gl_rulelang.specs.Tree.{RuleTree}
use Rattle.gl_streams.specs.Ids.{streams_of}
use Rattle.gl_functions.specs.Worlds.{Known}
use Rattle.gl_decoding.specs.Decoding.{decoded}
use Rattle.gl_extract.specs.declared.parts.ExtractorParts.{ExtractorParts}
use Rattle.gl_check.specs.Checking.{pattern_texts}
use Rattle.gl_stage.specs.Books.{Book, Fits, rules_in, scene_of, layout_of}
use Rattle.gl_stage.specs.Rounds.{run_end}
use Rattle.gl_settings.specs.declared.input.Input.{Input}
use Rattle.gl_settings.specs.Settings.{Settings, input_named, is_input, extractors_of}
use Rattle.gl_building.specs.Places.{book_of, extracted_all}
use Rattle.gl_outcome.specs.Outcomes.{kind_under, world_of, scene_under, matched, processed, message_under}

-- The rules of a book fit.

pub book_fits : (rules : List RuleTree) → All Fits (book_of rules)
book_fits rules k d within =
    let inside : k < length rules = omega (arith, within, length-map {B = RuleTree × List (List ℕ)} rules (λ (rule : RuleTree). (rule, pattern_texts rule))) in
    subst Fits (sym (get_or-map {Y = RuleTree × List (List ℕ)} (λ (rule : RuleTree). (rule, pattern_texts rule)) rules k d.0 d inside)) refl

pub book_rules : (rules : List RuleTree) → rules_in (book_of rules) ≡ rules
book_rules [] = refl
book_rules (rule ∷ rules) = ap (λ (l : List RuleTree). rule ∷ l) (book_rules rules)

-- The input of a message.

pub no_input : (c : Settings) (name : List ℕ) → position (λ (input : Input). bytes_eq name input.name) c.inputs ≡ None → input_named c name ≡ None
no_input c name e = find_at_none (λ (input : Input). bytes_eq name input.name) c.inputs e

pub input_within : (c : Settings) (name : List ℕ) (i : ℕ) (d : Input) → position (λ (input : Input). bytes_eq name input.name) c.inputs ≡ Some i → i < length c.inputs
input_within c name i d e = (find_at_some (λ (input : Input). bytes_eq name input.name) c.inputs i d e).0

pub input_at : (c : Settings) (name : List ℕ) (i : ℕ) (input : Input) → position (λ (other : Input). bytes_eq name other.name) c.inputs ≡ Some i → input ≡ get_or c.inputs i input
    → input_named c name ≡ Some input
input_at c name i input e there = (find_at_some (λ (other : Input). bytes_eq name other.name) c.inputs i input e).2 ∙ ap Some (sym there)

pub input_taken : (c : Settings) (name : List ℕ) (i : ℕ) (input : Input) → position (λ (other : Input). bytes_eq name other.name) c.inputs ≡ Some i → input ≡ get_or c.inputs i input
    → slice_get c.inputs i ≡ Some input
input_taken c name i input e there = slice_get-get_or c.inputs i input (input_within c name i input e) ∙ ap Some (sym there)

-- the input of a message that is staged is there
pub input_is_there : (c : Settings) (name : List ℕ) → position (λ (input : Input). bytes_eq name input.name) c.inputs ≡ None → is_input c name ≡ true → ⊥
input_is_there c name e there =
    let P : Option Input → Type 0 = λ (o : Option Input). is_some (option_map (λ (input : Input). input.kind) o) ≡ true in
    let none : false ≡ true = subst P (no_input c name e) there in
    false≢true none

-- What becomes of a message, by the kind and the extractors of its input.

module _ (c : Settings) (m : Payload) (input : Input) (named : input_named c m.input ≡ Some input) where
  kind_is : kind_under c m.input ≡ input.kind
  kind_is = ap (λ (o : Option Input). unwrap_or (option_map (λ (other : Input). other.kind) o) Raw) named

  extractors_are : extractors_of c m.input ≡ input.extractors
  extractors_are = ap (λ (o : Option Input). unwrap_or (option_map (λ (other : Input). other.extractors) o) []) named

  pub undecodable_under : (cause : Cause) → Err cause ≡ decoded input.kind m → Undecodable cause ≡ message_under c m
  unfolding message_under processed
  undecodable_under cause e = ap (processed c m.input) (e ∙ ap (λ (kind : InputKind). decoded kind m) (sym kind_is))

  pub processed_under : (fields : List Field) (o : Outcome) → Ok fields ≡ decoded input.kind m
      → o ≡ run_end (scene_under c) (layout_of c.pipelines c.connections) (matched c (extracted_all c.groks input.extractors fields)) → o ≡ message_under c m
  unfolding message_under processed
  processed_under fields o e is =
      is
      ∙ ap (λ (extractors : List ExtractorParts). run_end (scene_under c) (layout_of c.pipelines c.connections) (matched c (extracted_all c.groks extractors fields))) (sym extractors_are)
      ∙ ap (processed c m.input) (e ∙ ap (λ (kind : InputKind). decoded kind m) (sym kind_is))

-- the end that a run by the built rules reaches is that of the configuration
pub end_under : (c : Settings) (fields : List Field) (world : Known) (book : Book) (ids : List ℕ) (pipelines : List Pipeline) (connections : List (ℕ × List (List ℕ))) (o : Outcome)
    → world ≡ world_of c → book ≡ book_of c.rules → ids ≡ streams_of c.streams fields → pipelines ≡ c.pipelines → connections ≡ c.connections
    → o ≡ run_end (scene_of world book) (layout_of pipelines connections) (record { fields = fields; streams = ids; dropped = false })
    → o ≡ run_end (scene_under c) (layout_of c.pipelines c.connections) (matched c fields)
end_under c fields world book ids pipelines connections o world_is book_is ids_are pipelines_are connections_are is =
    is
    ∙ ap (λ (known : Known). run_end (scene_of known book) (layout_of pipelines connections) (record { fields = fields; streams = ids; dropped = false })) world_is
    ∙ ap (λ (rules : List RuleTree). run_end (record { world = world_of c; rules = rules }) (layout_of pipelines connections) (record { fields = fields; streams = ids; dropped = false })) (ap rules_in book_is ∙ book_rules c.rules)
    ∙ ap (λ (others : List ℕ). run_end (scene_under c) (layout_of pipelines connections) (record { fields = fields; streams = others; dropped = false })) ids_are
    ∙ ap (λ (others : List Pipeline). run_end (scene_under c) (layout_of others connections) (matched c fields)) pipelines_are
    ∙ ap (λ (others : List (ℕ × List (List ℕ))). run_end (scene_under c) (layout_of c.pipelines others) (matched c fields)) connections_are

-- the place that a call finds
pub place_is : (name lent : List ℕ) (inputs shown : List Input) (found is : Option ℕ) → lent ≡ name → shown ≡ inputs
    → found ≡ position (λ (input : Input). bytes_eq lent input.name) shown → found ≡ is → position (λ (input : Input). bytes_eq name input.name) inputs ≡ is
place_is name lent inputs shown found is name_is inputs_are by_call found_is =
    ap (λ (other : List ℕ). position (λ (input : Input). bytes_eq other input.name) inputs) (sym name_is)
    ∙ ap (λ (others : List Input). position (λ (input : Input). bytes_eq lent input.name) others) (sym inputs_are)
    ∙ sym by_call
    ∙ found_is

-- two facts of a result give a third
pub both_hold : {T E : Type 0} (r : Result T E) (P Q R : T → Type 0) → ((x : T) → P x → Q x → R x) → IfOk r P → IfOk r Q → IfOk r R
both_hold (Ok x) P Q R gives p q = gives x p q
both_hold (Err e) P Q R gives p q = tt
