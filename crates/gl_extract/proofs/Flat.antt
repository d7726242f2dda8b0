-- The fields that `flatten` of gl_json gives of a text are those of its definition here.
use Rattle.std.proofs.Common.{◌≡◌, ℕ, zero, suc, List, [], ◌∷◌, ◌++◌, map, Result, Ok, Err, refl, sym, ap, ◌∙◌}
use Rattle.std.proofs.lemmas.List.{map-append}
use Rattle.std.specs.Prelude.{String}
use Rattle.std.specs.declared.alloc.Global.{Global}
use Rattle.gl_base.specs.Bytes.{behind_first}
use Rattle.gl_fields.specs.declared.field.Field.{Field}
use Rattle.gl_fields.specs.declared.value.Value.{Value as Held}
use Rattle.gl_fields.specs.declared.value.Value.TheVariants.{Text}
use Rattle.gl_json.specs.declared.refusal.JsonRefusal.{JsonRefusal}
use Rattle.gl_json.specs.declared.refusal.JsonRefusal.TheVariants as refusals
use Rattle.gl_json.specs.Escapes.{Says, text_of, said, text_or_nothing}
use Rattle.gl_json.specs.Flattening.{IsKept, kept_text, kept_number, kept_true, kept_false, kept_array, AreFlatWith, ended, kept, skipped, nested, IsFlatIn, AreFlat, Flattens}
use Rattle.gl_json.specs.Grammar.{Value, Pair, IsObject, IsObjectText}
use Rattle.gl_json.specs.Places.{object_of}
use Rattle.gl_json.specs.JsonReading.{elements_at, member_at, value_at}
use Rattle.gl_json.specs.Views.{field_view}
use Rattle.gl_extract.specs.Objects.{member_fields, members_fields, of_members, nested_fields, of_object, object_fields}
use Rattle.gl_extract.specs.Views.{field_of, field_of_pair}

-- What the laws of gl_json say of the reading of texts.
pub record Reads : Type 0 where
  pub read : (text : List ℕ) (ms : List Pair) → IsObjectText text ms → object_of text ≡ Ok ms
  pub is : (text : List ℕ) (ms : List Pair) → object_of text ≡ Ok ms → IsObjectText text ms
  pub inside : (levels : ℕ) (text : List ℕ) (ms : List Pair) → IsObject levels text ms → elements_at (member_at (value_at levels)) 125 (behind_first text) ≡ Ok (ms, [])
  pub says : (raw text : List ℕ) → Says raw text → text_of raw ≡ Ok text

module _ (laws : Reads) where
  said_is : (raw name : List ℕ) → Says raw name → name ≡ said raw
  said_is raw name s = sym (ap text_or_nothing (laws.says raw name s))

  -- fields of members

  kept_is : (inner : List ℕ → List ℕ → List Field) (prefix name : List ℕ) (v : Value) (f : Held) → IsKept v f → member_fields inner prefix name v ≡ field_of (prefix ++ name, f) ∷ []
  unfolding member_fields
  kept_is inner prefix name v f (kept_text raw text says) = ap (λ (t : List ℕ). field_of (prefix ++ name, Text t) ∷ []) (sym (said_is raw text says))
  kept_is inner prefix name v f (kept_number literal) = refl
  kept_is inner prefix name v f kept_true = refl
  kept_is inner prefix name v f kept_false = refl
  kept_is inner prefix name v f (kept_array t) = refl

  flat_is : (inner : List ℕ → List ℕ → List Field) (Nested : List ℕ → List ℕ → List (List ℕ × Held) → Type 0) → ((p t : List ℕ) (gs : List (List ℕ × Held)) → Nested p t gs → map field_of gs ≡ inner p t)
      → (prefix : List ℕ) (ms : List Pair) (fs : List (List ℕ × Held)) → AreFlatWith Nested prefix ms fs → map field_of fs ≡ members_fields inner prefix ms
  unfolding member_fields members_fields
  flat_is inner Nested are prefix ms fs ended = refl
  flat_is inner Nested are prefix ms fs (kept raw name v f os hs says is more) =
      ap (λ (l : List Field). field_of (prefix ++ name, f) ∷ l) (flat_is inner Nested are prefix os hs more)
      ∙ ap (λ (l : List Field). l ++ members_fields inner prefix os) (sym (kept_is inner prefix name v f is))
      ∙ ap (λ (n : List ℕ). member_fields inner prefix n v ++ members_fields inner prefix os) (said_is raw name says)
  flat_is inner Nested are prefix ms fs (skipped raw os hs more) = flat_is inner Nested are prefix os hs more
  flat_is inner Nested are prefix ms fs (nested raw name t os gs hs says is more) =
      map-append field_of gs hs
      ∙ ap (λ (l : List Field). l ++ map field_of hs) (are (prefix ++ (name ++ 95 ∷ [])) t gs is)
      ∙ ap (λ (l : List Field). inner (prefix ++ (name ++ 95 ∷ [])) t ++ l) (flat_is inner Nested are prefix os hs more)
      ∙ ap (λ (n : List ℕ). inner (prefix ++ (n ++ 95 ∷ [])) t ++ members_fields inner prefix os) (said_is raw name says)

  nested_is : (n : ℕ) (prefix t : List ℕ) (gs : List (List ℕ × Held)) → IsFlatIn n prefix t gs → map field_of gs ≡ nested_fields n prefix t
  unfolding IsFlatIn nested_fields
  nested_is zero prefix t gs is = absurd is
  nested_is (suc n) prefix t gs is =
      flat_is (nested_fields n) (IsFlatIn n) (nested_is n) prefix is.0 gs is.2
      ∙ sym (ap (of_members (nested_fields n) prefix) (laws.inside n t is.0 is.1))

  -- whole texts

  views_are : (ps : List (String Global × Held)) → map field_of_pair ps ≡ map field_of (map field_view ps)
  views_are [] = refl
  views_are (p ∷ ps) = ap (λ (l : List Field). field_of_pair p ∷ l) (views_are ps)

  pub object_law : (text : List ℕ) (ms : List Pair) (fs : List (List ℕ × Held)) → IsObjectText text ms → AreFlat 63 [] ms fs → object_fields text ≡ map field_of fs
  unfolding object_fields
  object_law text ms fs is flat = ap of_object (laws.read text ms is) ∙ sym (flat_is (nested_fields 63) (IsFlatIn 63) (nested_is 63) [] ms fs flat)

  none_by : (text : List ℕ) → ((ms : List Pair) → IsObjectText text ms → ⊥) → (r : Result (List Pair) JsonRefusal) → object_of text ≡ r → of_object r ≡ []
  none_by text none (Ok ms) e = absurd (none ms (laws.is text ms e))
  none_by text none (Err refusal) e = refl

  pub none_law : (text : List ℕ) → ((ms : List Pair) → IsObjectText text ms → ⊥) → object_fields text ≡ []
  unfolding object_fields
  none_law text none = none_by text none (object_of text) refl

  pub object_is : (text : List ℕ) (ms : List Pair) (ps : List (String Global × Held)) → IsObjectText text ms → AreFlat 63 [] ms (map field_view ps) → map field_of_pair ps ≡ object_fields text
  unfolding object_fields
  object_is text ms ps is flat =
      views_are ps ∙ flat_is (nested_fields 63) (IsFlatIn 63) (nested_is 63) [] ms (map field_view ps) flat ∙ sym (ap of_object (laws.read text ms is))

no_object : (text : List ℕ) (e : JsonRefusal) → object_of text ≡ Err e → [] ≡ object_fields text
unfolding object_fields
no_object text e h = sym (ap of_object h)

-- a text that isn't an object
pub none_given : {X : Type 0} (view : X → List (List ℕ × Held)) (text : List ℕ) (e : JsonRefusal) → (e ≡ refusals.OutOfMemory → ⊥) → Flattens view (Err e) (object_of text) → [] ≡ object_fields text
none_given view text refusals.OutOfMemory other h = absurd (other refl)
none_given view text (refusals.NotJson at) other h = no_object text (refusals.NotJson at) h
none_given view text refusals.TooDeep other h = no_object text refusals.TooDeep h
