-- The fields of a JSON object and of those that nest in it, as a function of its text: those that `flatten` of gl_json
-- gives.
use Rattle.std.specs.Prelude.{ℕ, zero, suc, List, [], ◌∷◌, ◌++◌, Result, Ok, Err, codes}
use Rattle.gl_base.specs.Bytes.{behind_first}
use Rattle.gl_base.specs.Digits.{whole_of}
use Rattle.gl_fields.specs.declared.field.Field.{Field}
use Rattle.gl_fields.specs.declared.value.Value.{Value as Held}
use Rattle.gl_fields.specs.declared.value.Value.TheVariants.{Text}
use Rattle.gl_json.specs.declared.bytes.Stop.{Stop}
use Rattle.gl_json.specs.declared.refusal.JsonRefusal.{JsonRefusal}
use Rattle.gl_json.specs.Grammar.{Value, text, number, yes_, no_, null, object, array, Pair}
use Rattle.gl_json.specs.Escapes.{said}
use Rattle.gl_json.specs.Flattening.{number_field}
use Rattle.gl_json.specs.Places.{object_of}
use Rattle.gl_json.specs.JsonReading.{elements_at, member_at, value_at}

abbrev pub one : List ℕ → Held → List Field
one name value = record { name = name; value = value } ∷ []

-- the fields of a member of this name under a prefix: null gives none, and an object its own, under the name and `_`
unfoldable pub member_fields : (List ℕ → List ℕ → List Field) → List ℕ → List ℕ → Value → List Field
member_fields inner prefix name (text raw) = one (prefix ++ name) (Text (said raw))
member_fields inner prefix name (number literal) = one (prefix ++ name) (number_field literal (whole_of literal))
member_fields inner prefix name yes_ = one (prefix ++ name) (Text (codes "true"))
member_fields inner prefix name no_ = one (prefix ++ name) (Text (codes "false"))
member_fields inner prefix name null = []
member_fields inner prefix name (object t) = inner (prefix ++ (name ++ 95 ∷ [])) t
member_fields inner prefix name (array t) = one (prefix ++ name) (Text t)

-- those of members, in their order
unfoldable pub members_fields : (List ℕ → List ℕ → List Field) → List ℕ → List Pair → List Field
members_fields inner prefix [] = []
members_fields inner prefix (m ∷ ms) = member_fields inner prefix (said m.name) m.value ++ members_fields inner prefix ms

abbrev pub of_members : (List ℕ → List ℕ → List Field) → List ℕ → Result (List Pair × List ℕ) Stop → List Field
of_members inner prefix (Ok x) = members_fields inner prefix x.0
of_members inner prefix (Err stop) = []

-- those of a nested object, whose members may nest so many levels below it
unfoldable pub nested_fields : ℕ → List ℕ → List ℕ → List Field
nested_fields zero prefix t = []
nested_fields (suc n) prefix t = of_members (nested_fields n) prefix (elements_at (member_at (value_at n)) 125 (behind_first t))

abbrev pub of_object : Result (List Pair) JsonRefusal → List Field
of_object (Ok ms) = members_fields (nested_fields 63) [] ms
of_object (Err refusal) = []

-- the fields of the object that a text is; none where it isn't one
unfoldable pub object_fields : List ℕ → List Field
object_fields t = of_object (object_of t)
