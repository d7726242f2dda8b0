-- Payloads that are objects, and those that aren't.
use Rattle.std.proofs.Common.{◌≡◌, ◌∙◌, ℕ, Bool, false, cond, List, map, Result, Ok, Err, refl, sym, subst, ap}
use Rattle.gl_fields.specs.declared.entry.Cause.{Cause}
use Rattle.gl_fields.specs.declared.entry.Cause.TheVariants as causes
use Rattle.gl_fields.specs.declared.field.Field.{Field}
use Rattle.gl_json.specs.declared.refusal.JsonRefusal.{JsonRefusal}
use Rattle.gl_json.specs.declared.refusal.JsonRefusal.TheVariants as json
use Rattle.gl_json.specs.Grammar.{Pair, IsObjectText}
use Rattle.gl_json.specs.Places.{object_of}
use Rattle.gl_gelf.specs.Members.{with_said_name}
use Rattle.gl_gelf.specs.Decoding.{is_compressed, fields_of, of_object, gelf_fields, IsRefused}

plain : (moment : ℕ) (peer bytes : List ℕ) → is_compressed bytes ≡ false → gelf_fields moment peer bytes ≡ of_object moment peer (object_of bytes)
unfolding gelf_fields
plain moment peer bytes none = ap (λ (b : Bool). cond b (Err causes.Compressed) (of_object moment peer (object_of bytes))) none

pub object_fields : (read : (text : List ℕ) (members : List Pair) → IsObjectText text members → object_of text ≡ Ok members)
    (moment : ℕ) (peer bytes : List ℕ) (members : List Pair) → IsObjectText bytes members → is_compressed bytes ≡ false → gelf_fields moment peer bytes ≡ fields_of moment peer (map with_said_name members)
object_fields read moment peer bytes members is none = plain moment peer bytes none ∙ ap (of_object moment peer) (read bytes members is)

refused_by : (moment : ℕ) (peer bytes : List ℕ) (r : Result (List Pair) JsonRefusal) → object_of bytes ≡ r → ((members : List Pair) → r ≡ Ok members → ⊥) → IsRefused (of_object moment peer r)
refused_by moment peer bytes (Ok ms) e never = absurd (never ms refl)
refused_by moment peer bytes (Err (json.NotJson at)) e never = tt
refused_by moment peer bytes (Err json.TooDeep) e never = tt
refused_by moment peer bytes (Err json.OutOfMemory) e never = tt

pub other_refused : (is : (text : List ℕ) (members : List Pair) → object_of text ≡ Ok members → IsObjectText text members)
    (moment : ℕ) (peer bytes : List ℕ) → ((members : List Pair) → IsObjectText bytes members → ⊥) → is_compressed bytes ≡ false → IsRefused (gelf_fields moment peer bytes)
other_refused is moment peer bytes never none =
    subst (λ (r : Result (List Field) Cause). IsRefused r) (sym (plain moment peer bytes none))
    (refused_by moment peer bytes (object_of bytes) refl (λ members e. never members (is bytes members e)))
