-- A name that isn't UTF-8 is no field's.
use Rattle.std.proofs.Common.{◌≡◌, ℕ, zero, suc, ◌<◌, Bool, true, false, not, ◌&&◌, cond, List, [], ◌∷◌, length, Option, Some, None, nat_lt, refl, ap, ◌∙◌, subst, arith}
use Rattle.std.specs.List.{All, list_all}
use Rattle.std.specs.Str.{bytes_eq, IsUtf8, IsAscii}
use Rattle.std.specs.Cmp.Lexicographic.{bytes_decides}
use Rattle.std.proofs.lemmas.Str.{IsUtf8-from_ascii}
use Rattle.std.proofs.lemmas.List.Elements.{All-head, All-tail}
use Rattle.std.proofs.lemmas.Bool.Decides.{nat_tests}
use Rattle.gl_fields.specs.declared.field.Field.{Field}
use Rattle.gl_fields.specs.Fields.{is_name_byte, is_field_name, named, first_value, value_of, IsField, IsFieldMap}

byte_small : (b : ℕ) → is_name_byte b ≡ true → b < 128
byte_small b h = grind (arith, nat_tests)

and_first : (a b : Bool) → (a && b) ≡ true → a ≡ true
and_first true b h = refl
and_first false b h = cc h

and_second : (a b : Bool) → (a && b) ≡ true → b ≡ true
and_second true b h = h
and_second false b h = cc h

name_ascii : (name : List ℕ) → list_all is_name_byte name ≡ true → IsAscii name
name_ascii [] h zero = omega arith
name_ascii [] h (suc i) = omega arith
name_ascii (b ∷ bs) h zero = byte_small b (and_first (is_name_byte b) (list_all is_name_byte bs) h)
name_ascii (b ∷ bs) h (suc i) = name_ascii bs (and_second (is_name_byte b) (list_all is_name_byte bs) h) i

lawful : {A : Type 0} (b : Bool) (x : A) (rest : Option A) → cond (not b) (Some x) rest ≡ None → b ≡ true
lawful true x rest h = refl
lawful false x rest h = cc h

all_bytes : (name : List ℕ) → is_field_name name ≡ true → list_all is_name_byte name ≡ true
all_bytes name h =
    and_second (nat_lt 0 (length name) && nat_lt (length name) 256) (list_all is_name_byte name)
    (and_first (nat_lt 0 (length name) && nat_lt (length name) 256 && list_all is_name_byte name) _ h)

field_utf8 : (field : Field) → IsField field → IsUtf8 field.name
field_utf8 field is = IsUtf8-from_ascii field.name (name_ascii field.name (all_bytes field.name (lawful (is_field_name field.name) _ _ is.taken)))

not_same : (a b : List ℕ) → (a ≡ b → ⊥) → bytes_eq a b ≡ false
not_same a b apart = pick (bytes_eq a b) refl
  where
    pick : (r : Bool) → bytes_eq a b ≡ r → r ≡ false
    pick true e = absurd (apart ((bytes_decides a b).0 e))
    pick false e = refl

none_named : (name : List ℕ) (fields : List Field) → (IsUtf8 name → ⊥) → All IsField fields → named name fields ≡ []
none_named name [] other each = refl
none_named name (field ∷ fields) other each =
    ap (λ b. cond b (field ∷ named name fields) (named name fields)) (not_same field.name name (λ e. other (subst IsUtf8 e (field_utf8 field (All-head IsField field fields each)))))
    ∙ none_named name fields other (All-tail IsField field fields each)

pub no_value : (name : List ℕ) (fields : List Field) → (IsUtf8 name → ⊥) → IsFieldMap fields → value_of name fields ≡ None
no_value name fields other map = ap first_value (none_named name fields other map.each)
