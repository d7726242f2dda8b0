-- The map with a field put in: its length, its size, and that it is a map.
use Rattle.std.proofs.Common.{◌≡◌, ℕ, ◌+◌, ◌-◌, ◌<◌, ◌≤◌, Bool, true, false, not, cond, ltb, List, [], ◌∷◌, ◌++◌, length, take, drop, get_or, filter, refl, sym, ◌∙◌, ap, subst, arith, length-append, add-one, Option, Some, None, Ok, Err, codes, ◌&&◌}
use Rattle.std.proofs.Math.ListN.{set}
use Rattle.std.specs.List.{HoldsAt, insert, remove}
use Rattle.std.specs.Str.{bytes_eq}
use Rattle.std.proofs.lemmas.List.{length-take, length-drop, set_split}
use Rattle.std.proofs.lemmas.List.Elements.{All-cons, All-append, All-filter, filter_passes}
use Rattle.std.proofs.lemmas.List.Sums.{sum_by-append, sum_by-insert, sum_by-cons}
use borrow.Author.Tests.{ltb-false, le-ltb}
use Rattle.gl_fields.specs.declared.field.Field.{Field}
use Rattle.gl_fields.specs.declared.field.FieldRefusal.{FieldRefusal}
use Rattle.gl_fields.specs.declared.field.FieldRefusal.TheVariants.{BadFieldName, TooManyFields, TooLarge, Reserved}
use Rattle.gl_fields.specs.Fields.{comes_before, with_field, field_size, counted_size, refusal_of, is_field_name, is_text, IsValue, IsField, IsFieldMap}
use Rattle.gl_fields.specs.Places.{Parts, unless_refused}
use Rattle.gl_fields.proofs.Names.{before-trans}
use Rattle.gl_fields.proofs.Rising.{Rises-joined, Rises-filter}
use Rattle.gl_fields.proofs.Placing.{Named, with_field-new, with_field-old, around_one}

abbrev pub Before : Field → Field → Type 0
Before a b = comes_before a.name b.name ≡ true

at_name : (name : List ℕ) (field : Field) (fields : List Field) (at next : ℕ) → field.name ≡ name → Parts name fields at next → Parts field.name fields at next
at_name name field fields at next e parts = subst (λ (n : List ℕ). Parts n fields at next) (sym e) parts

same_name : (name : List ℕ) (field : Field) (fields : List Field) (at : ℕ) → field.name ≡ name → HoldsAt (Named name) fields at → HoldsAt (Named field.name) fields at
same_name name field fields at e same = λ d. same d ∙ sym e

pub with_field-at : (name : List ℕ) (field : Field) (fields : List Field) (at : ℕ) → field.name ≡ name → Parts name fields at (at + 1) → HoldsAt (Named name) fields at
    → with_field field fields ≡ take at fields ++ field ∷ drop (at + 1) fields
with_field-at name field fields at e parts same =
    with_field-old field fields at (at_name name field fields at (at + 1) e parts) (same_name name field fields at e same)

pub with_field-before : (name : List ℕ) (field : Field) (fields : List Field) (at : ℕ) → field.name ≡ name → Parts name fields at at
    → with_field field fields ≡ insert fields at field
with_field-before name field fields at e parts = with_field-new field fields at (at_name name field fields at at e parts)

pub set-at : (field : Field) (fields : List Field) (at : ℕ) → Parts field.name fields at (at + 1) → HoldsAt (Named field.name) fields at
    → set fields at (record { name = (get_or fields at field).name; value = field.value }) ≡ with_field field fields
set-at field fields at parts same =
    ap (λ (n : List ℕ). set fields at (record { name = n; value = field.value })) (same field)
    ∙ set_split fields at field (omega (arith, parts.within))
    ∙ ap (λ (n : ℕ). take at fields ++ field ∷ drop n fields) (sym (add-one at))
    ∙ sym (with_field-old field fields at parts same)

pub length-at : (name : List ℕ) (field : Field) (fields : List Field) (at : ℕ) → field.name ≡ name → Parts name fields at (at + 1) → HoldsAt (Named name) fields at
    → length (with_field field fields) ≡ length fields
length-at name field fields at e parts same =
    ap length (with_field-at name field fields at e parts same)
    ∙ omega (arith, parts.within, length-append (take at fields) (field ∷ drop (at + 1) fields), length-take at fields, length-drop (at + 1) fields)

pub length-before : (name : List ℕ) (field : Field) (fields : List Field) (at : ℕ) → field.name ≡ name → Parts name fields at at
    → length (with_field field fields) ≡ length fields + 1
length-before name field fields at e parts =
    ap length (with_field-before name field fields at e parts)
    ∙ omega (arith, parts.within, length-append (take at fields) (field ∷ drop at fields), length-take at fields, length-drop at fields)

size-split : (fields : List Field) (at : ℕ) (d : Field) → at < length fields
    → counted_size fields ≡ counted_size (take at fields) + (field_size (get_or fields at d) + counted_size (drop (at + 1) fields))
size-split fields at d lt =
    ap counted_size (around_one fields at d lt)
    ∙ sum_by-append field_size (take at fields) (get_or fields at d ∷ drop (at + 1) fields)
    ∙ ap (λ (n : ℕ). counted_size (take at fields) + n) (sum_by-cons field_size (get_or fields at d) (drop (at + 1) fields))

pub size-removed : (fields : List Field) (at : ℕ) (d : Field) → at < length fields → counted_size fields ≡ counted_size (remove fields at) + field_size (get_or fields at d)
size-removed fields at d lt =
    let rest : counted_size (remove fields at) ≡ counted_size (take at fields) + counted_size (drop (at + 1) fields) =
    ap (λ (n : ℕ). counted_size (take at fields ++ drop n fields)) (sym (add-one at)) ∙ sum_by-append field_size (take at fields) (drop (at + 1) fields) in
    omega (arith, size-split fields at d lt, rest)

pub size-at : (name : List ℕ) (field : Field) (fields : List Field) (at : ℕ) (d : Field) → field.name ≡ name → Parts name fields at (at + 1) → HoldsAt (Named name) fields at
    → counted_size (with_field field fields) ≡ counted_size fields - field_size (get_or fields at d) + field_size field
size-at name field fields at d e parts same =
    let whole : counted_size fields ≡ counted_size (take at fields) + (field_size (get_or fields at d) + counted_size (drop (at + 1) fields)) = size-split fields at d (omega (arith, parts.within)) in
    let new : counted_size (with_field field fields) ≡ counted_size (take at fields) + (field_size field + counted_size (drop (at + 1) fields)) =
    ap counted_size (with_field-at name field fields at e parts same)
    ∙ sum_by-append field_size (take at fields) (field ∷ drop (at + 1) fields)
    ∙ ap (λ (n : ℕ). counted_size (take at fields) + n) (sum_by-cons field_size field (drop (at + 1) fields)) in
    omega (arith, whole, new)

pub size-before : (name : List ℕ) (field : Field) (fields : List Field) (at : ℕ) → field.name ≡ name → Parts name fields at at
    → counted_size (with_field field fields) ≡ counted_size fields + field_size field
size-before name field fields at e parts =
    ap counted_size (with_field-before name field fields at e parts) ∙ sum_by-insert field_size fields at field

-- what stands where nothing is refused

abbrev pub first_cause : Bool → Bool → Bool → Bool → Option FieldRefusal
first_cause named reserved many large =
    cond (not named) (Some BadFieldName) (cond reserved (Some Reserved) (cond many (Some TooManyFields) (cond large (Some TooLarge) None)))

pub record Fine (named reserved many large : Bool) : Type 0 where
  pub is_named : named ≡ true
  pub not_reserved : reserved ≡ false
  pub not_many : many ≡ false
  pub not_large : large ≡ false

fine-from : (named reserved many large : Bool) → first_cause named reserved many large ≡ None → Fine named reserved many large
fine-from true false false false e = record { is_named = refl; not_reserved = refl; not_many = refl; not_large = refl }
fine-from true false false true e = cc
fine-from true false true large e = cc
fine-from true true many large e = cc
fine-from false reserved many large e = cc

pub none-from : (named reserved many large : Bool) → Fine named reserved many large → first_cause named reserved many large ≡ None
none-from named reserved many large fine = rw (fine.is_named, fine.not_reserved, fine.not_many, fine.not_large) refl

pub sized : (cause : Option FieldRefusal) (size n : ℕ) → Ok n ≡ unless_refused cause size → (cause ≡ None) × (n ≡ size)
sized None size n e = (refl, cc)
sized (Some r) size n e = absurd cc

pub refused_so : (cause : Option FieldRefusal) (size : ℕ) (r : FieldRefusal) → Err r ≡ unless_refused cause size → cause ≡ Some r
refused_so None size r e = absurd cc
refused_so (Some s) size r e = cc

abbrev pub is_reserved : Field → Bool
is_reserved field = bytes_eq field.name (codes "timestamp") && is_text field.value

module _ (field : Field) (fields : List Field) (none : refusal_of field fields ≡ None) where
  pub fine : Fine (is_field_name field.name) (is_reserved field) (ltb 256 (length (with_field field fields))) (ltb 2097152 (counted_size (with_field field fields)))
  fine = fine-from (is_field_name field.name) (is_reserved field) (ltb 256 (length (with_field field fields))) (ltb 2097152 (counted_size (with_field field fields))) none

  pub few : length (with_field field fields) ≤ 256
  few = ltb-false 256 (length (with_field field fields)) fine.not_many

  pub short : counted_size (with_field field fields) ≤ 2097152
  short = ltb-false 2097152 (counted_size (with_field field fields)) fine.not_large

  size_alone : field_size field ≤ counted_size (with_field field fields)
  size_alone =
      let before : List Field = filter (λ (other : Field). comes_before other.name field.name) fields in
      let after : List Field = filter (λ (other : Field). comes_before field.name other.name) fields in
      omega (arith, sum_by-append field_size before (field ∷ after), sum_by-cons field_size field after)

  pub taken : refusal_of field [] ≡ None
  taken = none-from (is_field_name field.name) (is_reserved field) (ltb 256 (length (with_field field []))) (ltb 2097152 (counted_size (with_field field [])))
      (record {
        is_named = fine.is_named;
        not_reserved = fine.not_reserved;
        not_many = refl;
        not_large = le-ltb 2097152 (counted_size (field ∷ [])) (omega (arith, sum_by-cons field_size field [], size_alone, short));
      })

  pub IsFieldMap-with_field : IsFieldMap fields → IsValue field.value → IsFieldMap (with_field field fields)
  IsFieldMap-with_field map lawful =
      let earlier : Field → Bool = λ (other : Field). comes_before other.name field.name in
      let later : Field → Bool = λ (other : Field). comes_before field.name other.name in
      record {
        each = All-append IsField (filter earlier fields) (field ∷ filter later fields) (All-filter earlier IsField fields map.each)
            (All-cons IsField field (filter later fields) (record { value = lawful; taken = taken }) (All-filter later IsField fields map.each));
        rises = Rises-joined Before (λ a b c. before-trans a.name b.name c.name) (filter earlier fields) field (filter later fields)
            (Rises-filter Before earlier fields map.rises) (filter_passes earlier fields) (filter_passes later fields) (Rises-filter Before later fields map.rises);
        few = few;
        short = short;
      }
