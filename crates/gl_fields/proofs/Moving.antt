-- The map without a field, and with a field under another name.
use Rattle.std.proofs.Common.{◌≡◌, ℕ, ◌+◌, ◌<◌, ◌≤◌, Bool, true, false, not, List, [], ◌∷◌, ◌++◌, length, take, drop, get_or, filter, cond, refl, sym, ◌∙◌, ap, arith, add-one, Option, Some, None, Result, Ok, Err}
use Rattle.std.specs.Prelude.{is_some, pos, MatchOption, MatchResult, IfErr}
use Rattle.std.specs.List.{HoldsAt, All, remove}
use Rattle.std.specs.Str.{bytes_eq}
use Rattle.std.proofs.lemmas.List.Elements.{All-weaker, All-nil, All-filter}
use Rattle.std.proofs.lemmas.List.Sums.{sum_by-cons}
use Rattle.gl_fields.specs.declared.field.Field.{Field}
use Rattle.gl_fields.specs.declared.value.Value.{Value}
use Rattle.gl_fields.specs.declared.value.Value.TheVariants.{Whole}
use Rattle.gl_fields.specs.declared.field.FieldRefusal.{FieldRefusal}
use Rattle.gl_fields.specs.declared.field.FieldRefusal.TheVariants.{Reserved, OutOfMemory}
use Rattle.gl_fields.specs.Fields.{comes_before, with_field, without, stays, removal, moved, renamed, refused, settled_by, settled, refusal_of, field_size, counted_size, value_of, IsField, IsFieldMap}
use Rattle.gl_fields.specs.Places.{Parts}
use Rattle.gl_fields.proofs.Names.{itself_same, same_differs, same_differs_back}
use Rattle.gl_fields.proofs.Rising.{Rises-filter}
use Rattle.gl_fields.proofs.Placing.{Earlier, Later, Named, filter-all, filter-none, filter-parts, around, around_one, one_named, with_field-parts, value_of-old, value_of-new}

without-parts : (name : List ℕ) (front middle back : List Field)
    → All (Earlier name) front → All (Named name) middle → All (Later name) back
    → without name (front ++ (middle ++ back)) ≡ front ++ back
without-parts name front middle back earlier same later =
    let test : Field → Bool = λ (f : Field). not (bytes_eq f.name name) in
    let in_front : filter test front ≡ front = filter-all test front (All-weaker (Earlier name) (λ (f : Field). test f ≡ true) (λ f e. ap not (same_differs f.name name e)) front earlier) in
    let in_middle : filter test middle ≡ [] = filter-none test middle (All-weaker (Named name) (λ (f : Field). test f ≡ false) (λ f e. ap (λ (n : List ℕ). not (bytes_eq n name)) e ∙ ap not (itself_same name)) middle same) in
    let in_back : filter test back ≡ back = filter-all test back (All-weaker (Later name) (λ (f : Field). test f ≡ true) (λ f e. ap not (same_differs_back f.name name e)) back later) in
    filter-parts test front middle back ∙ (λ i. in_front i ++ (in_middle i ++ in_back i))

pub without-old : (name : List ℕ) (fields : List Field) (at : ℕ) (d : Field) → Parts name fields at (at + 1) → HoldsAt (Named name) fields at
    → without name fields ≡ take at fields ++ drop (at + 1) fields
without-old name fields at d parts same =
    let within : at < length fields = omega (arith, parts.within) in
    ap (without name) (around_one fields at d within)
    ∙ without-parts name (take at fields) (get_or fields at d ∷ []) (drop (at + 1) fields) parts.earlier (one_named name (get_or fields at d) (same d)) parts.later

pub without-new : (name : List ℕ) (fields : List Field) (at : ℕ) → Parts name fields at at → without name fields ≡ fields
without-new name fields at parts =
    ap (without name) (around fields at)
    ∙ without-parts name (take at fields) [] (drop at fields) parts.earlier (All-nil (Named name)) parts.later
    ∙ sym (around fields at)

-- What the calls answer where a field of the name is there, and where none is.

pub any_field : Field
any_field = record { name = []; value = Whole (pos 0) }

module _ (name : List ℕ) (fields : List Field) (at : ℕ) (parts : Parts name fields at (at + 1)) (same : HoldsAt (Named name) fields at) where
  within : at < length fields
  within = omega (arith, parts.within)

  pub removed : remove fields at ≡ without name fields
  removed = ap (λ (n : ℕ). take at fields ++ drop n fields) (sym (add-one at)) ∙ sym (without-old name fields at any_field parts same)

  pub value_there : (d : Field) → value_of name fields ≡ Some (get_or fields at d).value
  value_there d = value_of-old name fields at d parts same

  pub removal-there : removal name fields ≡ cond (stays name) (Err Reserved) (Ok true)
  removal-there = ap (λ (v : Option Value). cond (not (is_some v)) (Ok false) (cond (stays name) (Err Reserved) (Ok true))) (value_there any_field)

  pub renamed-itself : renamed name name fields ≡ fields
  renamed-itself =
      let field : Field = record { name = name; value = (get_or fields at any_field).value } in
      let is_field : get_or fields at any_field ≡ field = ap (λ (n : List ℕ). record { name = n; value = (get_or fields at any_field).value }) (same any_field) in
      ap (moved name name fields) (value_there any_field)
      ∙ ap (with_field field) (without-old name fields at any_field parts same)
      ∙ with_field-parts field (take at fields) [] (drop (at + 1) fields) parts.earlier (All-nil (Named name)) parts.later
      ∙ ap (λ (f : Field). take at fields ++ f ∷ drop (at + 1) fields) (sym is_field)
      ∙ sym (around_one fields at any_field within)

  module _ (to : List ℕ) where
    pub settled-itself : bytes_eq name to ≡ true → settled name to fields ≡ Some (Ok true)
    settled-itself e = ap (settled_by name to fields) (value_there any_field) ∙ rw e refl

    pub settled-stays : bytes_eq name to ≡ false → stays name ≡ true → settled name to fields ≡ Some (Err Reserved)
    settled-stays e kept = ap (settled_by name to fields) (value_there any_field) ∙ rw (e, kept) refl

    pub settled-moves : (value : Value) → value_of name fields ≡ Some value → bytes_eq name to ≡ false → stays name ≡ false
        → settled name to fields ≡ refused (refusal_of (record { name = to; value = value }) (without name fields))
    settled-moves value is e goes = ap (settled_by name to fields) is ∙ rw (e, goes) refl

module _ (name : List ℕ) (fields : List Field) (at : ℕ) (parts : Parts name fields at at) where
  pub removal-none : removal name fields ≡ Ok false
  removal-none = ap (λ (v : Option Value). cond (not (is_some v)) (Ok false) (cond (stays name) (Err Reserved) (Ok true))) (value_of-new name fields at parts)

  pub renamed-none : (to : List ℕ) → renamed name to fields ≡ fields
  renamed-none to = ap (moved name to fields) (value_of-new name fields at parts)

  pub settled-none : (to : List ℕ) → settled name to fields ≡ Some (Ok false)
  settled-none to = ap (settled_by name to fields) (value_of-new name fields at parts)

-- fewer fields are a map too

fewer : {X : Type 0} (p : X → Bool) (xs : List X) → length (filter p xs) ≤ length xs
fewer p [] = omega arith
fewer p (x ∷ xs) =
    elim (p x) as (λ b. length (cond b (x ∷ filter p xs) (filter p xs)) ≤ length (x ∷ xs)) [
      | true ↦ omega (arith, fewer p xs)
      | false ↦ omega (arith, fewer p xs)
    ]

smaller : (p : Field → Bool) (fields : List Field) → counted_size (filter p fields) ≤ counted_size fields
smaller p [] = omega arith
smaller p (f ∷ fields) =
    elim (p f) as (λ b. counted_size (cond b (f ∷ filter p fields) (filter p fields)) ≤ counted_size (f ∷ fields)) [
      | true ↦ omega (arith, smaller p fields, sum_by-cons field_size f (filter p fields), sum_by-cons field_size f fields)
      | false ↦ omega (arith, smaller p fields, sum_by-cons field_size f fields)
    ]

pub IsFieldMap-without : (name : List ℕ) (fields : List Field) → IsFieldMap fields → IsFieldMap (without name fields)
IsFieldMap-without name fields map =
    let stays : Field → Bool = λ (f : Field). not (bytes_eq f.name name) in
    record {
      each = All-filter stays IsField fields map.each;
      rises = Rises-filter (λ (a b : Field). comes_before a.name b.name ≡ true) stays fields map.rises;
      few = omega (arith, fewer stays fields, map.few);
      short = omega (arith, smaller stays fields, map.short);
    }

-- from what a part of the call says of a refusal to what the call says

abbrev pub Refuses : {X : Type 0} → Option FieldRefusal → Result X FieldRefusal → Type 0
Refuses cause result = MatchOption cause (IfErr result (λ e. e ≡ OutOfMemory)) (λ r. result ≡ Err r)

pub none_refused : {X : Type 0} (x : X) (cause : Option FieldRefusal) → Refuses cause (Ok x) → cause ≡ None
none_refused x None h = refl
none_refused x (Some r) h = absurd cc

pub still_refused : (X Y : Type 0) (e : FieldRefusal) (cause : Option FieldRefusal) → Refuses {X = X} cause (Err e) → Refuses {X = Y} cause (Err e)
still_refused X Y e None h = h
still_refused X Y e (Some r) h = cc

pub settles_refused : (X : Type 0) (e : FieldRefusal) (cause : Option FieldRefusal) (result : Result Bool FieldRefusal) → result ≡ Err e → Refuses {X = X} cause (Err e)
    → MatchOption (refused cause) (MatchResult result (λ there. there ≡ true) (λ e. e ≡ OutOfMemory)) (λ answer. result ≡ answer)
settles_refused X e None result is h = rw is h
settles_refused X e (Some r) result is h = is ∙ cc

pub not_refused : (cause : Option FieldRefusal) → cause ≡ None → {X : Type 0} (x : X) → Refuses cause (Ok x)
not_refused cause e x = rw e tt

pub some_same : {X : Type 0} {x y : X} → Some x ≡ Some y → x ≡ y
some_same e = cc

pub tells : (cause : Option (Result Bool FieldRefusal)) (otherwise : Type 0) (result answer : Result Bool FieldRefusal) → cause ≡ Some answer → result ≡ answer → MatchOption cause otherwise (λ a. result ≡ a)
tells cause otherwise result answer e is = rw e is

pub settles_done : (cause : Option FieldRefusal) (size : ℕ) → Refuses {X = ℕ} cause (Ok size) → MatchOption (refused cause) (true ≡ true) (λ (answer : Result Bool FieldRefusal). Ok true ≡ answer)
settles_done None size h = refl
settles_done (Some r) size h = absurd cc
