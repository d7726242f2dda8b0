-- A field that is read behind others has just its bytes, and the bytes of a lawful field are read as it.
use Rattle.std.proofs.Common.{◌≡◌, ℕ, zero, suc, ◌+◌, ◌-◌, ◌^◌, ◌<◌, ◌≤◌, ◌&&◌, ◌||◌, not, inl, inr, lit<, Bool, true, false, cond, eqb, leb, ltb, List, [], ◌∷◌, ◌++◌, length, get_or, Result, Ok, Err, refl, sym, ap, subst, ◌∙◌, append_assoc, arith, ℤ, pos, negsuc, ◌≤ℤ◌, codes}
use Rattle.std.specs.List.{All, list_all, list_any}
use Rattle.std.specs.Int.{w64, to_be_bytes, cast_signed, cast_unsigned, is_in_range}
use Rattle.std.specs.Int.RustNames.{FitsSigned}
use Rattle.std.specs.Str.{IsUtf8, is_utf8, bytes_eq}
use Rattle.std.proofs.lemmas.Bool.{eqb-true, eqb-false, and_parts, and_from, leb-true, le-leb, ltb-true, not-true, not_from_false, le-ltb, or_cases, false≢true}
use Rattle.std.proofs.lemmas.Int.{to_z-of_z, of_z-to_z, ints}
use Rattle.std.proofs.lemmas.Str.{IsUtf8-from_is_utf8, is_utf8-from_IsUtf8, IsUtf8-from_ascii}
use Rattle.std.proofs.lemmas.List.Elements.{All-cons, All-nil, All-push, All-head, All-tail}
use Rattle.std.proofs.lemmas.List.Sums.{AllPass-from_list_all, list_all-from_AllPass, sum_by-cons, sum_by-append, sum_by_push}
use Rattle.gl_fields.specs.declared.field.Field.{Field}
use Rattle.gl_fields.specs.declared.value.Value.{Value}
use Rattle.gl_fields.specs.declared.value.Value.TheVariants.{Text, Whole}
use Rattle.gl_fields.specs.Entries.{short_text, long_text}
use Rattle.gl_fields.specs.Outcomes.{value_bytes, field_bytes}
use Rattle.gl_fields.specs.Fields.{comes_before, is_name_byte, is_field_name, is_text, value_text, field_size, counted_size, IsValue, IsField, Rises}
use Rattle.gl_fields.specs.Units.{◌>>=◌, byte_at, number_at, text_at, long_text_at}
use Rattle.gl_fields.specs.EntryReading.{text_value_at, whole_value_at, value_at, name_at, is_taken, named_at, field_at}
use Rattle.gl_fields.proofs.Taking.{bind_ok, guard_ok, ok_is, IsBytes, Takes, Takes-then, IsWithin, wide64, byte_takes, byte_again, number_takes, number_again, text_takes, text_again, long_takes, long_again}
use Rattle.gl_fields.proofs.Growing.{Rises-push, Rises-before}
use Rattle.gl_fields.proofs.Setting.{Fine, fine, none-from, Before}

-- a number of 64 bits with its sign
fits : (z : ℤ) → (negsuc 9223372036854775807 ≤ℤ z) → (z ≤ℤ pos 9223372036854775807) → FitsSigned w64 z
fits z low high = omega (arith, ints)

-- names

pub name_read : (fields : List Field) (len : ℕ) (bytes name rest : List ℕ) → text_at is_utf8 len bytes ≡ Ok (name, rest) → is_field_name name ≡ true
    → list_all (λ (field : Field). comes_before field.name name) fields ≡ true → name_at fields len bytes ≡ Ok (name, rest)
unfolding name_at
name_read fields len bytes name rest read named last = rw (read, named, last) refl

pub record IsNext (fields : List Field) (name : List ℕ) : Type 0 where
  pub named : is_field_name name ≡ true
  pub last : list_all (λ (field : Field). comes_before field.name name) fields ≡ true

name_takes : (fields : List Field) (len : ℕ) (bytes name rest : List ℕ) → IsBytes bytes → name_at fields len bytes ≡ Ok (name, rest)
    → Takes bytes name rest × (length name ≡ len) × IsNext fields name
unfolding name_at
name_takes fields len bytes name rest all e =
    let test : List ℕ → Bool = λ n. is_field_name n && list_all (λ (field : Field). comes_before field.name n) fields in
    let a = bind_ok (text_at is_utf8 len bytes) (λ n. cond (test n.0) (Ok n) (Err (length bytes))) (name, rest) e in
    let g = guard_ok (test a.0.0) (length bytes) a.0 (name, rest) a.2 in
    let tests = and_parts (is_field_name a.0.0) (list_all (λ (field : Field). comes_before field.name a.0.0) fields) g.0 in
    let text = text_takes is_utf8 len bytes a.0.0 a.0.1 all a.1 in
    subst (λ (p : List ℕ × List ℕ). Takes bytes p.0 p.1 × (length p.0 ≡ len) × IsNext fields p.0) g.1
    (text.0, text.1.whole, record { named = tests.0; last = tests.1 })

record HasName (name : List ℕ) : Type 0 where
  some : 0 < length name
  few : length name < 256
  bytes : list_all is_name_byte name ≡ true

named_parts : (name : List ℕ) → is_field_name name ≡ true → HasName name
named_parts name e =
    let a = and_parts (ltb 0 (length name) && ltb (length name) 256 && list_all is_name_byte name) (not (bytes_eq name (codes "_id"))) e in
    let b = and_parts (ltb 0 (length name) && ltb (length name) 256) (list_all is_name_byte name) a.0 in
    let d = and_parts (ltb 0 (length name)) (ltb (length name) 256) b.0 in
    record { some = ltb-true 0 (length name) d.0; few = ltb-true (length name) 256 d.1; bytes = b.1 }

ascii_range : (low high b : ℕ) → high < 128 → is_in_range low high b ≡ true → b < 128
ascii_range low high b lt e = omega (arith, leb-true b high (and_parts (leb low b) (leb b high) e).1)

ascii_sign : (b : ℕ) → (signs : List ℕ) → All (λ (sign : ℕ). sign < 128) signs → list_any (λ sign. eqb sign b) signs ≡ true → b < 128
ascii_sign b [] all e = absurd (false≢true e)
ascii_sign b (sign ∷ signs) all e =
    elim (or_cases (eqb sign b) (list_any (λ sign. eqb sign b) signs) e) [
      | inl here ↦ omega (arith, eqb-true sign b here, All-head (λ (s : ℕ). s < 128) sign signs all)
      | inr there ↦ ascii_sign b signs (All-tail (λ (s : ℕ). s < 128) sign signs all) there
    ]

signs_ascii : All (λ (sign : ℕ). sign < 128) (codes "_.-")
signs_ascii =
    All-cons (λ (s : ℕ). s < 128) 95 (46 ∷ 45 ∷ []) (lit< tt) (All-cons (λ (s : ℕ). s < 128) 46 (45 ∷ []) (lit< tt) (All-cons (λ (s : ℕ). s < 128) 45 [] (lit< tt) (All-nil (λ (s : ℕ). s < 128))))

ascii_byte : (b : ℕ) → is_name_byte b ≡ true → b < 128
ascii_byte b e =
    elim (or_cases (is_in_range 97 122 b) (is_in_range 65 90 b || (is_in_range 48 57 b || list_any (λ sign. eqb sign b) (codes "_.-"))) e) [
      | inl small ↦ ascii_range 97 122 b (lit< tt) small
      | inr rest ↦ elim (or_cases (is_in_range 65 90 b) (is_in_range 48 57 b || list_any (λ sign. eqb sign b) (codes "_.-")) rest) [
        | inl capital ↦ ascii_range 65 90 b (lit< tt) capital
        | inr others ↦ elim (or_cases (is_in_range 48 57 b) (list_any (λ sign. eqb sign b) (codes "_.-")) others) [
          | inl digit ↦ ascii_range 48 57 b (lit< tt) digit
          | inr sign ↦ ascii_sign b (codes "_.-") signs_ascii sign
        ]
      ]
    ]

name_utf8 : (name : List ℕ) → is_field_name name ≡ true → IsUtf8 name
name_utf8 name e = IsUtf8-from_ascii name (below name (named_parts name e).bytes)
  where
    below : (n : List ℕ) → list_all is_name_byte n ≡ true → (i : ℕ) → get_or n i 0 < 128
    below [] all i = omega arith
    below (b ∷ n) all zero = ascii_byte b (and_parts (is_name_byte b) (list_all is_name_byte n) all).0
    below (b ∷ n) all (suc i) = below n (and_parts (is_name_byte b) (list_all is_name_byte n) all).1 i

name_again : (fields : List Field) (name rest : List ℕ) → IsNext fields name → name_at fields (length name) (name ++ rest) ≡ Ok (name, rest)
name_again fields name rest next =
    name_read fields (length name) (name ++ rest) name rest (text_again is_utf8 name rest (is_utf8-from_IsUtf8 name (name_utf8 name next.named))) next.named next.last

-- values

in_range : (n : ℕ) → n < 2 ^ 64 → (negsuc 9223372036854775807 ≤ℤ cast_signed w64 n) × (cast_signed w64 n ≤ℤ pos 9223372036854775807)
in_range n lt = (omega (arith, ints), omega (arith, ints))

text_value_takes : (bytes : List ℕ) (x : Value × List ℕ) → IsBytes bytes → text_value_at bytes ≡ Ok x → Takes (0 ∷ bytes) (value_bytes x.0) x.1 × IsValue x.0
unfolding text_value_at
text_value_takes bytes x all e =
    let a = bind_ok (long_text_at is_utf8 0 (2 ^ 32 - 1) bytes) (λ text. Ok (Text text.0, text.1)) x e in
    let text = long_takes is_utf8 0 (2 ^ 32 - 1) bytes a.0.0 a.0.1 all a.1 in
    let read : Value × List ℕ = (Text a.0.0, a.0.1) in
    subst (λ (y : Value × List ℕ). Takes (0 ∷ bytes) (value_bytes y.0) y.1 × IsValue y.0) (ok_is read x a.2)
    (record { parts = ap (λ (l : List ℕ). 0 ∷ l) text.0.parts; rest_fits = text.0.rest_fits }, IsUtf8-from_is_utf8 a.0.0 text.2)

whole_value_takes : (bytes : List ℕ) (x : Value × List ℕ) → IsBytes bytes → whole_value_at bytes ≡ Ok x → Takes (1 ∷ bytes) (value_bytes x.0) x.1 × IsValue x.0
unfolding whole_value_at
whole_value_takes bytes x all e =
    let a = bind_ok (number_at w64 0 (2 ^ 64 - 1) bytes) (λ number. Ok (Whole (cast_signed w64 number.0), number.1)) x e in
    let number = number_takes w64 (2 ^ 64) wide64 0 (2 ^ 64 - 1) bytes a.0.0 a.0.1 all a.1 in
    let read : Value × List ℕ = (Whole (cast_signed w64 a.0.0), a.0.1) in
    let back : cast_unsigned w64 (cast_signed w64 a.0.0) ≡ a.0.0 = of_z-to_z w64 a.0.0 number.1.below in
    subst (λ (y : Value × List ℕ). Takes (1 ∷ bytes) (value_bytes y.0) y.1 × IsValue y.0) (ok_is read x a.2)
    (record { parts = ap (λ (l : List ℕ). 1 ∷ l) number.0.parts ∙ ap (λ (n : ℕ). 1 ∷ (to_be_bytes w64 n ++ a.0.1)) (sym back); rest_fits = number.0.rest_fits }, in_range a.0.0 number.1.below)

pub chosen : {X : Type 0} (b : Bool) (p q : Result X ℕ) (x : X) → cond b p q ≡ Ok x → (P : Type 0) → (b ≡ true → p ≡ Ok x → P) → (b ≡ false → q ≡ Ok x → P) → P
chosen true p q x e P f g = f refl e
chosen false p q x e P f g = g refl e

value_takes : (bytes : List ℕ) (x : Value × List ℕ) → IsBytes bytes → value_at bytes ≡ Ok x → Takes bytes (value_bytes x.0) x.1 × IsValue x.0
unfolding value_at
value_takes bytes x all e =
    let a = bind_ok (byte_at 0 1 bytes) (λ sign. cond (eqb sign.0 0) (text_value_at sign.1) (whole_value_at sign.1)) x e in
    let sign = byte_takes 0 1 bytes a.0.0 a.0.1 all a.1 in
    chosen (eqb a.0.0 0) (text_value_at a.0.1) (whole_value_at a.0.1) x a.2 (Takes bytes (value_bytes x.0) x.1 × IsValue x.0)
    (λ is read. let b : bytes ≡ 0 ∷ a.0.1 = sign.0.parts ∙ ap (λ (k : ℕ). k ∷ a.0.1) (eqb-true a.0.0 0 is) in
    rw b (text_value_takes a.0.1 x sign.0.rest_fits read))
    (λ not read. let b : bytes ≡ 1 ∷ a.0.1 = sign.0.parts ∙ ap (λ (k : ℕ). k ∷ a.0.1) (one a.0.0 sign.1 not) in
    rw b (whole_value_takes a.0.1 x sign.0.rest_fits read))
  where
    one : (n : ℕ) → IsWithin 0 1 n → eqb n 0 ≡ false → n ≡ 1
    one n w e = omega (arith, w.low, w.high, eqb-false n 0 e)

value_again : (value : Value) (rest : List ℕ) → IsValue value → length (value_text value) ≤ 2097152 → value_at (value_bytes value ++ rest) ≡ Ok (value, rest)
unfolding value_at text_value_at whole_value_at
value_again (Text text) rest lawful few =
    rw (
      byte_again 0 1 0 (long_text text ++ rest) (record { low = omega arith; high = omega arith }),
      long_again is_utf8 0 (2 ^ 32 - 1) text rest (record { within = record { low = omega arith; high = omega (arith, few) }; below = omega (arith, few) }) (is_utf8-from_IsUtf8 text lawful),
    ) refl
value_again (Whole number) rest lawful few =
    let f : FitsSigned w64 number = fits number lawful.0 lawful.1 in
    let below : cast_unsigned w64 number < 2 ^ 64 = omega (arith, ints, f.sfits) in
    rw (
      byte_again 0 1 1 (to_be_bytes w64 (cast_unsigned w64 number) ++ rest) (record { low = omega arith; high = omega arith }),
      number_again w64 (2 ^ 64) wide64 0 (2 ^ 64 - 1) (cast_unsigned w64 number) rest (record { within = record { low = omega arith; high = omega (arith, below) }; below = below }),
    )
    (ap (λ (z : ℤ). Ok (Whole z, rest)) (to_z-of_z w64 number f))

-- fields

pub record AreFields (fields : List Field) : Type 0 where
  pub each : All IsField fields
  pub rises : Rises Before fields
  pub short : counted_size fields ≤ 2097152

abbrev is_reserved : Field → Bool
is_reserved field = bytes_eq field.name (codes "timestamp") && is_text field.value

is_field : (fields : List Field) (field : Field) → IsValue field.value → is_field_name field.name ≡ true → is_taken fields field ≡ true → IsField field
is_field fields field lawful named taken =
    let tests = and_parts (not (is_reserved field)) (leb (counted_size fields + field_size field) 2097152) taken in
    let short : counted_size fields + field_size field ≤ 2097152 = leb-true (counted_size fields + field_size field) 2097152 tests.1 in
    record {
      value = lawful;
      taken = none-from (is_field_name field.name) (is_reserved field) false (ltb 2097152 (counted_size (field ∷ []))) (record {
        is_named = named;
        not_reserved = not-true (is_reserved field) tests.0;
        not_many = refl;
        not_large = le-ltb 2097152 (counted_size (field ∷ [])) (omega (arith, sum_by-cons field_size field [], short));
      });
    }

push_field : (fields : List Field) (field : Field) → AreFields fields → IsValue field.value → IsNext fields field.name → is_taken fields field ≡ true → AreFields (fields ++ field ∷ [])
push_field fields field are lawful next taken =
    let tests = and_parts (not (is_reserved field)) (leb (counted_size fields + field_size field) 2097152) taken in
    record {
      each = All-push IsField fields field are.each (is_field fields field lawful next.named taken);
      rises = Rises-push Before fields field are.rises (AllPass-from_list_all (λ (other : Field). comes_before other.name field.name) fields next.last);
      short = rw (sum_by_push field_size fields field) (leb-true (counted_size fields + field_size field) 2097152 tests.1);
    }

named_takes : (fields : List Field) (len : ℕ) (bytes : List ℕ) (field : Field) (rest : List ℕ) → IsBytes bytes → AreFields fields → named_at fields len bytes ≡ Ok (field, rest)
    → Takes bytes (field.name ++ value_bytes field.value) rest × (length field.name ≡ len) × AreFields (fields ++ field ∷ [])
unfolding named_at
named_takes fields len bytes field rest all are e =
    let made : List ℕ → Value → Field = λ n v. record { name = n; value = v } in
    let a = bind_ok (name_at fields len bytes) (λ name. value_at name.1 >>= λ value. cond (is_taken fields (made name.0 value.0)) (Ok (made name.0 value.0, value.1)) (Err (length bytes))) (field, rest) e in
    let b = bind_ok (value_at a.0.1) (λ value. cond (is_taken fields (made a.0.0 value.0)) (Ok (made a.0.0 value.0, value.1)) (Err (length bytes))) (field, rest) a.2 in
    let g = guard_ok (is_taken fields (made a.0.0 b.0.0)) (length bytes) (made a.0.0 b.0.0, b.0.1) (field, rest) b.2 in
    let name = name_takes fields len bytes a.0.0 a.0.1 all a.1 in
    let value = value_takes a.0.1 b.0 name.0.rest_fits b.1 in
    subst (λ (p : Field × List ℕ). Takes bytes (p.0.name ++ value_bytes p.0.value) p.1 × (length p.0.name ≡ len) × AreFields (fields ++ p.0 ∷ [])) {x = (made a.0.0 b.0.0, b.0.1)} g.1
    (Takes-then bytes a.0.0 a.0.1 (value_bytes b.0.0) b.0.1 name.0 value.0, name.1, push_field fields (made a.0.0 b.0.0) are value.1 name.2 g.0)

pub field_takes : (fields : List Field) (bytes : List ℕ) (field : Field) (rest : List ℕ) → IsBytes bytes → AreFields fields → field_at fields bytes ≡ Ok (field, rest)
    → Takes bytes (field_bytes field) rest × AreFields (fields ++ field ∷ [])
unfolding field_at
field_takes fields bytes field rest all are e =
    let a = bind_ok (byte_at 1 255 bytes) (λ len. named_at fields len.0 len.1) (field, rest) e in
    let len = byte_takes 1 255 bytes a.0.0 a.0.1 all a.1 in
    let named = named_takes fields a.0.0 a.0.1 field rest len.0.rest_fits are a.2 in
    let both = Takes-then bytes (a.0.0 ∷ []) a.0.1 (field.name ++ value_bytes field.value) rest len.0 named.0 in
    (subst (λ (n : ℕ). Takes bytes (n ∷ (field.name ++ value_bytes field.value)) rest) (sym named.1) both, named.2)

-- the field in the middle of lawful ones
pub field_again : (fields : List Field) (field : Field) (later : List Field) (rest : List ℕ) → AreFields (fields ++ field ∷ later) → field_at fields (field_bytes field ++ rest) ≡ Ok (field, rest)
unfolding field_at named_at
field_again fields field later rest are =
    let is : IsField field = middle fields are.each in
    let f : Fine (is_field_name field.name) (is_reserved field) (ltb 256 1) (ltb 2097152 (counted_size (field ∷ []))) = fine field [] is.taken in
    let size : counted_size (fields ++ field ∷ later) ≡ counted_size fields + (field_size field + counted_size later) =
    sum_by-append field_size fields (field ∷ later) ∙ ap (λ (n : ℕ). counted_size fields + n) (sum_by-cons field_size field later) in
    let short : counted_size fields + field_size field ≤ 2097152 = omega (arith, size, are.short) in
    let next : IsNext fields field.name = record { named = f.is_named; last = list_all-from_AllPass (λ (other : Field). comes_before other.name field.name) fields (Rises-before Before fields field later are.rises) } in
    let has = named_parts field.name f.is_named in
    let taken : is_taken fields field ≡ true = and_from (not (is_reserved field)) (leb (counted_size fields + field_size field) 2097152) (not_from_false (is_reserved field) f.not_reserved) (le-leb (counted_size fields + field_size field) 2097152 short) in
    let regrouped : field_bytes field ++ rest ≡ length field.name ∷ (field.name ++ (value_bytes field.value ++ rest)) = append_assoc (short_text field.name) (value_bytes field.value) rest in
    ap (field_at fields) regrouped
    ∙ rw (
      byte_again 1 255 (length field.name) (field.name ++ (value_bytes field.value ++ rest)) (record { low = omega (arith, has.some); high = omega (arith, has.few) }),
      name_again fields field.name (value_bytes field.value ++ rest) next,
      value_again field.value rest is.value (omega (arith, short)),
      taken,
    ) refl
  where
    middle : (front : List Field) → All IsField (front ++ field ∷ later) → IsField field
    middle [] all = All-head IsField field later all
    middle (g ∷ front) all = middle front (All-tail IsField g (front ++ field ∷ later) all)

-- what a loop over fields keeps
pub record Kept (fields : List Field) (size : ℕ) (field : Field) (after : List ℕ) : Type 0 where
  pub bytes : IsBytes after
  pub are : AreFields (fields ++ field ∷ [])
  pub counted : counted_size (fields ++ field ∷ []) ≡ size + field_size field
  pub few : field_size field ≤ 2097152

pub field_kept : (fields : List Field) (size : ℕ) (bytes : List ℕ) (field : Field) (after : List ℕ) → IsBytes bytes → AreFields fields → size ≡ counted_size fields
    → field_at fields bytes ≡ Ok (field, after) → Kept fields size field after
field_kept fields size bytes field after all are sized e =
    let read = field_takes fields bytes field after all are e in
    let counted : counted_size (fields ++ field ∷ []) ≡ counted_size fields + field_size field = sum_by_push field_size fields field in
    record { bytes = read.0.rest_fits; are = read.1; counted = omega (arith, counted, sized); few = omega (arith, counted, read.1.short) }
