-- The fields that the members of an object give, those of nested objects under longer names (this project).
use Rattle.std.specs.Prelude.{◌≡◌, ℕ, zero, suc, List, [], ◌∷◌, ◌++◌, Option, Some, None, Result, Ok, Err, ℤ, codes, ⊤}
use Rattle.gl_fields.specs.declared.value.Value.{Value as Field}
use Rattle.gl_fields.specs.declared.value.Value.TheVariants.{Text, Whole}
use Rattle.gl_json.specs.declared.refusal.JsonRefusal.{JsonRefusal}
use Rattle.gl_json.specs.declared.refusal.JsonRefusal.TheVariants as refusals
use Rattle.gl_json.specs.declared.chars.Char.{Char}
use Rattle.gl_json.specs.Chars.{AreChars, inside}
use Rattle.gl_base.specs.Digits.{whole_of}
use Rattle.gl_json.specs.Numbers.{IsNumber}
use Rattle.gl_json.specs.Grammar.{Value, text, number, yes_, no_, null, object, array, Pair, IsObjectIn, IsArrayIn, IsObject}
use Rattle.gl_json.specs.Escapes.{Says}

abbrev pub number_field : List ℕ → Option ℤ → Field
number_field literal (Some z) = Whole z
number_field literal None = Text literal

-- what a value gives: null gives nothing, and an object its own fields
pub data IsKept : Value → Field → Type 0 where
  kept_text : (raw said : List ℕ) → Says raw said → IsKept (text raw) (Text said)
  kept_number : (literal : List ℕ) → IsKept (number literal) (number_field literal (whole_of literal))
  kept_true : IsKept yes_ (Text (codes "true"))
  kept_false : IsKept no_ (Text (codes "false"))
  kept_array : (t : List ℕ) → IsKept (array t) (Text t)

-- members in their order, each under this prefix and its name, where a nested object gives these fields
pub data AreFlatWith (Nested : List ℕ → List ℕ → List (List ℕ × Field) → Type 0) (prefix : List ℕ) : List Pair → List (List ℕ × Field) → Type 0 where
  ended : AreFlatWith Nested prefix [] []
  kept : (raw name : List ℕ) (v : Value) (f : Field) (ms : List Pair) (fs : List (List ℕ × Field)) → Says raw name → IsKept v f → AreFlatWith Nested prefix ms fs
      → AreFlatWith Nested prefix ((record { name = raw; value = v }) ∷ ms) ((prefix ++ name, f) ∷ fs)
  skipped : (raw : List ℕ) (ms : List Pair) (fs : List (List ℕ × Field)) → AreFlatWith Nested prefix ms fs → AreFlatWith Nested prefix ((record { name = raw; value = null }) ∷ ms) fs
  nested : (raw name t : List ℕ) (ms : List Pair) (gs fs : List (List ℕ × Field)) → Says raw name → Nested (prefix ++ (name ++ 95 ∷ [])) t gs → AreFlatWith Nested prefix ms fs
      → AreFlatWith Nested prefix ((record { name = raw; value = object t }) ∷ ms) (gs ++ fs)

-- the fields of an object of at most so many levels
unfoldable pub IsFlatIn : ℕ → List ℕ → List ℕ → List (List ℕ × Field) → Type 0
IsFlatIn zero prefix t fs = ⊥
IsFlatIn (suc n) prefix t fs = (ms : List Pair) × IsObject n t ms × AreFlatWith (IsFlatIn n) prefix ms fs

-- the fields of members in which values nest at most so deep
abbrev pub AreFlat : ℕ → List ℕ → List Pair → List (List ℕ × Field) → Type 0
AreFlat n prefix ms fs = AreFlatWith (IsFlatIn n) prefix ms fs

-- fields are appended that members give
abbrev pub Grows : ℕ → List ℕ → List Pair → List (List ℕ × Field) → List (List ℕ × Field) → Type 0
Grows n prefix ms old new = (fs : List (List ℕ × Field)) × AreFlat n prefix ms fs × (new ≡ old ++ fs)

-- a field of a member of this name is appended
abbrev pub Appends : List ℕ → List ℕ → Field → List (List ℕ × Field) → List (List ℕ × Field) → Type 0
Appends prefix raw f old new = (name : List ℕ) × Says raw name × (new ≡ old ++ (prefix ++ name, f) ∷ [])

-- what stands between the quotes of a string
abbrev pub IsInside : List ℕ → Type 0
IsInside raw = (cs : List Char) × AreChars cs × (raw ≡ inside cs)

-- a value as the grammar has it, where objects and arrays nest at most so deep
abbrev pub IsFormed : ℕ → Value → Type 0
IsFormed n (text raw) = IsInside raw
IsFormed n (number literal) = IsNumber literal
IsFormed n yes_ = ⊤
IsFormed n no_ = ⊤
IsFormed n null = ⊤
IsFormed n (object t) = IsObjectIn n t
IsFormed n (array t) = IsArrayIn n t

-- a member so
abbrev pub IsFormedPair : ℕ → Pair → Type 0
IsFormedPair n m = IsInside m.name × IsFormed n m.value

-- a name under a prefix
abbrev pub IsUnder : List ℕ → List ℕ → List ℕ → Type 0
IsUnder prefix raw whole = (name : List ℕ) × Says raw name × (whole ≡ prefix ++ name)

-- What was answered are the fields of the members that the text has, or its refusal, unless memory ran out.
abbrev pub Flattens : {X : Type 0} → (X → List (List ℕ × Field)) → Result X JsonRefusal → Result (List Pair) JsonRefusal → Type 0
Flattens view (Ok x) read = (ms : List Pair) × (read ≡ Ok ms) × AreFlat 63 [] ms (view x)
Flattens view (Err refusals.OutOfMemory) read = ⊤
Flattens view (Err (refusals.NotJson at)) read = read ≡ Err (refusals.NotJson at)
Flattens view (Err refusals.TooDeep) read = read ≡ Err refusals.TooDeep
