-- The texts of JSON objects (RFC 8259, sections 2 to 7), by cases, with the members that each has. A name and a text
-- are what stands between the quotes, a number is its literal, and a nested value is its part of the text.
use Rattle.std.specs.Prelude.{◌≡◌, ℕ, zero, suc, Bool, true, ◌||◌, List, [], ◌∷◌, ◌++◌, ◌==◌, codes}
use Rattle.std.specs.List.{list_all}
use Rattle.gl_json.specs.declared.chars.Char.{Char}
use Rattle.gl_json.specs.Chars.{AreChars, inside}
use Rattle.gl_json.specs.Numbers.{IsNumber}

pub data Value : Type 0 where
  text : List ℕ → Value
  number : List ℕ → Value
  yes_ : Value
  no_ : Value
  null : Value
  object : List ℕ → Value
  array : List ℕ → Value

pub record Pair : Type 0 where
  pub name : List ℕ
  pub value : Value

-- space, tab, line feed and carriage return
abbrev pub is_blank : ℕ → Bool
is_blank b = (b == 32) || (b == 9) || (b == 10) || (b == 13)

abbrev pub AreBlanks : List ℕ → Type 0
AreBlanks ws = list_all is_blank ws ≡ true

-- elements parted by commas, one or more; white space may stand behind each comma
pub data AreParted {X : Type 0} (Is : List ℕ → X → Type 0) : List ℕ → List X → Type 0 where
  last : (t : List ℕ) (x : X) → Is t x → AreParted Is t (x ∷ [])
  also : (t ws u : List ℕ) (x : X) (xs : List X) → Is t x → AreBlanks ws → AreParted Is u xs → AreParted Is (t ++ 44 ∷ (ws ++ u)) (x ∷ xs)

-- none or more of them between two signs
pub data AreBetween {X : Type 0} (opening closing : ℕ) (Is : List ℕ → X → Type 0) : List ℕ → List X → Type 0 where
  nothing : (ws : List ℕ) → AreBlanks ws → AreBetween opening closing Is (opening ∷ (ws ++ closing ∷ [])) []
  something : (ws t : List ℕ) (xs : List X) → AreBlanks ws → AreParted Is t xs → AreBetween opening closing Is (opening ∷ (ws ++ (t ++ closing ∷ []))) xs

-- a value of an array, and white space behind it
pub data IsItem (Is : List ℕ → Value → Type 0) : List ℕ → Value → Type 0 where
  item : (t ws : List ℕ) (v : Value) → Is t v → AreBlanks ws → IsItem Is (t ++ ws) v

-- a name, a colon and a value, with white space behind each
pub data IsMember (Is : List ℕ → Value → Type 0) : List ℕ → Pair → Type 0 where
  member : (cs : List Char) (ws us t vs : List ℕ) (v : Value) → AreChars cs → AreBlanks ws → AreBlanks us → Is t v → AreBlanks vs
      → IsMember Is (34 ∷ (inside cs ++ 34 ∷ (ws ++ 58 ∷ (us ++ (t ++ vs))))) (record { name = inside cs; value = v })

-- a value, where these are the objects and the arrays
pub data IsValueOf (IsObject IsArray : List ℕ → Type 0) : List ℕ → Value → Type 0 where
  a_text : (cs : List Char) → AreChars cs → IsValueOf IsObject IsArray (34 ∷ (inside cs ++ 34 ∷ [])) (text (inside cs))
  a_number : (t : List ℕ) → IsNumber t → IsValueOf IsObject IsArray t (number t)
  a_true : IsValueOf IsObject IsArray (codes "true") yes_
  a_false : IsValueOf IsObject IsArray (codes "false") no_
  a_null : IsValueOf IsObject IsArray (codes "null") null
  an_object : (t : List ℕ) → IsObject t → IsValueOf IsObject IsArray t (object t)
  an_array : (t : List ℕ) → IsArray t → IsValueOf IsObject IsArray t (array t)

-- an object and an array of at most so many levels
unfoldable mutual
  pub IsObjectIn : ℕ → List ℕ → Type 0
  IsObjectIn zero t = ⊥
  IsObjectIn (suc n) t = (ms : List Pair) × AreBetween 123 125 (IsMember (IsValueOf (IsObjectIn n) (IsArrayIn n))) t ms

  pub IsArrayIn : ℕ → List ℕ → Type 0
  IsArrayIn zero t = ⊥
  IsArrayIn (suc n) t = (vs : List Value) × AreBetween 91 93 (IsItem (IsValueOf (IsObjectIn n) (IsArrayIn n))) t vs

-- a value in which objects and arrays nest at most so deep
abbrev pub IsValue : ℕ → List ℕ → Value → Type 0
IsValue n = IsValueOf (IsObjectIn n) (IsArrayIn n)

-- an object with these members, in which values nest at most so deep
abbrev pub IsObject : ℕ → List ℕ → List Pair → Type 0
IsObject n t ms = AreBetween 123 125 (IsMember (IsValue n)) t ms

-- an object of at most 64 levels, the outer one among them, with white space around it
pub record IsObjectText (whole : List ℕ) (ms : List Pair) : Type 0 where
  pub before : List ℕ
  pub t : List ℕ
  pub behind : List ℕ
  pub parts : whole ≡ before ++ (t ++ behind)
  pub before_is : AreBlanks before
  pub is : IsObject 63 t ms
  pub behind_is : AreBlanks behind
