-- What a text says, read from left to right, and else the first byte that no case of the grammar takes behind the
-- bytes before it: the answer is then how many bytes stand from it on. A text that ends too early stops at its end.
-- A level too many stops where it opens.
use Rattle.std.specs.Prelude.{◌≡◌, ℕ, zero, suc, ◌-◌, Bool, true, false, List, [], ◌∷◌, length, take, Result, Ok, Err, ◌==◌, if◌then◌else◌, codes}
use Rattle.std.specs.Int.{is_in_range}
use Rattle.gl_json.specs.declared.bytes.Stop.{Stop}
use Rattle.gl_json.specs.declared.bytes.Stop.TheVariants.{At, Deep}
use Rattle.gl_json.specs.declared.chars.Char.{Char}
use Rattle.gl_json.specs.declared.chars.Char.TheVariants.{One, Two, Three, Four, Escape, Unicode}
use Rattle.gl_json.specs.Chars.{is_tail, is_second, is_plain, is_escape, is_hex}
use Rattle.gl_base.specs.Bytes.{is_digit, is_sign, is_e, next_is, behind_first}
use Rattle.gl_json.specs.Grammar.{Value, text, number, yes_, no_, null, object, array, Pair, is_blank}

-- what is read, and the bytes behind it
abbrev pub Read : Type 0 → Type 0
Read X = Result (X × List ℕ) Stop

-- the bytes behind what is read
abbrev pub Skip : Type 0
Skip = Result (List ℕ) Stop

-- what is read next stands behind what was read
infixl 10 ◌>>=◌
abbrev pub ◌>>=◌ : {A B : Type 0} → Result A Stop → (A → Result B Stop) → Result B Stop
(Ok x) >>= f = f x
(Err stop) >>= f = Err stop

-- What a call returned, seen by view, is what is read.
abbrev pub Gives : {X Y : Type 0} → (X → Y) → Result X Stop → Result Y Stop → Type 0
Gives view (Ok x) read = read ≡ Ok (view x)
Gives view (Err stop) read = read ≡ Err stop

-- the bytes of this kind at the front are passed over
unfoldable pub past : (ℕ → Bool) → List ℕ → List ℕ
past p [] = []
past p (b ∷ bytes) = if p b then past p bytes else b ∷ bytes

abbrev pub trimmed : List ℕ → List ℕ
trimmed bytes = past is_blank bytes

-- the bytes before those that are left
abbrev pub before : List ℕ → List ℕ → List ℕ
before rest bytes = take (length bytes - length rest) bytes

-- a byte of this kind
unfoldable pub one_at : (ℕ → Bool) → List ℕ → Read ℕ
one_at p [] = Err (At 0)
one_at p (b ∷ rest) = if p b then Ok (b, rest) else Err (At (length (b ∷ rest)))

abbrev pub sign_at : ℕ → List ℕ → Read ℕ
sign_at sign bytes = one_at (λ b. b == sign) bytes

-- these bytes
unfoldable pub word_at : List ℕ → List ℕ → Skip
word_at [] bytes = Ok bytes
word_at (c ∷ word) [] = Err (At 0)
word_at (c ∷ word) (b ∷ rest) = if b == c then word_at word rest else Err (At (length (b ∷ rest)))

-- strings

-- behind `\u`
unfoldable pub unicode_at : List ℕ → Read Char
unicode_at bytes = do
  a ← one_at is_hex bytes
  b ← one_at is_hex a.1
  c ← one_at is_hex b.1
  d ← one_at is_hex c.1
  Ok (Unicode a.0 b.0 c.0 d.0, d.1)

-- behind a backslash
unfoldable pub escape_at : List ℕ → Read Char
escape_at [] = Err (At 0)
escape_at (b ∷ rest) = if is_escape b then Ok (Escape b, rest) else (if b == 117 then unicode_at rest else Err (At (length (b ∷ rest))))

-- behind the first byte of a character of two, three and four bytes
unfoldable pub two_at : ℕ → List ℕ → Read Char
two_at a bytes = do
  b ← one_at is_tail bytes
  Ok (Two a b.0, b.1)

unfoldable pub three_at : ℕ → List ℕ → Read Char
three_at a bytes = do
  b ← one_at (is_second a) bytes
  c ← one_at is_tail b.1
  Ok (Three a b.0 c.0, c.1)

unfoldable pub four_at : ℕ → List ℕ → Read Char
four_at a bytes = do
  b ← one_at (is_second a) bytes
  c ← one_at is_tail b.1
  d ← one_at is_tail c.1
  Ok (Four a b.0 c.0 d.0, d.1)

unfoldable pub char_at : List ℕ → Read Char
char_at [] = Err (At 0)
char_at (a ∷ rest) =
    if a == 92 then escape_at rest
    else (if is_plain a then Ok (One a, rest)
    else (if is_in_range 194 223 a then two_at a rest
    else (if is_in_range 224 239 a then three_at a rest
    else (if is_in_range 240 244 a then four_at a rest
    else Err (At (length (a ∷ rest)))))))

-- the characters up to a quote or the end; the number bounds them, and the count of the bytes is always enough
unfoldable pub chars_end : ℕ → List ℕ → Skip
chars_end n [] = Ok []
chars_end zero (b ∷ bytes) = Err (At (length (b ∷ bytes)))
chars_end (suc n) (b ∷ bytes) = if b == 34 then Ok (b ∷ bytes) else (do
  c ← char_at (b ∷ bytes)
  chars_end n c.1)

-- behind the quote that opens a string: what stands up to the one that ends it
unfoldable pub string_at : List ℕ → Read (List ℕ)
string_at bytes = do
  rest ← chars_end (length bytes) bytes
  quote ← sign_at 34 rest
  Ok (before rest bytes, quote.1)

-- numbers

unfoldable pub digits_at : List ℕ → Skip
digits_at bytes = do
  d ← one_at is_digit bytes
  Ok (past is_digit d.1)

unfoldable pub int_at : List ℕ → Skip
int_at [] = Err (At 0)
int_at (b ∷ rest) = if b == 48 then Ok rest else digits_at (b ∷ rest)

unfoldable pub minus_at : List ℕ → Skip
minus_at [] = Err (At 0)
minus_at (b ∷ rest) = if b == 45 then int_at rest else int_at (b ∷ rest)

unfoldable pub frac_at : List ℕ → Skip
frac_at [] = Ok []
frac_at (b ∷ rest) = if b == 46 then digits_at rest else Ok (b ∷ rest)

unfoldable pub signed_at : List ℕ → Skip
signed_at [] = Err (At 0)
signed_at (b ∷ rest) = if is_sign b then digits_at rest else digits_at (b ∷ rest)

unfoldable pub exp_at : List ℕ → Skip
exp_at [] = Ok []
exp_at (b ∷ rest) = if is_e b then signed_at rest else Ok (b ∷ rest)

unfoldable pub number_at : List ℕ → Skip
number_at bytes = do
  int ← minus_at bytes
  frac ← frac_at int
  exp_at frac

-- values

-- behind an element: whether a comma stands there, and else the closing sign
unfoldable pub parted_at : ℕ → List ℕ → Read Bool
parted_at closing [] = Err (At 0)
parted_at closing (b ∷ rest) = if b == 44 then Ok (true, rest) else (if b == closing then Ok (false, rest) else Err (At (length (b ∷ rest))))

-- elements up to the closing sign, one or more; the number bounds them, and one more than the count of the bytes is
-- always enough
unfoldable pub parts_at : {X : Type 0} → (List ℕ → Read X) → ℕ → ℕ → List ℕ → Read (List X)
parts_at one closing zero bytes = Err (At (length bytes))
parts_at one closing (suc n) bytes = do
  x ← one bytes
  more ← parted_at closing x.1
  if more.0 then (do
    xs ← parts_at one closing n (trimmed more.1)
    Ok (x.0 ∷ xs.0, xs.1)) else Ok (x.0 ∷ [], more.1)

-- behind white space
unfoldable pub between_at : {X : Type 0} → (List ℕ → Read X) → ℕ → List ℕ → Read (List X)
between_at one closing bytes = if next_is closing bytes then Ok ([], behind_first bytes) else parts_at one closing (suc (length bytes)) bytes

-- none or more elements up to the closing sign, behind the opening one
abbrev pub elements_at : {X : Type 0} → (List ℕ → Read X) → ℕ → List ℕ → Read (List X)
elements_at one closing bytes = between_at one closing (trimmed bytes)

abbrev pub rest_of : {X : Type 0} → Read X → Skip
rest_of (Ok x) = Ok x.1
rest_of (Err stop) = Err stop

-- a part of the text as it stands
abbrev pub part_of : (List ℕ → Value) → List ℕ → Skip → Read Value
part_of kind bytes (Ok rest) = Ok (kind (before rest bytes), rest)
part_of kind bytes (Err stop) = Err stop

abbrev pub valued : Value → Skip → Read Value
valued v (Ok rest) = Ok (v, rest)
valued v (Err stop) = Err stop

unfoldable pub text_at : List ℕ → Read Value
text_at bytes = do
  string ← string_at bytes
  Ok (text string.0, string.1)

-- a value, where objects and arrays are read so behind their opening sign
unfoldable pub value_of : (List ℕ → Skip) → (List ℕ → Skip) → List ℕ → Read Value
value_of object_at array_at [] = Err (At 0)
value_of object_at array_at (b ∷ rest) =
    if b == 34 then text_at rest
    else (if b == 123 then part_of object (b ∷ rest) (object_at rest)
    else (if b == 91 then part_of array (b ∷ rest) (array_at rest)
    else (if b == 116 then valued yes_ (word_at (codes "rue") rest)
    else (if b == 102 then valued no_ (word_at (codes "alse") rest)
    else (if b == 110 then valued null (word_at (codes "ull") rest)
    else part_of number (b ∷ rest) (number_at (b ∷ rest)))))))

unfoldable pub item_at : (List ℕ → Read Value) → List ℕ → Read Value
item_at value bytes = do
  v ← value bytes
  Ok (v.0, trimmed v.1)

unfoldable pub member_at : (List ℕ → Read Value) → List ℕ → Read Pair
member_at value bytes = do
  quote ← sign_at 34 bytes
  name ← string_at quote.1
  colon ← sign_at 58 (trimmed name.1)
  v ← value (trimmed colon.1)
  Ok (record { name = name.0; value = v.0 }, trimmed v.1)

-- behind the sign that opens an object or an array, in which values may nest so deep but for this level
unfoldable mutual
  pub objects_at : ℕ → List ℕ → Skip
  objects_at zero rest = Err Deep
  objects_at (suc n) rest = rest_of (elements_at (member_at (value_of (objects_at n) (arrays_at n))) 125 rest)

  pub arrays_at : ℕ → List ℕ → Skip
  arrays_at zero rest = Err Deep
  arrays_at (suc n) rest = rest_of (elements_at (item_at (value_of (objects_at n) (arrays_at n))) 93 rest)

-- a value in which objects and arrays may nest so deep
abbrev pub value_at : ℕ → List ℕ → Read Value
value_at n = value_of (objects_at n) (arrays_at n)

-- whole texts

abbrev pub ended : List Pair → List ℕ → Result (List Pair) Stop
ended ms [] = Ok ms
ended ms (b ∷ rest) = Err (At (length (b ∷ rest)))

unfoldable pub whole_at : List ℕ → Result (List Pair) Stop
whole_at bytes = do
  opening ← sign_at 123 (trimmed bytes)
  ms ← elements_at (member_at (value_at 63)) 125 opening.1
  ended ms.0 (trimmed ms.1)
