-- Bytes read from left to right, unit by unit: a number, the high byte first, or the bytes of a text. A unit that
-- is cut short, or whose value isn't lawful where it stands, isn't taken. Then the answer is how many bytes stand
-- from its first byte on.
use Rattle.std.specs.Prelude.{◌≡◌, ℕ, zero, suc, ◌-◌, ◌&&◌, ◌++◌, Bool, true, ⊤, List, [], ◌∷◌, length, take, drop, Result, Ok, Err, nat_le, ◌==◌, if◌then◌else◌}
use Rattle.std.specs.Int.{Width, w32, byte_len, from_be_bytes, is_in_range}
use Rattle.std.specs.Str.{is_utf8}
use Rattle.gl_fields.specs.declared.decode.EntryRefusal.{EntryRefusal}
use Rattle.gl_fields.specs.declared.decode.EntryRefusal.TheVariants as refusals
use Rattle.gl_fields.specs.declared.units.Unread.{Unread}
use Rattle.gl_fields.specs.declared.units.Unread.TheVariants as unread

-- what is read next stands behind what was read
infixl 10 ◌>>=◌
abbrev pub ◌>>=◌ : {A B : Type 0} → Result A ℕ → (A → Result B ℕ) → Result B ℕ
(Ok x) >>= f = f x
(Err left) >>= f = Err left

-- a byte from `least` to `most`, and the bytes behind it
unfoldable pub byte_at : ℕ → ℕ → List ℕ → Result (ℕ × List ℕ) ℕ
byte_at least most [] = Err 0
byte_at least most (b ∷ rest) = if is_in_range least most b then Ok (b, rest) else Err (length (b ∷ rest))

-- a number from `least` to `most`, and the bytes behind it
unfoldable pub number_at : Width → ℕ → ℕ → List ℕ → Result (ℕ × List ℕ) ℕ
number_at w least most bytes =
    if nat_le (byte_len w) (length bytes) && is_in_range least most (from_be_bytes w (take (byte_len w) bytes))
    then Ok (from_be_bytes w (take (byte_len w) bytes), drop (byte_len w) bytes) else Err (length bytes)

-- so many bytes that are lawful together, and the bytes behind them
unfoldable pub text_at : (List ℕ → Bool) → ℕ → List ℕ → Result (List ℕ × List ℕ) ℕ
text_at is_lawful len bytes =
    if nat_le len (length bytes) && is_lawful (take len bytes) then Ok (take len bytes, drop len bytes) else Err (length bytes)

-- any bytes are lawful
abbrev pub are_any : List ℕ → Bool
are_any bytes = true

-- UTF-8 of 1 to `most` bytes behind its length in one byte
unfoldable pub short_text_at : ℕ → List ℕ → Result (List ℕ × List ℕ) ℕ
short_text_at most bytes = do
  len ← byte_at 1 most bytes
  text_at is_utf8 len.0 len.1

-- `least` to `most` lawful bytes behind their length in four bytes
unfoldable pub long_text_at : (List ℕ → Bool) → ℕ → ℕ → List ℕ → Result (List ℕ × List ℕ) ℕ
long_text_at is_lawful least most bytes = do
  len ← number_at w32 least most bytes
  text_at is_lawful len.0 len.1

-- so many more behind these, one after the other
unfoldable pub many_at : {X : Type 0} → (List X → List ℕ → Result (X × List ℕ) ℕ) → ℕ → List X → List ℕ → Result (List X × List ℕ) ℕ
many_at one zero xs bytes = Ok (xs, bytes)
many_at one (suc n) xs bytes = do
  x ← one xs bytes
  many_at one n (xs ++ x.0 ∷ []) x.1

-- what the whole bytes say, where nothing follows it; else the place of the first unit that isn't taken, or of
-- the first byte too many
abbrev pub whole : {X : Type 0} → List ℕ → Result (X × List ℕ) ℕ → Result X ℕ
whole bytes (Ok x) = if length x.1 == 0 then Ok x.0 else Err (length bytes - length x.1)
whole bytes (Err left) = Err (length bytes - left)

-- What was answered is what reading gives, unless memory ran out.
abbrev pub Answers : {X : Type 0} → Result X EntryRefusal → Result X ℕ → Type 0
Answers (Ok x) read = read ≡ Ok x
Answers (Err (refusals.NotAnEntry at)) read = read ≡ Err at
Answers (Err refusals.OutOfMemory) read = ⊤

-- the same of a part, whose answer is seen by `view`
abbrev pub Stops : {Y : Type 0} → Unread → Result Y ℕ → Type 0
Stops (unread.At left) read = read ≡ Err left
Stops unread.OutOfMemory read = ⊤

abbrev pub Gives : {X Y : Type 0} → (X → Y) → Result X Unread → Result Y ℕ → Type 0
Gives view (Ok x) read = read ≡ Ok (view x)
Gives view (Err stop) read = Stops stop read
