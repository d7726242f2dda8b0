-- The head at the front of some bytes, computed (RFC 9112, sections 2 to 5, as `httparse` reads them): part by part, each a run of
-- bytes of its class up to one that isn't. `law_head_in` says that it is the head of the grammar that they begin with, if there is one.
use Rattle.std.specs.Prelude.{ℕ, zero, suc, Bool, true, false, ◌&&◌, ◌==◌, nat_lt, List, [], ◌∷◌, length, take, drop, take_while, if◌then◌else◌, Option, Some, None, option_map, option_and_then}
use Rattle.std.specs.Option.{option_or}
use Rattle.std.specs.Str.{is_utf8, bytes_eq}
use Rattle.httparse.specs.Ascii.{line_feed, carriage_return, space, colon}
use Rattle.httparse.specs.Pieces.{is_newline}
use Rattle.httparse.specs.Grammar.{LineEnd, crlf, lf, Field, RequestHead, is_token_byte, is_uri_byte, is_value_byte, print_version}

-- what is read at the front of some bytes, and what stands behind it
abbrev pub Read : Type 0 → Type 0
Read A = Option (A × List ℕ)

infixl 10 ◌>>=◌
abbrev pub ◌>>=◌ : {A B : Type 0} → Option A → (A → Option B) → Option B
o >>= next = option_and_then next o

-- this byte
abbrev pub byte_at : ℕ → List ℕ → Read ℕ
byte_at byte [] = None
byte_at byte (b ∷ bytes) = if b == byte then Some (b, bytes) else None

-- the longest run of bytes of a class
abbrev pub run_at : (ℕ → Bool) → List ℕ → Read (List ℕ)
run_at test bytes = Some (take_while test bytes, drop (length (take_while test bytes)) bytes)

-- the same, of one byte at least
abbrev pub some_at : (ℕ → Bool) → List ℕ → Read (List ℕ)
some_at test bytes = if nat_lt 0 (length (take_while test bytes)) then run_at test bytes else None

-- LF, or CR and LF
abbrev pub end_at : List ℕ → Read LineEnd
end_at [] = None
end_at (b ∷ []) = if b == line_feed then Some (lf, []) else None
end_at (b ∷ c ∷ bytes) =
    if b == line_feed then Some (lf, c ∷ bytes) else (if b == carriage_return && c == line_feed then Some (crlf, bytes) else None)

-- the line ends that a run of CR and LF is; `behind_cr` says that a CR stands before it
abbrev pub ends_in : (behind_cr : Bool) → List ℕ → Option (List LineEnd)
ends_in false [] = Some []
ends_in true [] = None
ends_in false (b ∷ bytes) = if b == line_feed then option_map (λ ends. lf ∷ ends) (ends_in false bytes) else ends_in true bytes
ends_in true (b ∷ bytes) = if b == line_feed then option_map (λ ends. crlf ∷ ends) (ends_in false bytes) else None

-- the empty lines before a request
abbrev pub blank_at : List ℕ → Read (List LineEnd)
blank_at bytes = do
  run ← run_at is_newline bytes
  ends ← ends_in false run.0
  Some (ends, run.1)

-- a request target, which is UTF-8 (RFC 9112, section 3.2)
abbrev pub target_at : List ℕ → Read (List ℕ)
target_at bytes = do
  target ← some_at is_uri_byte bytes
  if is_utf8 target.0 then Some target else None

-- HTTP/1.0 or HTTP/1.1
abbrev pub version_at : List ℕ → Read ℕ
version_at bytes =
    if bytes_eq (take 8 bytes) (print_version 0) then Some (0, drop 8 bytes)
    else (if bytes_eq (take 8 bytes) (print_version 1) then Some (1, drop 8 bytes) else None)

-- a field line (RFC 9112, section 5)
abbrev pub field_at : List ℕ → Read Field
field_at bytes = do
  name ← some_at is_token_byte bytes
  sign ← byte_at colon name.1
  raw ← run_at is_value_byte sign.1
  end ← end_at raw.1
  Some (record { name = name.0; raw = raw.0; end = end.0 }, end.1)

-- the empty line that ends a head
abbrev pub no_fields_at : List ℕ → Read (List Field × LineEnd)
no_fields_at bytes = option_map {U = (List Field × LineEnd) × List ℕ} (λ end. (([], end.0), end.1)) (end_at bytes)

-- the same, with at most so many field lines before it
abbrev pub fields_at : (most : ℕ) → List ℕ → Read (List Field × LineEnd)
fields_at zero bytes = no_fields_at bytes
fields_at (suc most) bytes = option_or (no_fields_at bytes) (do
  field ← field_at bytes
  others ← fields_at most field.1
  Some ((field.0 ∷ others.0.0, others.0.1), others.1))

-- a head of at most 64 fields
abbrev pub head_at : List ℕ → Read RequestHead
head_at bytes = do
  blank ← blank_at bytes
  method ← some_at is_token_byte blank.1
  sp1 ← byte_at space method.1
  target ← target_at sp1.1
  sp2 ← byte_at space target.1
  minor ← version_at sp2.1
  line_end ← end_at minor.1
  fields ← fields_at 64 line_end.1
  Some (
    record {
      blank = blank.0;
      method = method.0;
      target = target.0;
      minor = minor.0;
      line_end = line_end.0;
      fields = fields.0.0;
      last = fields.0.1;
    },
    fields.1,
  )

-- the head that some bytes begin with
unfoldable pub head_in : List ℕ → Option RequestHead
head_in bytes = option_map (λ read. read.0) (head_at bytes)
