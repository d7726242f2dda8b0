-- Structured data and the message behind it (RFC 5424 sections 6.3 and 6.4), from left to right.
use Rattle.std.specs.Prelude.{ℕ, zero, suc, ◌+◌, ◌==◌, Bool, true, false, not, ◌&&◌, ◌||◌, List, [], ◌∷◌, ◌++◌, length, take, drop, slice_index, Option, Some, None, option_map, if◌then◌else◌}
use Rattle.std.specs.List.{prefix_len}
use Rattle.std.specs.Char.{is_ascii_graphic}
use Rattle.std.specs.Int.{is_in_range}
use Rattle.gl_syslogtext.specs.declared.parts.Element.{Element}
use Rattle.gl_syslogtext.specs.Sections.{◌>>=◌}

-- printable, and none of `=`, `]` and `"`
abbrev pub is_sd_byte : ℕ → Bool
is_sd_byte b = is_ascii_graphic b && not (b == 61 || b == 93 || b == 34)

-- the longest such name at the front, 1 to 32 bytes
unfoldable pub sd_name_at : List ℕ → Option (List ℕ × List ℕ)
sd_name_at text = if is_in_range 1 32 (prefix_len is_sd_byte text) then Some (take (prefix_len is_sd_byte text) text, drop (prefix_len is_sd_byte text) text) else None

-- `"`, `\` and `]`, which a backslash escapes
abbrev pub is_special : ℕ → Bool
is_special b = b == 34 || b == 92 || b == 93

-- a backslash that escapes the byte behind it
abbrev pub escapes : ℕ → List ℕ → Bool
escapes b behind = b == 92 && is_special (slice_index behind 0)

-- how many bytes of a value stand before the quote that ends it; is_escaped: behind a backslash that escapes
abbrev pub value_len : Bool → List ℕ → Option ℕ
value_len is_escaped [] = None
value_len true (b ∷ bs) = option_map suc (value_len false bs)
value_len false (b ∷ bs) = if b == 34 then Some 0 else (if b == 93 then None else option_map suc (value_len (escapes b bs) bs))

-- a value without the backslashes that escape
abbrev pub unescaped : Bool → List ℕ → List ℕ
unescaped is_escaped [] = []
unescaped true (b ∷ bs) = b ∷ unescaped false bs
unescaped false (b ∷ bs) = if escapes b bs then unescaped true bs else b ∷ unescaped false bs

-- a value up to its quote, and what follows the quote
abbrev pub value_to : Option ℕ → List ℕ → Option (List ℕ × List ℕ)
value_to None text = None
value_to (Some len) text = Some (unescaped false (take len text), drop (len + 1) text)

abbrev pub value_at : List ℕ → Option (List ℕ × List ℕ)
value_at text = value_to (value_len false text) text

-- a name, `="`, a value and `"`, behind a space
unfoldable pub param_at : List ℕ → Option ((List ℕ × List ℕ) × List ℕ)
param_at text = do
  name ← sd_name_at (drop 1 text)
  value ← if slice_index name.1 0 == 61 && slice_index name.1 1 == 34 then value_at (drop 2 name.1) else None
  Some ((name.0, value.0), value.1)

-- as many behind these as begin with a sign; the number bounds them, and the count of the bytes is always enough
unfoldable pub many_at : {X : Type 0} → ℕ → (List ℕ → Option (X × List ℕ)) → ℕ → List X → List ℕ → Option (List X × List ℕ)
many_at sign one zero xs text = Some (xs, text)
many_at sign one (suc n) xs text = if slice_index text 0 == sign then (one text >>= λ x. many_at sign one n (xs ++ x.0 ∷ []) x.1) else Some (xs, text)

unfoldable pub params_at : List ℕ → Option (List (List ℕ × List ℕ) × List ℕ)
params_at text = many_at 32 param_at (length text) [] text

-- an element: `[`, its id and parameters, `]`
unfoldable pub element_at : List ℕ → Option (Element × List ℕ)
element_at text = do
  id ← sd_name_at (drop 1 text)
  params ← params_at id.1
  if slice_index params.1 0 == 93 then Some (record { id = id.0; params = params.0 }, drop 1 params.1) else None

unfoldable pub elements_at : List ℕ → Option (List Element × List ℕ)
elements_at text = many_at 91 element_at (length text) [] text

-- `-`, or one or more elements
unfoldable pub data_at : List ℕ → Option (List Element × List ℕ)
data_at text =
    if slice_index text 0 == 45 then Some ([], drop 1 text)
    else (if slice_index text 0 == 91 then elements_at text else None)

-- a byte order mark (RFC 5424 section 6.4)
abbrev pub has_bom : List ℕ → Bool
has_bom msg = slice_index msg 0 == 239 && slice_index msg 1 == 187 && slice_index msg 2 == 191

abbrev pub without_bom : List ℕ → List ℕ
without_bom msg = if has_bom msg then drop 3 msg else msg

-- nothing, or a message behind a space
unfoldable pub message_of : List ℕ → Option (Bool × Option (List ℕ))
message_of [] = Some (false, None)
message_of (b ∷ msg) = if b == 32 then Some (has_bom msg, Some (without_bom msg)) else None
