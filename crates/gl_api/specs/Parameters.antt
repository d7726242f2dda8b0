-- What a search asks for in the text behind a `?` (this project): pairs of a name and a value as a form sends them (URL
-- Standard, section 5.1), of equal names the first, and of unknown names none.
use Rattle.std.specs.Prelude.{◌≡◌, ⊤, ℕ, ◌-◌, ◌^◌, ◌&&◌, ◌==◌, nat_lt, nat_le, List, [], ◌∷◌, length, map, if◌then◌else◌, Option, Some, None, option_map, option_and_then, ok_or, unwrap_or, Result, Ok, Err, codes}
use Rattle.std.specs.List.{slice_split}
use Rattle.std.specs.Str.{bytes_eq}
use Rattle.std.specs.Str.Lossy.{utf8_lossy}
use Rattle.form_urlencoded.specs.Form.{raw_pairs, decode}
use Rattle.gl_base.specs.Digits.{digits_within}
use Rattle.gl_text.specs.Ids.{read_id}
use Rattle.gl_api.specs.declared.parameters.Parameter.{Parameter}
use Rattle.gl_api.specs.declared.parameters.Parameter.TheVariants.{Streams, From, To, Offset, Limit, Query}
use Rattle.gl_api.specs.declared.parameters.Request.{Request}
use Rattle.gl_api.specs.declared.parameters.Unasked.{Unasked}
use Rattle.gl_api.specs.declared.parameters.Unasked.TheVariants as unasked

abbrev pub parameter_name : Parameter → List ℕ
parameter_name Streams = codes "streams"
parameter_name From = codes "from"
parameter_name To = codes "to"
parameter_name Offset = codes "offset"
parameter_name Limit = codes "limit"
parameter_name Query = codes "q"

-- a pair as text, with U+FFFD for what isn't UTF-8
abbrev pub text_pair : List ℕ × List ℕ → List ℕ × List ℕ
text_pair p = (utf8_lossy (decode p.0), utf8_lossy (decode p.1))

-- the value of the first pair of this name
abbrev pub first_value : List ℕ → List (List ℕ × List ℕ) → Option (List ℕ)
first_value name [] = None
first_value name (p ∷ ps) = if bytes_eq p.0 name then Some p.1 else first_value name ps

-- the value of a parameter, if it is given
abbrev pub value_of : List ℕ → Parameter → Option (List ℕ)
value_of text parameter = first_value (parameter_name parameter) (map text_pair (raw_pairs text))

-- 1 to 15 digits
abbrev pub number_in : List ℕ → Option ℕ
number_in text = if nat_lt 0 (length text) && nat_le (length text) 15 then digits_within 999999999999999 0 text else None

abbrev pub at_most : ℕ → ℕ → Option ℕ
at_most most n = if nat_le n most then Some n else None

-- at most 1,000
abbrev pub page_size_in : List ℕ → Option ℕ
page_size_in text = option_and_then (at_most 1000) (number_in text)

abbrev pub with_id : Option ℕ → Option (List ℕ) → Option (List ℕ)
with_id None ids = None
with_id (Some id) None = None
with_id (Some id) (Some ids) = Some (id ∷ ids)

abbrev pub all_ids : List (List ℕ) → Option (List ℕ)
all_ids [] = Some []
all_ids (text ∷ texts) = with_id (read_id text) (all_ids texts)

-- one or more ids joined by `,`
abbrev pub ids_in : List ℕ → Option (List ℕ)
ids_in text = all_ids (slice_split (λ b. b == 44) text)

-- what a form makes of a value, or what stands for a parameter that isn't given
abbrev pub by_form : {A : Type 0} → (List ℕ → Option A) → A → Option (List ℕ) → Option A
by_form form default None = Some default
by_form form default (Some value) = form value

-- a parameter, or which one it is where its value isn't of the form
abbrev pub given : {A : Type 0} → List ℕ → Parameter → (List ℕ → Option A) → A → Result A Parameter
given text parameter form default = ok_or (by_form form default (value_of text parameter)) parameter

infixl 10 ◌>>=◌
abbrev pub ◌>>=◌ : {A B : Type 0} → Result A Parameter → (A → Result B Parameter) → Result B Parameter
(Ok x) >>= next = next x
(Err parameter) >>= next = Err parameter

abbrev pub chosen_in : List ℕ → Option (Option (List ℕ))
chosen_in value = option_map (λ ids. Some ids) (ids_in value)

-- the search that a text asks for, or the first of its parameters that isn't of its form; where no end is given, none comes
-- after it: a message's time is below 2^63
unfoldable pub request_of : List ℕ → Result Request Parameter
request_of text = do
  chosen ← given text Streams chosen_in None
  from ← given text From number_in 0
  to ← given text To number_in (2 ^ 64 - 1)
  offset ← given text Offset number_in 0
  limit ← given text Limit page_size_in 50
  Ok (record { chosen = chosen; from = from; to = to; offset = offset; limit = limit; query = unwrap_or (value_of text Query) [] })

-- What a reader answers: what is read, or the parameter that isn't of its form; memory may be wanting.
abbrev pub Reads : {X : Type 0} → Result X Unasked → Result X Parameter → Type 0
Reads (Ok x) read = read ≡ Ok x
Reads (Err (unasked.Bad parameter)) read = read ≡ Err parameter
Reads (Err unasked.OutOfMemory) read = ⊤
