-- The sections of a message's header, each a whole text (RFC 5424 section 6).
use Rattle.std.specs.Prelude.{◌≡◌, ℕ, ◌+◌, ◌-◌, ◌*◌, ◌==◌, ⊤, ℤ, pos, neg_ℤ, Bool, not, ◌&&◌, ◌||◌, List, [], ◌∷◌, length, take, drop, slice_index, nat_lt, nat_le, Option, Some, None, Result, Ok, Err, option_map, if◌then◌else◌, codes}
use Rattle.std.specs.List.{prefix_len, list_all, before_first, after_first, position_or_len}
use Rattle.std.specs.Int.{is_in_range}
use Rattle.std.specs.Str.{bytes_eq}
use Rattle.jiff_core.specs.Calendar.{days_in_month}
use Rattle.gl_syslogtext.specs.declared.parts.Stamp.{Stamp}
use Rattle.gl_syslogtext.specs.declared.unread.Unread.{Unread}
use Rattle.gl_syslogtext.specs.declared.unread.Unread.TheVariants as unread
use Rattle.std.specs.Char.{is_ascii_digit, is_ascii_graphic}
use Rattle.gl_base.specs.Digits.{decimal}

-- what is read next stands behind what was read
infixl 10 ◌>>=◌
abbrev pub ◌>>=◌ : {A B : Type 0} → Option A → (A → Option B) → Option B
None >>= f = None
(Some x) >>= f = f x

-- What was answered, seen by `view`, is what reading gives, unless memory ran out.
abbrev pub Stops : {Y : Type 0} → Unread → Option Y → Type 0
Stops unread.Other read = read ≡ None
Stops unread.OutOfMemory read = ⊤

abbrev pub Gives : {X Y : Type 0} → (X → Y) → Result X Unread → Option Y → Type 0
Gives view (Ok x) read = read ≡ Some (view x)
Gives view (Err stop) read = Stops stop read

-- what stands before the first such byte and behind it
abbrev pub split : ℕ → List ℕ → Option (List ℕ × List ℕ)
split c text =
    if nat_lt (position_or_len (λ b. b == c) text) (length text) then Some (before_first (λ b. b == c) text, after_first (λ b. b == c) text) else None

-- PRIVAL: 1 to 3 digits, at most 191, and a 0 in front only where it is 0 alone
unfoldable pub pri_value : List ℕ → Option ℕ
pri_value digits =
    if nat_lt 0 (length digits) && nat_le (length digits) 3 && list_all is_ascii_digit digits
    && (not (slice_index digits 0 == 48) || length digits == 1) && nat_le (decimal 0 digits) 191
    then Some (decimal 0 digits) else None

-- `<`, PRIVAL and `>` at the front of a text
abbrev pub pri_in : List ℕ → Option ℕ
pri_in [] = None
pri_in (b ∷ digits) = if b == 60 then pri_value digits else None

unfoldable pub pri_at : List ℕ → Option (ℕ × List ℕ)
pri_at text = do
  front ← split 62 text
  pri ← pri_in front.0
  Some (pri, front.1)

-- `-`, or 1 to `most` printable characters
unfoldable pub name_of : ℕ → List ℕ → Option (Option (List ℕ))
name_of most text =
    if bytes_eq text (codes "-") then Some None
    else (if nat_lt 0 (length text) && nat_le (length text) most && list_all is_ascii_graphic text then Some (Some text) else None)

-- a name up to the next space
unfoldable pub name_at : ℕ → List ℕ → Option (Option (List ℕ) × List ℕ)
name_at most text = do
  front ← split 32 text
  name ← name_of most front.0
  Some (name, front.1)

-- two digits at a place
unfoldable pub two_at : ℕ → List ℕ → Option ℕ
two_at at text =
    if is_ascii_digit (slice_index text at) && is_ascii_digit (slice_index text (at + 1))
    then Some ((slice_index text at - 48) * 10 + (slice_index text (at + 1) - 48)) else None

-- hh:mm at a place, to 23:59
unfoldable pub hour_minute_at : ℕ → List ℕ → Option (ℕ × ℕ)
hour_minute_at at text = do
  hour ← two_at at text
  minute ← two_at (at + 3) text
  if slice_index text (at + 2) == 58 && nat_le hour 23 && nat_le minute 59 then Some (hour, minute) else None

-- hh:mm:ss at a place, to 23:59:59
unfoldable pub clock_at : ℕ → List ℕ → Option (ℕ × ℕ × ℕ)
clock_at at text = do
  front ← hour_minute_at at text
  second ← two_at (at + 6) text
  if slice_index text (at + 5) == 58 && nat_le second 59 then Some (front.0, front.1, second) else None

-- a date that exists, of the proleptic Gregorian calendar from the year 0 on
abbrev pub is_date : ℕ → ℕ → ℕ → Bool
is_date year month day = nat_le 1 month && nat_le month 12 && nat_le 1 day && nat_le day (days_in_month (pos year) month)

-- YYYY-MM-DD at the front
unfoldable pub date_at : List ℕ → Option (ℕ × ℕ × ℕ)
date_at text = do
  century ← two_at 0 text
  years ← two_at 2 text
  month ← two_at 5 text
  day ← two_at 8 text
  if slice_index text 4 == 45 && slice_index text 7 == 45 && is_date (century * 100 + years) month day then Some (century * 100 + years, month, day) else None

-- the fraction's digits, 1 to 6 behind a point, or none, and what follows them
unfoldable pub fraction_at : List ℕ → Option (List ℕ × List ℕ)
fraction_at text =
    if slice_index text 0 == 46
    then (if is_in_range 1 6 (prefix_len is_ascii_digit (drop 1 text))
    then Some (take (prefix_len is_ascii_digit (drop 1 text)) (drop 1 text), drop (prefix_len is_ascii_digit (drop 1 text)) (drop 1 text)) else None)
    else Some ([], text)

-- minutes east of UTC, by the sign before them
abbrev pub minutes : ℕ → ℕ × ℕ → ℤ
minutes sign (hour, minute) = if sign == 43 then pos (hour * 60 + minute) else neg_ℤ (pos (hour * 60 + minute))

-- +hh:mm or -hh:mm
unfoldable pub shift_of : List ℕ → Option ℤ
shift_of text = do
  front ← hour_minute_at 1 text
  if length text == 6 && (slice_index text 0 == 43 || slice_index text 0 == 45) then Some (minutes (slice_index text 0) front) else None

-- `Z` or an offset
unfoldable pub offset_of : List ℕ → Option (Option ℤ)
offset_of text = if bytes_eq text (codes "Z") then Some None else option_map Some (shift_of text)

unfoldable pub time_of : List ℕ → Option Stamp
time_of text = do
  date ← date_at text
  clock ← clock_at 11 text
  fraction ← fraction_at (drop 19 text)
  offset ← offset_of fraction.1
  if slice_index text 10 == 84 then Some (record { year = date.0; month = date.1; day = date.2; hour = clock.0; minute = clock.1; second = clock.2; fraction = fraction.0; offset_minutes = offset }) else None

-- TIMESTAMP: `-` or a time
unfoldable pub stamp_of : List ℕ → Option (Option Stamp)
stamp_of text = if bytes_eq text (codes "-") then Some None else option_map Some (time_of text)

unfoldable pub stamp_at : List ℕ → Option (Option Stamp × List ℕ)
stamp_at text = do
  front ← split 32 text
  stamp ← stamp_of front.0
  Some (stamp, front.1)
