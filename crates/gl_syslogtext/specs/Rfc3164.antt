-- The BSD form of a message (RFC 3164 section 4.1), by cases on whole texts, and the same from left to right.
use Rattle.std.specs.Prelude.{◌≡◌, ℕ, suc, ◌+◌, ◌-◌, ◌*◌, ◌==◌, ◌<◌, true, ◌&&◌, ◌||◌, List, [], ◌∷◌, ◌++◌, length, take, drop, slice_index, nat_lt, Option, Some, None, option_map, if◌then◌else◌, codes}
use Rattle.std.specs.List.{prefix_len, position}
use Rattle.std.specs.Char.{is_ascii_digit, is_ascii_alphanumeric}
use Rattle.std.specs.Int.{is_in_range}
use Rattle.std.specs.Str.{bytes_eq}
use Rattle.gl_syslogtext.specs.declared.bsd.BsdStamp.{BsdStamp}
use Rattle.gl_syslogtext.specs.declared.bsd.BsdParts.{BsdParts}
use Rattle.gl_syslogtext.specs.Sections.{◌>>=◌, split, pri_in, pri_at, clock_at}
use Rattle.gl_syslogtext.specs.Rfc5424.{has_none, IsSection, up_to}

-- the English months (section 4.1.2)
abbrev pub month_names : List (List ℕ)
month_names =
    codes "Jan" ∷ codes "Feb" ∷ codes "Mar" ∷ codes "Apr" ∷ codes "May" ∷ codes "Jun"
    ∷ codes "Jul" ∷ codes "Aug" ∷ codes "Sep" ∷ codes "Oct" ∷ codes "Nov" ∷ codes "Dec" ∷ []

-- a month by its name, 1 to 12
unfoldable pub month_of : List ℕ → Option ℕ
month_of name = option_map suc (position (λ month. bytes_eq month name) month_names)

-- a day: two digits, or a space and a digit
unfoldable pub day_of : List ℕ → Option ℕ
day_of text =
    if length text == 2 && (is_ascii_digit (slice_index text 0) || slice_index text 0 == 32) && is_ascii_digit (slice_index text 1)
    then Some ((slice_index text 0 - 48) * 10 + (slice_index text 1 - 48)) else None

-- TIMESTAMP: `Mmm dd hh:mm:ss`, to 23:59:59 (section 4.1.2)
unfoldable pub bsd_stamp_of : List ℕ → Option BsdStamp
bsd_stamp_of text = do
  spaced ← if length text == 15 && slice_index text 3 == 32 && slice_index text 6 == 32 then Some text else None
  month ← month_of (take 3 text)
  day ← day_of (take 2 (drop 4 text))
  clock ← clock_at 7 text
  Some (record { month = month; day = day; hour = clock.0; minute = clock.1; second = clock.2 })

-- PRI, TIMESTAMP, a HOSTNAME that isn't empty and has no space, and MSG (sections 4.1.1 to 4.1.3)
pub record Reads3164 (text : List ℕ) (parts : BsdParts) : Type 0 where
  pub priority : List ℕ
  pub stamp : List ℕ
  pub whole : text ≡ up_to priority 62 (stamp ++ 32 ∷ up_to parts.host 32 parts.msg)
  pub is_priority : IsSection 62 pri_in priority parts.pri
  pub is_stamp : bsd_stamp_of stamp ≡ Some parts.stamp
  pub some : 0 < length parts.host
  pub one : has_none 32 parts.host ≡ true

-- the same from left to right

-- a time stamp at the front, and what follows the space behind it
unfoldable pub bsd_stamp_at : List ℕ → Option (BsdStamp × List ℕ)
bsd_stamp_at text = do
  front ← if slice_index text 15 == 32 then Some (take 15 text) else None
  stamp ← bsd_stamp_of front
  Some (stamp, drop 16 text)

unfoldable pub bsd_parts_of : List ℕ → Option BsdParts
bsd_parts_of text = do
  pri ← pri_at text
  stamp ← bsd_stamp_at pri.1
  host ← split 32 stamp.1
  if nat_lt 0 (length host.0) then Some (record { pri = pri.0; stamp = stamp.0; host = host.0; msg = host.1 }) else None

-- what stands in MSG (section 4.1.3)

-- TAG: the letters and digits at its front, 1 to 32, before a character that is neither; and what follows it
unfoldable pub tag_at : List ℕ → Option (List ℕ × List ℕ)
tag_at msg =
    if is_in_range 1 32 (prefix_len is_ascii_alphanumeric msg) && nat_lt (prefix_len is_ascii_alphanumeric msg) (length msg)
    then Some (take (prefix_len is_ascii_alphanumeric msg) msg, drop (prefix_len is_ascii_alphanumeric msg) msg) else None

abbrev pub tag_of : List ℕ → Option (List ℕ)
tag_of msg = option_map (λ t. t.0) (tag_at msg)

-- a process id at the front of what follows TAG: `[`, one digit or more, and `]`
unfoldable pub process_at : List ℕ → Option (List ℕ)
process_at text =
    if slice_index text 0 == 91 && nat_lt 0 (prefix_len is_ascii_digit (drop 1 text)) && slice_index (drop 1 text) (prefix_len is_ascii_digit (drop 1 text)) == 93
    then Some (take (prefix_len is_ascii_digit (drop 1 text)) (drop 1 text)) else None

abbrev pub process_of : List ℕ → Option (List ℕ)
process_of msg = tag_at msg >>= λ t. process_at t.1
