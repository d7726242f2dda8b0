-- Times in milliseconds since 1970 began in UTC, by the proleptic Gregorian calendar; which of them is taken is this project's.
use Rattle.std.specs.Prelude.{ℕ, zero, suc, ◌+◌, ◌-◌, ◌*◌, ◌/◌, ℤ, pos, ◌+ℤ◌, ◌-ℤ◌, ◌*ℤ◌, int_le, nat_lt, nat_le, ◌&&◌, List, ◌++◌, take, Option, Some, None, option_map, if◌then◌else◌, codes}
use Rattle.jiff_core.specs.Calendar.{days_from_civil, days_in_year}
use Rattle.gl_base.specs.Digits.{decimal}
use Rattle.gl_syslogtext.specs.declared.parts.Stamp.{Stamp}
use Rattle.gl_syslogtext.specs.declared.bsd.BsdStamp.{BsdStamp}
use Rattle.gl_syslogtext.specs.Sections.{◌>>=◌, is_date}

-- from the start of a day to a time on its clock
abbrev pub clock_ms : ℕ → ℕ → ℕ → ℕ
clock_ms hour minute second = ((hour * 60 + minute) * 60 + second) * 1000

-- the time at which a day's clock shows this, where the date exists in the years 0 to 9999
unfoldable pub civil_ms : ℕ → ℕ → ℕ → ℕ → Option ℤ
civil_ms year month day clock =
    if nat_le year 9999 && is_date year month day then Some ((days_from_civil (pos year) month day *ℤ pos 86400000) +ℤ pos clock) else None

-- the digits behind a point, cut to milliseconds
abbrev pub fraction_ms : List ℕ → ℕ
fraction_ms digits = decimal 0 (take 3 (digits ++ codes "000"))

-- an offset, east of UTC
abbrev pub offset_ms : Option ℤ → ℤ
offset_ms None = pos 0
offset_ms (Some minutes) = minutes *ℤ pos 60000

-- the time of a stamp (RFC 5424 section 6.2.3): that of its clock, and its offset is subtracted
unfoldable pub stamp_ms : Stamp → Option ℤ
stamp_ms s = option_map (λ time. (time +ℤ pos (fraction_ms s.fraction)) -ℤ offset_ms s.offset_minutes) (civil_ms s.year s.month s.day (clock_ms s.hour s.minute s.second))

abbrev pub time_of : Option Stamp → Option ℤ
time_of None = None
time_of (Some s) = stamp_ms s

-- a time from 1970 to the end of 9999, and else the receive moment
abbrev pub kept_or : ℕ → Option ℤ → ℤ
kept_or moment None = pos moment
kept_or moment (Some time) = if int_le (pos 0) time && int_le time (pos 253402300799999) then time else pos moment

-- the year in which a day lies that comes so many days after 1 January of this year; the first number, which bounds the years, may be that of the days
abbrev pub year_after : ℕ → ℕ → ℕ → ℕ
year_after zero year days = year
year_after (suc n) year days = if nat_lt days (days_in_year (pos year)) then year else year_after n (year + 1) (days - days_in_year (pos year))

-- the year of a moment
unfoldable pub year_of : ℕ → ℕ
year_of moment = year_after (moment / 86400000) 1970 (moment / 86400000)

-- the time of a stamp without a year (RFC 3164 section 4.1.2) in a year
unfoldable pub bsd_ms : ℕ → BsdStamp → Option ℤ
bsd_ms year s = civil_ms year s.month s.day (clock_ms s.hour s.minute s.second)

-- the same in the receive moment's year, or in the year before where it would come more than a day after that moment
unfoldable pub bsd_time : ℕ → BsdStamp → Option ℤ
bsd_time moment s = do
  time ← bsd_ms (year_of moment) s
  if int_le time (pos (moment + 86400000)) then Some time else bsd_ms (year_of moment - 1) s
