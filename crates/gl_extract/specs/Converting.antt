-- What converters make of a value (this project).
use Rattle.std.specs.Prelude.{ℕ, ◌/◌, ◌%◌, nat_lt, List, ℤ, pos, negsuc, Option, Some, None, if◌then◌else◌}
use Rattle.std.specs.List.{fold}
use Rattle.gl_fields.specs.declared.value.Value.{Value}
use Rattle.gl_fields.specs.declared.value.Value.TheVariants.{Text, Whole}
use Rattle.gl_text.specs.Changing.{lowercase, uppercase}
use Rattle.gl_text.specs.Numbers.{whole_number}
use Rattle.gl_text.specs.SyslogNames.{facility_name}
use Rattle.gl_extract.specs.declared.parts.Converter.{Converter}
use Rattle.gl_extract.specs.declared.parts.Converter.TheVariants.{Numeric, Lowercase, Uppercase, SyslogLevel, SyslogFacility}

-- the whole number that a value is, or that its text writes
abbrev pub number_of : Value → Option ℤ
number_of (Text text) = whole_number text
number_of (Whole number) = Some number

-- a whole number in its place, where there is one
abbrev pub whole_or : Value → Option ℤ → Value
whole_or value None = value
whole_or value (Some number) = Whole number

-- a text, changed so
abbrev pub changed : (List ℕ → List ℕ) → Value → Value
changed change (Text text) = Text (change text)
changed change (Whole number) = Whole number

-- a syslog priority (RFC 5424, section 6.2.1): 0 to 191
abbrev pub priority : Option ℤ → Option ℕ
priority None = None
priority (Some (pos n)) = if nat_lt n 192 then Some n else None
priority (Some (negsuc n)) = None

abbrev pub severity : ℕ → Value
severity n = Whole (pos (n % 8))

abbrev pub facility : ℕ → Value
facility n = Text (facility_name (n / 8))

-- what a priority gives in the value's place, where it is one
abbrev pub given_or : (ℕ → Value) → Value → Option ℕ → Value
given_or give value None = value
given_or give value (Some n) = give n

unfoldable pub converted : Converter → Value → Value
converted Numeric value = whole_or value (number_of value)
converted Lowercase value = changed lowercase value
converted Uppercase value = changed uppercase value
converted SyslogLevel value = given_or severity value (priority (number_of value))
converted SyslogFacility value = given_or facility value (priority (number_of value))

-- the value after these, in order
abbrev pub converted_by : List Converter → Value → Value
converted_by converters value = fold (λ v converter. converted converter v) value converters
