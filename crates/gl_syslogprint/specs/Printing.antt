-- Which parts some text has, and the text that is printed of them (RFC 5424 section 6).
use Rattle.std.specs.Prelude.{ℕ, suc, ◌+◌, ◌/◌, ◌%◌, ℤ, pos, negsuc, Bool, true, not, ◌&&◌, ◌||◌, List, [], ◌∷◌, ◌++◌, length, nat_lt, nat_le, Option, Some, None, if◌then◌else◌, codes}
use Rattle.std.specs.List.{list_all}
use Rattle.std.specs.Str.{bytes_eq}
use Rattle.gl_syslogtext.specs.declared.parts.Element.{Element}
use Rattle.gl_syslogtext.specs.declared.parts.Stamp.{Stamp}
use Rattle.gl_syslogtext.specs.declared.parts.Parts.{Parts}
use Rattle.std.specs.Char.{is_ascii_digit, is_ascii_graphic}
use Rattle.gl_syslogtext.specs.Sections.{is_date}
use Rattle.gl_syslogtext.specs.Data.{is_special, has_bom}
use Rattle.gl_syslogtext.specs.MessageReading.{are_distinct, ids_of}
use Rattle.gl_syslogtext.specs.Rfc5424.{is_sd_name, up_to}

-- two digits of a number up to 99
abbrev pub two_digits : ℕ → List ℕ
two_digits n = (48 + n / 10) ∷ (48 + n % 10) ∷ []

-- 1 to 3 digits of a number up to 199, with no 0 in front
abbrev pub pri_digits : ℕ → List ℕ
pri_digits n = if nat_lt n 10 then (48 + n) ∷ [] else (if nat_lt n 100 then two_digits n else (48 + n / 100) ∷ two_digits (n % 100))

abbrev pub name_text : Option (List ℕ) → List ℕ
name_text None = codes "-"
name_text (Some name) = name

-- a name that is not what stands for none
abbrev pub is_name : ℕ → Option (List ℕ) → Bool
is_name most None = true
is_name most (Some name) = not (bytes_eq name (codes "-")) && (nat_lt 0 (length name) && nat_le (length name) most && list_all is_ascii_graphic name)

abbrev pub hours_minutes : ℕ → List ℕ
hours_minutes n = two_digits (n / 60) ++ 58 ∷ two_digits (n % 60)

-- `Z`, or hours and minutes behind their sign, which is `+` of 0
abbrev pub offset_text : Option ℤ → List ℕ
offset_text None = codes "Z"
offset_text (Some (pos n)) = 43 ∷ hours_minutes n
offset_text (Some (negsuc n)) = 45 ∷ hours_minutes (suc n)

-- up to 23:59
abbrev pub is_offset : Option ℤ → Bool
is_offset None = true
is_offset (Some (pos n)) = nat_le n 1439
is_offset (Some (negsuc n)) = nat_le (suc n) 1439

abbrev pub fraction_text : List ℕ → List ℕ
fraction_text [] = []
fraction_text (d ∷ ds) = 46 ∷ d ∷ ds

unfoldable pub date_text : Stamp → List ℕ
date_text s = two_digits (s.year / 100) ++ (two_digits (s.year % 100) ++ 45 ∷ (two_digits s.month ++ 45 ∷ two_digits s.day))

unfoldable pub clock_text : Stamp → List ℕ
clock_text s = two_digits s.hour ++ 58 ∷ (two_digits s.minute ++ 58 ∷ two_digits s.second)

unfoldable pub time_text : Stamp → List ℕ
time_text s = date_text s ++ 84 ∷ (clock_text s ++ (fraction_text s.fraction ++ offset_text s.offset_minutes))

-- a date that exists, in so many digits, and a time of the day
unfoldable pub is_moment : Stamp → Bool
is_moment s = (nat_le s.year 9999 && (nat_le s.month 99 && (nat_le s.day 99 && is_date s.year s.month s.day))) && (nat_le s.hour 23 && (nat_le s.minute 59 && nat_le s.second 59))

unfoldable pub is_time : Stamp → Bool
is_time s = is_moment s && ((nat_le (length s.fraction) 6 && list_all is_ascii_digit s.fraction) && is_offset s.offset_minutes)

abbrev pub stamp_text : Option Stamp → List ℕ
stamp_text None = codes "-"
stamp_text (Some s) = time_text s

abbrev pub is_stamp : Option Stamp → Bool
is_stamp None = true
is_stamp (Some s) = is_time s

-- a value with a backslash before each byte that one escapes
abbrev pub escaped : List ℕ → List ℕ
escaped [] = []
escaped (b ∷ bs) = if is_special b then 92 ∷ b ∷ escaped bs else b ∷ escaped bs

abbrev pub param_text : List ℕ × List ℕ → List ℕ
param_text (name, value) = 32 ∷ (name ++ 61 ∷ 34 ∷ (escaped value ++ 34 ∷ []))

abbrev pub params_text : List (List ℕ × List ℕ) → List ℕ
params_text [] = []
params_text (p ∷ ps) = param_text p ++ params_text ps

unfoldable pub element_text : Element → List ℕ
element_text e = 91 ∷ (e.id ++ (params_text e.params ++ 93 ∷ []))

abbrev pub elements_text : List Element → List ℕ
elements_text [] = []
elements_text (e ∷ es) = element_text e ++ elements_text es

abbrev pub data_text : List Element → List ℕ
data_text [] = codes "-"
data_text (e ∷ es) = elements_text (e ∷ es)

abbrev pub is_param : List ℕ × List ℕ → Bool
is_param p = is_sd_name p.0

abbrev pub is_element : Element → Bool
is_element e = is_sd_name e.id && list_all is_param e.params

abbrev pub message_text : Bool → Option (List ℕ) → List ℕ
message_text bom None = []
message_text bom (Some msg) = if bom then 32 ∷ 239 ∷ 187 ∷ 191 ∷ msg else 32 ∷ msg

-- what begins with a byte order mark stands behind another one
abbrev pub is_message : Bool → Option (List ℕ) → Bool
is_message bom None = not bom
is_message bom (Some msg) = bom || not (has_bom msg)

unfoldable pub is_header : Parts → Bool
is_header p = nat_le p.pri 191 && (is_stamp p.stamp && (is_name 255 p.host && (is_name 48 p.app && (is_name 128 p.proc_id && is_name 32 p.msg_id))))

unfoldable pub are_lawful : Parts → Bool
are_lawful p = is_header p && (list_all is_element p.elements && (are_distinct (ids_of p.elements) && is_message p.bom p.msg))

unfoldable pub text_of : Parts → List ℕ
text_of p =
    up_to (60 ∷ pri_digits p.pri) 62 (up_to (codes "1") 32 (up_to (stamp_text p.stamp) 32 (up_to (name_text p.host) 32 (up_to (name_text p.app) 32
    (up_to (name_text p.proc_id) 32 (up_to (name_text p.msg_id) 32 (data_text p.elements ++ message_text p.bom p.msg)))))))
