-- The names of the numbers in a syslog priority (RFC 5424 section 6.2.1, tables 1 and 2), in this project's spelling.
use Rattle.std.specs.Prelude.{ℕ, List, [], ◌∷◌, codes, slice_index_or}

-- facilities 0 to 23
abbrev pub facility_names : List (List ℕ)
facility_names =
    codes "kern" ∷ codes "user" ∷ codes "mail" ∷ codes "daemon" ∷ codes "auth" ∷ codes "syslog" ∷ codes "lpr" ∷ codes "news"
    ∷ codes "uucp" ∷ codes "cron" ∷ codes "authpriv" ∷ codes "ftp" ∷ codes "ntp" ∷ codes "audit" ∷ codes "alert" ∷ codes "clock"
    ∷ codes "local0" ∷ codes "local1" ∷ codes "local2" ∷ codes "local3" ∷ codes "local4" ∷ codes "local5" ∷ codes "local6" ∷ codes "local7" ∷ []

-- empty for another number
abbrev pub facility_name : ℕ → List ℕ
facility_name facility = slice_index_or facility_names facility []

-- severities 0 to 7
abbrev pub severity_names : List (List ℕ)
severity_names =
    codes "Emergency" ∷ codes "Alert" ∷ codes "Critical" ∷ codes "Error" ∷ codes "Warning" ∷ codes "Notice" ∷ codes "Informational" ∷ codes "Debug" ∷ []

-- empty for another number
abbrev pub severity_name : ℕ → List ℕ
severity_name severity = slice_index_or severity_names severity []
