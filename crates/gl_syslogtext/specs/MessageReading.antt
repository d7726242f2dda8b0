-- A whole message, from left to right (RFC 5424 section 6).
use Rattle.std.specs.Prelude.{ℕ, Bool, true, not, ◌&&◌, List, [], ◌∷◌, map, Option, Some, None, if◌then◌else◌, codes}
use Rattle.std.specs.List.{list_any}
use Rattle.std.specs.Str.{bytes_eq}
use Rattle.gl_syslogtext.specs.declared.parts.Element.{Element}
use Rattle.gl_syslogtext.specs.declared.parts.Parts.{Parts}
use Rattle.gl_syslogtext.specs.Sections.{◌>>=◌, split, pri_at, stamp_at, name_at}
use Rattle.gl_syslogtext.specs.Data.{data_at, message_of}

-- no text stands twice
abbrev pub are_distinct : List (List ℕ) → Bool
are_distinct [] = true
are_distinct (id ∷ ids) = not (list_any (bytes_eq id) ids) && are_distinct ids

abbrev pub ids_of : List Element → List (List ℕ)
ids_of elements = map (λ e. e.id) elements

-- structured data whose ids are distinct
unfoldable pub elements_of : List ℕ → Option (List Element × List ℕ)
elements_of text = do
  data_ ← data_at text
  if are_distinct (ids_of data_.0) then Some data_ else None

-- `1` and a space behind the priority
unfoldable pub version_at : List ℕ → Option (List ℕ)
version_at text = do
  version ← split 32 text
  if bytes_eq version.0 (codes "1") then Some version.1 else None

unfoldable pub parts_of : List ℕ → Option Parts
parts_of text = do
  pri ← pri_at text
  header ← version_at pri.1
  stamp ← stamp_at header
  host ← name_at 255 stamp.1
  app ← name_at 48 host.1
  proc_id ← name_at 128 app.1
  msg_id ← name_at 32 proc_id.1
  elements ← elements_of msg_id.1
  message ← message_of elements.1
  Some (record { pri = pri.0; stamp = stamp.0; host = host.0; app = app.0; proc_id = proc_id.0; msg_id = msg_id.0; elements = elements.0; bom = message.0; msg = message.1 })
