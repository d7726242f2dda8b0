-- The fields that a message gives by the kind of its input, or why it gives none (this project).
use Rattle.std.specs.Prelude.{ℕ, ◌==◌, List, [], ◌∷◌, codes, pos, Option, Some, None, Result, Ok, Err, if◌then◌else◌}
use Rattle.std.specs.Str.Lossy.{utf8_lossy}
use Rattle.gl_fields.specs.declared.field.Field.{Field}
use Rattle.gl_fields.specs.declared.field.FieldRefusal.{FieldRefusal}
use Rattle.gl_fields.specs.declared.entry.Message.{Message}
use Rattle.gl_fields.specs.declared.entry.Origin.{Origin}
use Rattle.gl_fields.specs.declared.entry.Cause.{Cause}
use Rattle.gl_fields.specs.declared.input_kind.InputKind.{InputKind}
use Rattle.gl_fields.specs.declared.input_kind.InputKind.TheVariants.{Raw, Gelf, Syslog}
use Rattle.gl_fields.specs.Fields.{with_field, refusal_of}
use Rattle.gl_fields.specs.Putting.{map_with, text_field, whole_field}
use Rattle.gl_gelf.specs.Decoding.{gelf_fields}
use Rattle.gl_syslog.specs.Decoding.{decoded_syslog}

-- the fields of a raw message, in the order in which they are put: the payload as lossy UTF-8, the peer, the receive moment
abbrev pub raw_fields : Message → List Field
raw_fields m =
    text_field (codes "message") (utf8_lossy m.bytes)
    ∷ text_field (codes "source") m.peer
    ∷ whole_field (codes "timestamp") (pos m.moment)
    ∷ []

-- the fields of the payload, by the kind of its input
abbrev pub payload_fields : InputKind → Message → Result (List Field) Cause
payload_fields Raw m = map_with (raw_fields m)
payload_fields Gelf m = gelf_fields m.moment m.peer m.bytes
payload_fields Syslog m = decoded_syslog m.moment m.peer m.bytes

-- the port of the peer; 0 where none is known
abbrev pub port_of : Option Origin → ℕ
port_of None = 0
port_of (Some origin) = origin.port

-- these new fields, or the old ones where the map refused
abbrev pub unless_refused : Option FieldRefusal → List Field → List Field → List Field
unless_refused None old new = new
unless_refused (Some refusal) old new = old

abbrev pub port_field : ℕ → Field
port_field port = whole_field (codes "remote_port") (pos port)

-- the fields with the port, in place of a field of that name; as they were where none is known or the map refuses it
unfoldable pub with_port : ℕ → List Field → List Field
with_port port fields =
    if port == 0 then fields else unless_refused (refusal_of (port_field port) fields) fields (with_field (port_field port) fields)

abbrev pub with_port_of : Option Origin → Result (List Field) Cause → Result (List Field) Cause
with_port_of origin (Err cause) = Err cause
with_port_of origin (Ok fields) = Ok (with_port (port_of origin) fields)

-- the fields of a message that came to an input of this kind, or why it has none
abbrev pub decoded : InputKind → Message → Result (List Field) Cause
decoded kind m = with_port_of m.origin (payload_fields kind m)
