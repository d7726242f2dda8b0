-- The fields of a payload of syslog. Their names, and which of them are put, are this project's.
use Rattle.std.specs.Prelude.{ℕ, ◌/◌, ◌%◌, pos, List, [], ◌∷◌, ◌++◌, map, Option, Some, None, Result, if◌then◌else◌, codes}
use Rattle.std.specs.List.{flat_map}
use Rattle.std.specs.Option.{unwrap_or}
use Rattle.std.specs.Str.Lossy.{utf8_lossy}
use Rattle.gl_fields.specs.declared.field.Field.{Field}
use Rattle.gl_fields.specs.declared.entry.Cause.{Cause}
use Rattle.gl_fields.specs.Fields.{is_name_byte}
use Rattle.gl_fields.specs.Putting.{text_field, whole_field, map_with}
use Rattle.gl_text.specs.SyslogNames.{facility_name}
use Rattle.gl_syslogtext.specs.declared.parts.Element.{Element}
use Rattle.gl_syslogtext.specs.declared.parts.Parts.{Parts}
use Rattle.gl_syslogtext.specs.declared.bsd.BsdParts.{BsdParts}
use Rattle.gl_syslog.specs.declared.content.Content.{Content}
use Rattle.gl_syslogtext.specs.Sections.{pri_at}
use Rattle.gl_syslogtext.specs.MessageReading.{parts_of}
use Rattle.gl_syslogtext.specs.Rfc3164.{bsd_parts_of, tag_of, process_of}
use Rattle.gl_syslog.specs.Moments.{time_of, bsd_time, kept_or}

-- what a message says, by its form

-- a message of RFC 5424
abbrev pub content_5424 : ℕ → List ℕ → Parts → Content
content_5424 moment peer p = record {
  pri = p.pri;
  timestamp = kept_or moment (time_of p.stamp);
  message = unwrap_or p.msg [];
  source = unwrap_or p.host peer;
  application_name = p.app;
  process_id = p.proc_id;
  message_id = p.msg_id;
  elements = p.elements;
}

-- a message of RFC 3164
abbrev pub content_3164 : ℕ → BsdParts → Content
content_3164 moment p = record {
  pri = p.pri;
  timestamp = kept_or moment (bsd_time moment p.stamp);
  message = p.msg;
  source = p.host;
  application_name = tag_of p.msg;
  process_id = process_of p.msg;
  message_id = None;
  elements = [];
}

-- a text of neither form
abbrev pub content_plain : ℕ → List ℕ → ℕ × List ℕ → Content
content_plain moment peer (pri, message) = record {
  pri = pri;
  timestamp = pos moment;
  message = message;
  source = peer;
  application_name = None;
  process_id = None;
  message_id = None;
  elements = [];
}

-- RFC 5424 is tried first, then RFC 3164, then PRI alone; a text without one has PRI 13 (RFC 3164 section 4.3.3)
abbrev pub content_by : ℕ → List ℕ → List ℕ → Option Parts → Option BsdParts → Option (ℕ × List ℕ) → Content
content_by moment peer text (Some parts) bsd pri = content_5424 moment peer parts
content_by moment peer text None (Some parts) pri = content_3164 moment parts
content_by moment peer text None None (Some pri) = content_plain moment peer pri
content_by moment peer text None None None = content_plain moment peer (13, text)

unfoldable pub content_of : ℕ → List ℕ → List ℕ → Content
content_of moment peer text = content_by moment peer text (parts_of text) (bsd_parts_of text) (pri_at text)

-- the fields, in the order in which they are put

abbrev pub field_if : List ℕ → Option (List ℕ) → List Field
field_if name None = []
field_if name (Some text) = text_field name text ∷ []

-- a byte, or `_` where a field name doesn't allow it
abbrev pub allowed : ℕ → ℕ
allowed b = if is_name_byte b then b else 95

-- ID, a point and NAME
abbrev pub parameter_name : List ℕ → List ℕ → List ℕ
parameter_name id name = map allowed (id ++ 46 ∷ name)

abbrev pub parameter_field : List ℕ → List ℕ × List ℕ → Field
parameter_field id (name, value) = text_field (parameter_name id name) value

abbrev pub element_fields : Element → List Field
element_fields e = map (λ p. parameter_field e.id p) e.params

unfoldable pub fields_of : Content → List Field
fields_of c =
    text_field (codes "message") c.message
    ∷ text_field (codes "source") c.source
    ∷ whole_field (codes "timestamp") c.timestamp
    ∷ whole_field (codes "level") (pos (c.pri % 8))
    ∷ text_field (codes "facility") (facility_name (c.pri / 8))
    ∷ (field_if (codes "application_name") c.application_name
    ++ (field_if (codes "process_id") c.process_id
    ++ (field_if (codes "message_id") c.message_id ++ flat_map element_fields c.elements)))

-- what a payload is decoded to that came from this peer at this moment
unfoldable pub decoded_syslog : ℕ → List ℕ → List ℕ → Result (List Field) Cause
decoded_syslog moment peer bytes = map_with (fields_of (content_of moment peer (utf8_lossy bytes)))
