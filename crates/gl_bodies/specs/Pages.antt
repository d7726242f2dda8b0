-- The reply to a search that isn't refused (this project): a page of messages, and how many were found in all.
use Rattle.std.specs.Prelude.{ℕ, List, [], ◌∷◌, map, codes}
use Rattle.serde_json.specs.Data.{Data, number, string}
use Rattle.gl_fields.specs.declared.field.Field.{Field}
use Rattle.gl_fields.specs.declared.value.Value.{Value}
use Rattle.gl_fields.specs.declared.value.Value.TheVariants.{Text, Whole}
use Rattle.gl_text.specs.Ids.{id_text}
use Rattle.gl_http.specs.declared.reply.Reply.{Reply}
use Rattle.gl_sight.specs.Sight.{Seen}
use Rattle.gl_bodies.specs.Json.{Member, object_of, list_of, count_at, whole}
use Rattle.gl_bodies.specs.Replies.{reply}

abbrev pub value_data : Value → Data
value_data (Text text) = string text
value_data (Whole n) = number (whole n)

abbrev pub field_member : Field → Member
field_member field = (field.name, value_data field.value)

-- a message's fields, which are in the order of their names' bytes
abbrev pub fields_data : List Field → Data
fields_data fields = object_of (map field_member fields)

abbrev pub id_data : ℕ → Data
id_data id = string (id_text id)

abbrev pub message_data : Seen → Data
message_data message =
    object_of ((codes "fields", fields_data message.fields) ∷ (codes "streams", list_of id_data message.streams) ∷ [])

abbrev pub messages_at : List Seen → Member
messages_at page = (codes "messages", list_of message_data page)

abbrev pub page_reply : List Seen → (total : ℕ) → Reply
page_reply page total = reply 200 (messages_at page ∷ count_at (codes "total") total ∷ [])
