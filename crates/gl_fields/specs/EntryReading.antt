-- What bytes say as an entry, or as an outcome, and else the place at which they stop to: that of the first unit
-- that isn't taken behind the units before it. Units are the sign of a kind, each count, length, port, moment,
-- version, id and number, and the bytes of each text.
use Rattle.std.specs.Prelude.{ℕ, ◌+◌, ◌-◌, ◌^◌, ◌&&◌, not, Bool, List, [], length, Option, Some, None, Result, Ok, Err, nat_lt, nat_le, ◌==◌, if◌then◌else◌, codes}
use Rattle.std.specs.List.{list_all}
use Rattle.std.specs.Int.{w16, w32, w64, cast_signed}
use Rattle.std.specs.Str.{bytes_eq, is_utf8}
use Rattle.gl_fields.specs.declared.input_kind.InputKind.{InputKind}
use Rattle.gl_fields.specs.declared.input_kind.InputKind.TheVariants.{Raw, Gelf, Syslog}
use Rattle.gl_fields.specs.declared.entry.Origin.{Origin}
use Rattle.gl_fields.specs.declared.entry.Entry.{Entry}
use Rattle.gl_fields.specs.declared.entry.Entry.TheVariants.{Admin, Message}
use Rattle.gl_fields.specs.declared.entry.Message.{Message as Payload}
use Rattle.gl_fields.specs.declared.entry.Cause.{Cause}
use Rattle.gl_fields.specs.declared.entry.Cause.TheVariants.{NotJson, TooDeep, Compressed, NoShortMessage, TooManyFields, TooLarge}
use Rattle.gl_fields.specs.declared.entry.Outcome.{Outcome}
use Rattle.gl_fields.specs.declared.entry.Outcome.TheVariants.{Applied, Stored, Dropped, Undecodable}
use Rattle.gl_fields.specs.declared.field.Field.{Field}
use Rattle.gl_fields.specs.declared.value.Value.{Value}
use Rattle.gl_fields.specs.declared.value.Value.TheVariants.{Text, Whole}
use Rattle.gl_fields.specs.Fields.{comes_before, is_field_name, is_text, field_size, counted_size}
use Rattle.gl_fields.specs.Units.{◌>>=◌, byte_at, number_at, text_at, are_any, short_text_at, long_text_at, many_at, whole}

-- entries

abbrev pub kind_of : ℕ → InputKind
kind_of sign = if sign == 0 then Raw else (if sign == 1 then Gelf else Syslog)

unfoldable pub kind_at : List ℕ → Result (InputKind × List ℕ) ℕ
kind_at bytes = do
  sign ← byte_at 0 2 bytes
  Ok (kind_of sign.0, sign.1)

-- a message of this input, peer and origin, from its moment on
unfoldable pub received_at : List ℕ → List ℕ → Option Origin → List ℕ → Result (Payload × List ℕ) ℕ
received_at input peer origin bytes = do
  moment ← number_at w64 0 253402300799999 bytes
  version ← number_at w64 0 (2 ^ 64 - 1) moment.1
  payload ← long_text_at are_any 1 1048576 version.1
  Ok (record { input = input; peer = peer; origin = origin; moment = moment.0; version = version.0; bytes = payload.0 }, payload.1)

-- a message in the first format
unfoldable pub message_at : List ℕ → Result (Payload × List ℕ) ℕ
message_at bytes = do
  input ← short_text_at 64 bytes
  peer ← short_text_at 255 input.1
  received_at input.0 peer.0 None peer.1

-- a message in the second format
unfoldable pub origin_message_at : List ℕ → Result (Payload × List ℕ) ℕ
origin_message_at bytes = do
  input ← short_text_at 64 bytes
  kind ← kind_at input.1
  peer ← short_text_at 255 kind.1
  port ← number_at w16 0 65535 peer.1
  received_at input.0 peer.0 (Some (record { kind = kind.0; port = port.0 })) port.1

unfoldable pub command_at : List ℕ → Result (Entry × List ℕ) ℕ
command_at bytes = do
  command ← long_text_at are_any 0 4194299 bytes
  Ok (Admin command.0, command.1)

unfoldable pub payload_at : List ℕ → Result (Entry × List ℕ) ℕ
payload_at bytes = do
  m ← message_at bytes
  Ok (Message m.0, m.1)

unfoldable pub origin_payload_at : List ℕ → Result (Entry × List ℕ) ℕ
origin_payload_at bytes = do
  m ← origin_message_at bytes
  Ok (Message m.0, m.1)

unfoldable pub entry_at : List ℕ → Result (Entry × List ℕ) ℕ
entry_at bytes = do
  sign ← byte_at 1 3 bytes
  if sign.0 == 1 then command_at sign.1 else (if sign.0 == 2 then payload_at sign.1 else origin_payload_at sign.1)

unfoldable pub entry_of : List ℕ → Result Entry ℕ
entry_of bytes = whole bytes (entry_at bytes)

-- outcomes

-- an id above each before it
unfoldable pub id_at : List ℕ → List ℕ → Result (ℕ × List ℕ) ℕ
id_at ids bytes = do
  id ← number_at w64 0 (2 ^ 64 - 1) bytes
  if list_all (λ other. nat_lt other id.0) ids then Ok id else Err (length bytes)

unfoldable pub text_value_at : List ℕ → Result (Value × List ℕ) ℕ
text_value_at bytes = do
  text ← long_text_at is_utf8 0 (2 ^ 32 - 1) bytes
  Ok (Text text.0, text.1)

unfoldable pub whole_value_at : List ℕ → Result (Value × List ℕ) ℕ
whole_value_at bytes = do
  number ← number_at w64 0 (2 ^ 64 - 1) bytes
  Ok (Whole (cast_signed w64 number.0), number.1)

unfoldable pub value_at : List ℕ → Result (Value × List ℕ) ℕ
value_at bytes = do
  sign ← byte_at 0 1 bytes
  if sign.0 == 0 then text_value_at sign.1 else whole_value_at sign.1

-- a name of so many bytes, lawful and behind the names of these fields
unfoldable pub name_at : List Field → ℕ → List ℕ → Result (List ℕ × List ℕ) ℕ
name_at fields len bytes = do
  name ← text_at is_utf8 len bytes
  if is_field_name name.0 && list_all (λ field. comes_before field.name name.0) fields then Ok name else Err (length bytes)

-- whether a map takes a field of a later name behind these: `timestamp` is no text, and they don't count too much
abbrev pub is_taken : List Field → Field → Bool
is_taken fields field =
    not (bytes_eq field.name (codes "timestamp") && is_text field.value) && nat_le (counted_size fields + field_size field) 2097152

-- the field whose name has so many bytes; one that the map refuses counts at its name
unfoldable pub named_at : List Field → ℕ → List ℕ → Result (Field × List ℕ) ℕ
named_at fields len bytes = do
  name ← name_at fields len bytes
  value ← value_at name.1
  if is_taken fields (record { name = name.0; value = value.0 }) then Ok (record { name = name.0; value = value.0 }, value.1) else Err (length bytes)

unfoldable pub field_at : List Field → List ℕ → Result (Field × List ℕ) ℕ
field_at fields bytes = do
  len ← byte_at 1 255 bytes
  named_at fields len.0 len.1

unfoldable pub stored_at : List ℕ → Result (Outcome × List ℕ) ℕ
stored_at bytes = do
  count ← number_at w16 1 65535 bytes
  streams ← many_at id_at count.0 [] count.1
  many ← number_at w16 0 256 streams.1
  fields ← many_at field_at many.0 [] many.1
  Ok (Stored streams.0 fields.0, fields.1)

-- the cause that its sign alone says
abbrev pub plain_cause : ℕ → Cause
plain_cause sign =
    if sign == 2 then TooDeep else (if sign == 3 then Compressed else (if sign == 4 then NoShortMessage
    else (if sign == 5 then TooManyFields else TooLarge)))

unfoldable pub not_json_at : List ℕ → Result (Cause × List ℕ) ℕ
not_json_at bytes = do
  at ← number_at w32 0 (2 ^ 32 - 1) bytes
  Ok (NotJson at.0, at.1)

unfoldable pub cause_at : List ℕ → Result (Cause × List ℕ) ℕ
cause_at bytes = do
  sign ← byte_at 1 6 bytes
  if sign.0 == 1 then not_json_at sign.1 else Ok (plain_cause sign.0, sign.1)

unfoldable pub undecodable_at : List ℕ → Result (Outcome × List ℕ) ℕ
undecodable_at bytes = do
  cause ← cause_at bytes
  Ok (Undecodable cause.0, cause.1)

unfoldable pub outcome_at : List ℕ → Result (Outcome × List ℕ) ℕ
outcome_at bytes = do
  sign ← byte_at 16 19 bytes
  if sign.0 == 16 then Ok (Applied, sign.1) else (if sign.0 == 17 then stored_at sign.1
      else (if sign.0 == 18 then Ok (Dropped, sign.1) else undecodable_at sign.1))

unfoldable pub outcome_of : List ℕ → Result Outcome ℕ
outcome_of bytes = whole bytes (outcome_at bytes)
