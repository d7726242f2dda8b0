-- The fields of a GELF message (GELF 1.1): those that it names, and the additional ones.
use Rattle.std.specs.Prelude.{ℕ, ℤ, ⊤, pos, Bool, not, ◌&&◌, ◌||◌, ◌==◌, nat_le, List, [], ◌∷◌, ◌++◌, length, map, slice_index, if◌then◌else◌, Option, Some, None, unwrap_or, Result, Ok, Err, codes}
use Rattle.std.specs.List.{list_any, flat_map}
use Rattle.std.specs.Str.{bytes_eq}
use Rattle.gl_fields.specs.declared.entry.Cause.{Cause}
use Rattle.gl_fields.specs.declared.entry.Cause.TheVariants as causes
use Rattle.gl_fields.specs.declared.field.Field.{Field}
use Rattle.gl_fields.specs.declared.value.Value.{Value as Held}
use Rattle.gl_fields.specs.declared.value.Value.TheVariants.{Text}
use Rattle.gl_base.specs.Bytes.{next_is, behind_first}
use Rattle.gl_base.specs.Digits.{whole_of}
use Rattle.gl_fields.specs.Fields.{is_field_name}
use Rattle.gl_fields.specs.Putting.{text_field, whole_field, map_with}
use Rattle.gl_json.specs.declared.refusal.JsonRefusal.{JsonRefusal}
use Rattle.gl_json.specs.declared.refusal.JsonRefusal.TheVariants as json
use Rattle.gl_json.specs.Grammar.{Value, text, number, yes_, no_, null, object, array, Pair}
use Rattle.gl_json.specs.Escapes.{said}
use Rattle.gl_json.specs.Flattening.{number_field}
use Rattle.gl_json.specs.Places.{object_of}
use Rattle.gl_gelf.specs.Decimals.{whole_in, moment_of}
use Rattle.gl_gelf.specs.Members.{with_said_name, counted, value_named}

-- a payload that begins as gzip does (RFC 1952, section 2.3.1), or as zlib at one of its levels (RFC 1950, section 2.2)
abbrev pub is_compressed : List ℕ → Bool
is_compressed bytes = nat_le 2 (length bytes)
    && ((slice_index bytes 0 == 31 && slice_index bytes 1 == 139)
    || (slice_index bytes 0 == 120 && list_any (λ level. slice_index bytes 1 == level) (1 ∷ 94 ∷ 156 ∷ 218 ∷ [])))

-- The fields that a message names.

abbrev pub some_text : List ℕ → Option (List ℕ)
some_text [] = None
some_text (b ∷ bytes) = Some (b ∷ bytes)

-- `short_message`: a string that isn't empty, or a number as it is written
unfoldable pub short_message : Option Value → Option (List ℕ)
short_message (Some (text raw)) = some_text (said raw)
short_message (Some (number literal)) = Some literal
short_message other = None

-- `host`: a string that isn't empty; else the peer is the source
unfoldable pub source : List ℕ → Option Value → List ℕ
source peer (Some (text raw)) = unwrap_or (some_text (said raw)) peer
source peer other = peer

-- `timestamp`: seconds as a number, or as a string that is one; else the moment at which the message came in
unfoldable pub timestamp : ℕ → Option Value → ℕ
timestamp moment (Some (number literal)) = unwrap_or (moment_of literal) moment
timestamp moment (Some (text raw)) = unwrap_or (moment_of (said raw)) moment
timestamp moment other = moment

-- `level`: a whole number, or a string that is one; else 1
unfoldable pub level : Option Value → ℤ
level (Some (number literal)) = unwrap_or (whole_in literal) (pos 1)
level (Some (text raw)) = unwrap_or (whole_in (said raw)) (pos 1)
level other = pos 1

-- `full_message`, where it is a string
unfoldable pub full_message : Option Value → List Field
full_message (Some (text raw)) = text_field (codes "full_message") (said raw) ∷ []
full_message other = []

-- The additional fields.

-- what a value gives: null gives nothing
unfoldable pub held : Value → Option Held
held (text raw) = Some (Text (said raw))
held (number literal) = Some (number_field literal (whole_of literal))
held yes_ = Some (Text (codes "true"))
held no_ = Some (Text (codes "false"))
held null = None
held (object t) = Some (Text t)
held (array t) = Some (Text t)

abbrev pub is_among : List (List ℕ) → List ℕ → Bool
is_among names name = list_any (bytes_eq name) names

-- a member that a message has beside its additional ones
abbrev pub is_named : List ℕ → Bool
is_named name = is_among (codes "short_message" ∷ codes "host" ∷ codes "timestamp" ∷ codes "level" ∷ codes "full_message" ∷ codes "version" ∷ []) name

-- one underscore before a name is no part of the field's
abbrev pub field_name : List ℕ → List ℕ
field_name name = if next_is 95 name then behind_first name else name

-- a name that no additional field has
abbrev pub is_reserved : List ℕ → Bool
is_reserved name = is_among (codes "id" ∷ codes "message" ∷ codes "source" ∷ codes "timestamp" ∷ codes "level" ∷ codes "full_message" ∷ []) name

abbrev pub given : List ℕ → Option Held → List Field
given name None = []
given name (Some value) = record { name = name; value = value } ∷ []

unfoldable pub additional : Pair → List Field
additional m = if is_named m.name || is_reserved (field_name m.name) || not (is_field_name (field_name m.name)) then [] else given (field_name m.name) (held m.value)

-- The whole message.

-- the fields that a message names, in the order in which they are set
abbrev pub named_fields : ℕ → List ℕ → List ℕ → List Pair → List Field
named_fields moment peer message ms =
    text_field (codes "message") message
    ∷ text_field (codes "source") (source peer (value_named (codes "host") ms))
    ∷ whole_field (codes "timestamp") (pos (timestamp moment (value_named (codes "timestamp") ms)))
    ∷ whole_field (codes "level") (level (value_named (codes "level") ms))
    ∷ full_message (value_named (codes "full_message") ms)

abbrev pub fields_behind : ℕ → List ℕ → List Pair → Option (List ℕ) → Result (List Field) Cause
fields_behind moment peer ms None = Err causes.NoShortMessage
fields_behind moment peer ms (Some message) = map_with (named_fields moment peer message ms ++ flat_map additional (counted ms))

unfoldable pub fields_of : ℕ → List ℕ → List Pair → Result (List Field) Cause
fields_of moment peer ms = fields_behind moment peer ms (short_message (value_named (codes "short_message") ms))

-- a text is refused for its form, or for its depth
abbrev pub refusal_cause : JsonRefusal → Cause
refusal_cause (json.NotJson at) = causes.NotJson at
refusal_cause other = causes.TooDeep

abbrev pub of_object : ℕ → List ℕ → Result (List Pair) JsonRefusal → Result (List Field) Cause
of_object moment peer (Ok ms) = fields_of moment peer (map with_said_name ms)
of_object moment peer (Err refusal) = Err (refusal_cause refusal)

-- the fields of a payload that came in at this moment from this peer, or why it has none
unfoldable pub gelf_fields : ℕ → List ℕ → List ℕ → Result (List Field) Cause
gelf_fields moment peer bytes = if is_compressed bytes then Err causes.Compressed else of_object moment peer (object_of bytes)

-- a payload that is no object of at most 64 levels, or in which a 65th opens
abbrev pub IsRefused : Result (List Field) Cause → Type 0
IsRefused (Err (causes.NotJson at)) = ⊤
IsRefused (Err causes.TooDeep) = ⊤
IsRefused other = ⊥
