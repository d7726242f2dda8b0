-- What an entry becomes: one message at a time, under the configuration of its version.
use Rattle.std.specs.Prelude.{ℕ, List, [], ◌∷◌, codes, pos, map, take, drop, ◌++◌, length, Option, Some, None, Result, Ok, Err}
use Rattle.std.specs.Str.Lossy.{utf8_lossy}
use Rattle.gl_fields.specs.declared.field.Field.{Field}
use Rattle.gl_fields.specs.declared.value.Value.TheVariants.{Text, Whole}
use Rattle.gl_fields.specs.declared.entry.Message.{Message as Payload}
use Rattle.gl_fields.specs.declared.entry.Entry.{Entry}
use Rattle.gl_fields.specs.declared.entry.Entry.TheVariants.{Admin, Message}
use Rattle.gl_fields.specs.declared.entry.Cause.{Cause}
use Rattle.gl_fields.specs.declared.entry.Outcome.{Outcome}
use Rattle.gl_fields.specs.declared.entry.Outcome.TheVariants.{Applied, Stored, Undecodable}
use Rattle.gl_fields.specs.Putting.{map_with}
use Rattle.gl_fields.specs.declared.input_kind.InputKind.{InputKind}
use Rattle.gl_fields.specs.declared.input_kind.InputKind.TheVariants.{Raw, Gelf, Syslog}
use Rattle.gl_gelf.specs.Decoding.{gelf_fields}
use Rattle.gl_syslog.specs.Decoding.{decoded_syslog}
use Rattle.gl_node.specs.declared.config.Config.{Config}
use Rattle.gl_node.specs.Configuration.{config_at, kind_of}

-- the fields of a raw message, in the order in which they are put: the payload as lossy UTF-8, the peer, the receive moment
abbrev pub raw_fields : Payload → List Field
raw_fields m =
    record { name = codes "message"; value = Text (utf8_lossy m.bytes) }
    ∷ record { name = codes "source"; value = Text m.peer }
    ∷ record { name = codes "timestamp"; value = Whole (pos m.moment) }
    ∷ []

-- the fields of a message by the kind of its input, or why it gives none; each message of a lawful journal has an input
abbrev pub decoded_as : Option InputKind → Payload → Result (List Field) Cause
decoded_as None m = map_with (raw_fields m)
decoded_as (Some Raw) m = map_with (raw_fields m)
decoded_as (Some Gelf) m = gelf_fields m.moment m.peer m.bytes
decoded_as (Some Syslog) m = decoded_syslog m.moment m.peer m.bytes

abbrev pub decoded : Config → Payload → Result (List Field) Cause
decoded config m = decoded_as (kind_of config m.input) m

-- the number of the default stream
abbrev pub default_stream : ℕ
default_stream = 1

-- what becomes of the fields of a message under a configuration: they are stored in the default stream
abbrev pub processed : Config → Result (List Field) Cause → Outcome
processed config (Err cause) = Undecodable cause
processed config (Ok fields) = Stored (default_stream ∷ []) fields

-- the outcome of an entry under a configuration
abbrev pub outcome_under : Config → Entry → Outcome
outcome_under config (Admin command) = Applied
outcome_under config (Message m) = processed config (decoded config m)

-- the outcome of an entry of this journal: under the configuration of its recorded version
abbrev pub outcome_of : List Entry → Entry → Outcome
outcome_of journal (Admin command) = Applied
outcome_of journal (Message m) = outcome_under (config_at journal m.version) (Message m)

-- the outcomes of the journal's first entries, so many of them
abbrev pub outcomes_to : List Entry → ℕ → List Outcome
outcomes_to journal count = map (outcome_of journal) (take count journal)

-- the outcomes that were found, and then those of the entries behind them, up to this count
abbrev pub outcomes_after : List Outcome → List Entry → ℕ → List Outcome
outcomes_after found journal count = found ++ map (outcome_of journal) (drop (length found) (take count journal))
