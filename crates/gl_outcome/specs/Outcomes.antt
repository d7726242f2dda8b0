-- What an entry becomes under a configuration (this project): a message is decoded, then goes through the extractors of its
-- input, then into the streams that match, and then through their pipelines.
use Rattle.std.specs.Prelude.{ℕ, false, List, unwrap_or, Result, Ok, Err}
use Rattle.gl_fields.specs.declared.field.Field.{Field}
use Rattle.gl_fields.specs.declared.input_kind.InputKind.{InputKind}
use Rattle.gl_fields.specs.declared.input_kind.InputKind.TheVariants.{Raw}
use Rattle.gl_fields.specs.declared.entry.Message.{Message as Payload}
use Rattle.gl_fields.specs.declared.entry.Entry.{Entry}
use Rattle.gl_fields.specs.declared.entry.Entry.TheVariants.{Admin, Message}
use Rattle.gl_fields.specs.declared.entry.Cause.{Cause}
use Rattle.gl_fields.specs.declared.entry.Outcome.{Outcome}
use Rattle.gl_fields.specs.declared.entry.Outcome.TheVariants.{Applied, Undecodable}
use Rattle.gl_decoding.specs.Decoding.{decoded}
use Rattle.gl_streams.specs.Ids.{streams_of}
use Rattle.gl_functions.specs.Worlds.{Known}
use Rattle.gl_eval.specs.declared.staged.Staged.{Staged}
use Rattle.gl_stage.specs.Stages.{Scene}
use Rattle.gl_stage.specs.Books.{layout_of}
use Rattle.gl_stage.specs.Rounds.{run_end}
use Rattle.gl_settings.specs.Settings.{Settings, kind_of, extractors_of}
use Rattle.gl_building.specs.Places.{extracted_all}

-- The parts of a configuration that a message meets.

-- the kind of the input of this name; each message of a lawful journal has an input
abbrev pub kind_under : Settings → List ℕ → InputKind
kind_under c name = unwrap_or (kind_of c name) Raw

-- what pipelines go by
abbrev pub world_of : Settings → Known
world_of c = record { streams = c.streams; tables = c.lookups }

abbrev pub scene_under : Settings → Scene
scene_under c = record { world = world_of c; rules = c.rules }

-- The way of a message.

-- a message with these fields before its pipelines: it is in the streams that match
abbrev pub matched : Settings → List Field → Staged
matched c fields = record { fields = fields; streams = streams_of c.streams fields; dropped = false }

-- what becomes of the decoded fields of a message that came to the input of this name: its cause, or the end of its pipelines
unfoldable pub processed : Settings → List ℕ → Result (List Field) Cause → Outcome
processed c input (Err cause) = Undecodable cause
processed c input (Ok fields) =
    run_end (scene_under c) (layout_of c.pipelines c.connections) (matched c (extracted_all c.groks (extractors_of c input) fields))

-- what a message becomes under a configuration
unfoldable pub message_under : Settings → Payload → Outcome
message_under c m = processed c m.input (decoded (kind_under c m.input) m)

-- what an entry becomes
abbrev pub outcome_under : Settings → Entry → Outcome
outcome_under c (Admin command) = Applied
outcome_under c (Message m) = message_under c m
