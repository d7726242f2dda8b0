-- What an action asks for, as the code has it between computing its arguments and changing the message.
use Rattle.std.specs.Prelude.{ℕ, Bool, true, false, Some}
use Rattle.gl_fields.specs.declared.field.FieldRefusal.{FieldRefusal}
use Rattle.gl_fields.specs.declared.field.FieldRefusal.TheVariants as refusals
use Rattle.gl_streams.specs.Ids.{with_id}
use Rattle.gl_eval.specs.declared.change.Change.{Change}
use Rattle.gl_eval.specs.declared.change.Change.TheVariants as changes
use Rattle.gl_eval.specs.declared.staged.Staged.{Staged}
use Rattle.gl_eval.specs.Actions.{put, taken_away, given_name, left, then_left}

abbrev pub changed : Change → Staged → Staged
changed (changes.Set name value) m = record m { fields = put name (Some value) m.fields }
changed (changes.Remove name) m = record m { fields = taken_away name m.fields }
changed (changes.Rename from to) m = record m { fields = given_name from to m.fields }
changed (changes.Route id away) m = record m { streams = then_left away (with_id m.streams id) }
changed (changes.Leave id) m = record m { streams = left id m.streams }
changed changes.Discard m = record m { dropped = true }
changed changes.Nothing m = m

-- a map refused for want of memory
abbrev pub is_memory : FieldRefusal → Bool
is_memory refusals.OutOfMemory = true
is_memory _ = false
