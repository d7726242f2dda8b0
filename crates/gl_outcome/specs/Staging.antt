-- Which messages are staged under a configuration (this project).
use Rattle.std.specs.Prelude.{◌≡◌, ⊤, IsTrue}
use Rattle.gl_fields.specs.declared.entry.Message.{Message as Payload}
use Rattle.gl_fields.specs.declared.entry.Entry.{Entry}
use Rattle.gl_fields.specs.declared.entry.Entry.TheVariants.{Admin, Message}
use Rattle.gl_fields.specs.Bounds.{IsPayload}
use Rattle.gl_settings.specs.Settings.{Settings, is_input}

-- it was recorded under this version, which has its input, and it keeps the bounds of a message
pub record IsStageable (c : Settings) (m : Payload) : Type 0 where
  pub version : m.version ≡ c.version
  pub input : IsTrue (is_input c m.input)
  pub payload : IsPayload m

abbrev pub IsStageableEntry : Settings → Entry → Type 0
IsStageableEntry c (Admin command) = ⊤
IsStageableEntry c (Message m) = IsStageable c m
