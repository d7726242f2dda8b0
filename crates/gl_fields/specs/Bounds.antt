-- The bounds of entries and outcomes: those under which their bytes read back to them.
use Rattle.std.specs.Prelude.{ℕ, ◌^◌, ◌<◌, ◌≤◌, List, length, ⊤, IfSome}
use Rattle.std.specs.List.{All}
use Rattle.std.specs.Str.{IsUtf8}
use Rattle.gl_fields.specs.declared.entry.Entry.{Entry}
use Rattle.gl_fields.specs.declared.entry.Entry.TheVariants.{Admin, Message}
use Rattle.gl_fields.specs.declared.entry.Message.{Message as Payload}
use Rattle.gl_fields.specs.declared.entry.Cause.{Cause}
use Rattle.gl_fields.specs.declared.entry.Cause.TheVariants.{NotJson}
use Rattle.gl_fields.specs.declared.entry.Outcome.{Outcome}
use Rattle.gl_fields.specs.declared.entry.Outcome.TheVariants.{Applied, Stored, Dropped, Undecodable}
use Rattle.gl_fields.specs.declared.field.Field.{Field}
use Rattle.gl_fields.specs.Fields.{IsFieldMap, Rises}

-- UTF-8 of so many bytes, and at least one
pub record IsText (most : ℕ) (text : List ℕ) : Type 0 where
  pub some : 0 < length text
  pub few : length text ≤ most
  pub utf8 : IsUtf8 text

pub record IsPayload (m : Payload) : Type 0 where
  pub input : IsText 64 m.input
  pub peer : IsText 255 m.peer
  pub origin : IfSome m.origin (λ origin. origin.port < 2 ^ 16)
  pub moment : m.moment ≤ 253402300799999
  pub version : m.version < 2 ^ 64
  pub some : 0 < length m.bytes
  pub few : length m.bytes ≤ 1048576
  pub bytes : All (λ (b : ℕ). b < 256) m.bytes

pub record IsCommandText (text : List ℕ) : Type 0 where
  pub few : length text ≤ 4194299
  pub bytes : All (λ (b : ℕ). b < 256) text

abbrev pub IsEntry : Entry → Type 0
IsEntry (Admin command) = IsCommandText command
IsEntry (Message m) = IsPayload m

pub record IsStored (streams : List ℕ) (fields : List Field) : Type 0 where
  pub some : 0 < length streams
  pub few : length streams < 2 ^ 16
  pub ids : All (λ (id : ℕ). id < 2 ^ 64) streams
  pub rises : Rises (λ (a b : ℕ). a < b) streams
  pub map : IsFieldMap fields

abbrev pub IsCause : Cause → Type 0
IsCause (NotJson at) = at < 2 ^ 32
IsCause other = ⊤

abbrev pub IsOutcome : Outcome → Type 0
IsOutcome Applied = ⊤
IsOutcome (Stored streams fields) = IsStored streams fields
IsOutcome Dropped = ⊤
IsOutcome (Undecodable cause) = IsCause cause
