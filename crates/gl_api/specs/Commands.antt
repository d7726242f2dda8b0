-- What the body of a command says (this project): an object of just a version, a whole number from 0 on of 64 bits, and a command.
use Rattle.std.specs.Prelude.{ℕ, ◌==◌, List, if◌then◌else◌, Option, Some, None, option_map, option_and_then, unwrap_or, codes}
use Rattle.std.specs.Str.{is_utf8}
use Rattle.serde_json.specs.Data.{Data}
use Rattle.serde_json.specs.Events.{members_len}
use Rattle.serde_json.specs.Find.{get, as_number, as_object, as_u64}
use Rattle.serde_json.specs.Read.{read}
use Rattle.gl_commands.specs.CommandReading.{command_of}
use Rattle.gl_settings.specs.declared.user.User.{User}
use Rattle.gl_bodies.specs.Replies.{admin_only_reply, bad_body_reply, unknown_token_reply}
use Rattle.gl_api.specs.declared.commands.Wanted.{Wanted}
use Rattle.gl_api.specs.declared.commands.Commanding.{Commanding}
use Rattle.gl_api.specs.declared.commands.Commanding.TheVariants as commanding

infixl 10 ◌>>=◌
abbrev pub ◌>>=◌ : {A B : Type 0} → Option A → (A → Option B) → Option B
o >>= next = option_and_then next o

-- the JSON value of a text in UTF-8
abbrev pub value_in : (body : List ℕ) → Option Data
value_in body = if is_utf8 body then read body else None

abbrev pub member_count : Data → ℕ
member_count value = unwrap_or (option_map members_len (as_object value)) 0

-- the version and the command of a value that has no other member
unfoldable pub wanted_of : Data → Option Wanted
wanted_of value = do
  version ← option_and_then as_u64 (option_and_then as_number (get (codes "version") value))
  command ← option_and_then command_of (get (codes "command") value)
  if member_count value == 2 then Some (record { version = version; command = command }) else None

-- what a body asks for, where it is of the form
unfoldable pub wanted_in : (body : List ℕ) → Option Wanted
wanted_in body = option_and_then wanted_of (value_in body)

abbrev pub by_body : Option Wanted → Commanding
by_body None = commanding.Answered bad_body_reply
by_body (Some wanted) = commanding.Asked wanted

-- what a caller asks for, or the reply that the caller gets at once: no user's token, no administrator, no such body
abbrev pub commanding_of : (caller : Option User) → (body : List ℕ) → Commanding
commanding_of None body = commanding.Answered unknown_token_reply
commanding_of (Some user) body = if user.admin then by_body (wanted_in body) else commanding.Answered admin_only_reply
