-- Whose a token is, which streams it shows, and what it may do (this project). A configuration is seen as its settings.
use Rattle.std.specs.Prelude.{ℕ, Bool, ◌&&◌, ◌||◌, List, map, filter, find, if◌then◌else◌, Option, Some, None, option_map, option_and_then}
use Rattle.std.specs.Str.{bytes_eq}
use Rattle.sha2.specs.Sha256.{sha256}
use Rattle.hex.specs.Hex.{encode_lower}
use Rattle.gl_streams.specs.Ids.{has_id}
use Rattle.gl_settings.specs.declared.user.User.{User}
use Rattle.gl_settings.specs.Settings.{Settings, has_stream}
use Rattle.gl_access.specs.declared.access.Denial.{Denial}
use Rattle.gl_access.specs.declared.access.Denial.TheVariants.{UnknownToken, AdminOnly, StreamNotPermitted}
use Rattle.gl_access.specs.declared.access.Doing.{Doing}
use Rattle.gl_access.specs.declared.access.Doing.TheVariants.{Administer, Search}

-- what is kept of a token: its SHA-256 (FIPS 180-4) as 64 lower-case hexadecimal digits
unfoldable pub token_hash : List ℕ → List ℕ
token_hash token = encode_lower (sha256 token)

-- the user whose token this is
abbrev pub user_in : Settings → List ℕ → Option User
user_in settings token = find (λ user. bytes_eq user.token_sha256 (token_hash token)) settings.users

-- the user of a request, which may carry no token
abbrev pub caller_in : Settings → Option (List ℕ) → Option User
caller_in settings token = option_and_then (user_in settings) token

-- the stream is there, and the user is an administrator or has it in the list of streams
abbrev pub may_see : Settings → User → ℕ → Bool
may_see settings user stream = has_stream settings stream && (user.admin || has_id stream user.streams)

-- the ids of the streams that a user may see, in the order of the streams
abbrev pub ids_seen : Settings → User → List ℕ
ids_seen settings user = filter (may_see settings user) (map (λ stream. stream.id) settings.streams)

-- the ids of the streams that a request may see; `None` where it has no user's token
abbrev pub permitted_of : Settings → Option (List ℕ) → Option (List ℕ)
permitted_of settings token = option_map (ids_seen settings) (caller_in settings token)

abbrev pub judged_user : Settings → Doing → Option User → Option Denial
judged_user settings doing None = Some UnknownToken
judged_user settings Administer (Some user) = if user.admin then None else Some AdminOnly
judged_user settings (Search stream) (Some user) = if may_see settings user stream then None else Some StreamNotPermitted

-- why the user of a request may not do this, if he may not
abbrev pub judged : Settings → Option (List ℕ) → Doing → Option Denial
judged settings token doing = judged_user settings doing (caller_in settings token)
