-- Replies that tell an error, and the one without a body (this project). A body is an object of the error's name and of the
-- values that it has.
use Rattle.std.specs.Prelude.{ℕ, List, [], ◌∷◌, codes}
use Rattle.serde_json.specs.Written.{compact_text}
use Rattle.gl_http.specs.declared.reply.Reply.{Reply}
use Rattle.gl_bodies.specs.Json.{Member, object_of, text_at, count_at}

-- a status, and the object of these members
abbrev pub reply : ℕ → List Member → Reply
reply status members = record { status = status; body = compact_text (object_of members) }

-- the member that names an error
abbrev pub error : List ℕ → Member
error name = text_at (codes "error") name

-- an error without values
abbrev pub error_reply : ℕ → List ℕ → Reply
error_reply status name = reply status (error name ∷ [])

-- an error at a place: a byte of a text, or the number of a node of a rule
abbrev pub place_reply : ℕ → List ℕ → (at : ℕ) → Reply
place_reply status name at = reply status (count_at (codes "at") at ∷ error name ∷ [])

-- an error that a name tells
abbrev pub name_reply : ℕ → (error_name : List ℕ) → (name : List ℕ) → Reply
name_reply status error_name name = reply status (error error_name ∷ text_at (codes "name") name ∷ [])

-- an error with a number, whose key comes behind `error`
abbrev pub count_reply : ℕ → List ℕ → (key : List ℕ) → (count : ℕ) → Reply
count_reply status name key count = reply status (error name ∷ count_at key count ∷ [])

-- no user has the token of a request, or it has none
abbrev pub unknown_token_reply : Reply
unknown_token_reply = error_reply 401 (codes "UnknownToken")

-- the user of a request is no administrator
abbrev pub admin_only_reply : Reply
admin_only_reply = error_reply 403 (codes "AdminOnly")

-- a stream that is asked for isn't permitted, or isn't there
abbrev pub not_permitted_reply : Reply
not_permitted_reply = error_reply 403 (codes "StreamNotPermitted")

-- a message without bytes
abbrev pub empty_body_reply : Reply
empty_body_reply = error_reply 400 (codes "EmptyBody")

-- a body that isn't a version and a command
abbrev pub bad_body_reply : Reply
bad_body_reply = error_reply 400 (codes "BadBody")

-- a parameter isn't of its form
abbrev pub bad_parameter_reply : List ℕ → Reply
bad_parameter_reply name = name_reply 400 (codes "BadParameter") name

-- a query is refused at a byte
abbrev pub bad_query_reply : ℕ → Reply
bad_query_reply at = place_reply 400 (codes "BadQuery") at

-- nothing has the name
abbrev pub unknown_name_reply : Reply
unknown_name_reply = error_reply 404 (codes "UnknownName")

-- a message that was journalled: a reply without a body
abbrev pub journalled_reply : Reply
journalled_reply = record { status = 202; body = [] }

-- a command that was accepted, and the version that it made
abbrev pub version_reply : ℕ → Reply
version_reply version = reply 200 (count_at (codes "version") version ∷ [])

-- the journal has these bytes, and would pass its limit
abbrev pub journal_full_reply : (bytes : ℕ) → (limit : ℕ) → Reply
journal_full_reply bytes limit =
    reply 507 (count_at (codes "bytes") bytes ∷ error (codes "JournalFull") ∷ count_at (codes "limit") limit ∷ [])

-- a fault of the disk stopped the server, when the disk's count of faults came to this number
abbrev pub stopped_reply : (faults : ℕ) → Reply
stopped_reply faults = count_reply 503 (codes "Stopped") (codes "faults") faults

abbrev pub out_of_memory_reply : Reply
out_of_memory_reply = error_reply 500 (codes "OutOfMemory")
