-- The bytes of a reply (RFC 9112, sections 3 to 6): every reply is JSON, tells its length and closes the connection.
use Rattle.std.specs.Prelude.{ℕ, List, [], ◌∷◌, ◌++◌, length, codes, decimal, unwrap_or, IsSome}
use Rattle.http.specs.StatusCode.{reason_phrase, IsStatusCode}

-- a number of three digits that has a canonical phrase
abbrev pub HasPhrase : ℕ → Type 0
HasPhrase status = IsStatusCode status × IsSome (reason_phrase status)

-- the statuses of all replies
abbrev pub statuses : List ℕ
statuses = 200 ∷ 202 ∷ 400 ∷ 401 ∷ 403 ∷ 404 ∷ 405 ∷ 409 ∷ 411 ∷ 413 ∷ 422 ∷ 431 ∷ 500 ∷ 501 ∷ 503 ∷ 507 ∷ []

-- an end of line
abbrev pub crlf : List ℕ
crlf = 13 ∷ 10 ∷ []

-- the status line, the fields and the empty line, before a body of this length
abbrev pub head_bytes : ℕ → ℕ → List ℕ
head_bytes status len =
    codes "HTTP/1.1 " ++ decimal status ++ codes " " ++ unwrap_or (reason_phrase status) [] ++ crlf
    ++ codes "Content-Type: application/json" ++ crlf
    ++ codes "Content-Length: " ++ decimal len ++ crlf
    ++ codes "Connection: close" ++ crlf ++ crlf

-- a reply with this status and body
abbrev pub reply_bytes : ℕ → List ℕ → List ℕ
reply_bytes status body = head_bytes status (length body) ++ body
