-- What a whole head is answered: the refusals in their order, or what it asks for.
use Rattle.std.specs.Prelude.{ℕ, Bool, true, false, not, nat_lt, List, length, map, codes, Option, Some, None, is_some, Result, Ok, Err, if◌then◌else◌, ⊤}
use Rattle.httparse.specs.Grammar.{RequestHead, print_request}
use Rattle.httparse.specs.Spans.{name_and_value}
use Rattle.gl_http.specs.declared.route.Route.{Route}
use Rattle.gl_http.specs.declared.refusal.Refusal.{Refusal}
use Rattle.gl_http.specs.declared.refusal.Refusal.TheVariants as refusal
use Rattle.gl_http.specs.declared.head.Head.{Head}
use Rattle.gl_http.specs.declared.head.HeadAnswer.{HeadAnswer}
use Rattle.gl_http.specs.declared.head.HeadAnswer.TheVariants as answer
use Rattle.gl_http.specs.Routes.{route_of, has_method, takes_post}
use Rattle.gl_http.specs.Fields.{Fields, first_value, stated_length, token_of}

abbrev pub status_of : Refusal → ℕ
status_of refusal.HeadTooLong = 431
status_of refusal.BadHead = 400
status_of refusal.NotFound = 404
status_of refusal.MethodNotAllowed = 405
status_of refusal.TransferCoding = 501
status_of refusal.LengthRequired = 411
status_of refusal.BodyTooLong = 413
status_of refusal.Truncated = 400

abbrev pub name_of : Refusal → List ℕ
name_of refusal.HeadTooLong = codes "HeadTooLong"
name_of refusal.BadHead = codes "BadHead"
name_of refusal.NotFound = codes "NotFound"
name_of refusal.MethodNotAllowed = codes "MethodNotAllowed"
name_of refusal.TransferCoding = codes "TransferCoding"
name_of refusal.LengthRequired = codes "LengthRequired"
name_of refusal.BodyTooLong = codes "BodyTooLong"
name_of refusal.Truncated = codes "Truncated"

-- the body's length: a POST states it, and it is at most 1,048,576 bytes
abbrev pub body_length : Bool → Option ℕ → Result ℕ Refusal
body_length true None = Err refusal.LengthRequired
body_length false None = Ok 0
body_length post (Some n) = if nat_lt 1048576 n then Err refusal.BodyTooLong else Ok n

abbrev pub with_body : Route → Option (List ℕ) → ℕ → Result ℕ Refusal → HeadAnswer
with_body route token bytes (Err refused) = answer.Refused refused
with_body route token bytes (Ok n) = answer.Head (record { route = route; token = token; length = n; bytes = bytes })

abbrev pub with_route : List ℕ → Fields → ℕ → Option ℕ → Option Route → HeadAnswer
with_route method fields bytes stated None = answer.Refused refusal.NotFound
with_route method fields bytes stated (Some route) =
    if not (has_method route method) then answer.Refused refusal.MethodNotAllowed
    else (if is_some (first_value (codes "Transfer-Encoding") fields) then answer.Refused refusal.TransferCoding
    else with_body route (token_of fields) bytes (body_length (takes_post route) stated))

abbrev pub with_length : List ℕ → List ℕ → Fields → ℕ → Option (Option ℕ) → HeadAnswer
with_length method target fields bytes None = answer.Refused refusal.BadHead
with_length method target fields bytes (Some stated) = with_route method fields bytes stated (route_of target)

abbrev pub answer_to : List ℕ → List ℕ → Fields → ℕ → HeadAnswer
answer_to method target fields bytes = with_length method target fields bytes (stated_length fields)

-- the answer to a head
abbrev pub answer_of : RequestHead → HeadAnswer
answer_of h = answer_to h.method h.target (map name_and_value h.fields) (length (print_request h))

-- P of the head, if the answer is one
abbrev pub IfHead : HeadAnswer → (Head → Type 0) → Type 0
IfHead answer.More P = ⊤
IfHead (answer.Head h) P = P h
IfHead (answer.Refused refused) P = ⊤
