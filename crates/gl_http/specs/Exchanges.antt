-- What all that a client sent asks for, once it has ended: one request, or one refusal. What stands behind the body is left.
use Rattle.std.specs.Prelude.{ℕ, ◌+◌, nat_lt, List, length, take, drop, if◌then◌else◌, Option, Some, None}
use Rattle.httparse.specs.Grammar.{RequestHead}
use Rattle.gl_http.specs.declared.refusal.Refusal.TheVariants.{HeadTooLong, BadHead, Truncated}
use Rattle.gl_http.specs.declared.head.Head.{Head}
use Rattle.gl_http.specs.declared.head.HeadAnswer.{HeadAnswer}
use Rattle.gl_http.specs.declared.head.HeadAnswer.TheVariants as answer
use Rattle.gl_http.specs.declared.exchange.Exchange.{Exchange}
use Rattle.gl_http.specs.declared.exchange.Exchange.TheVariants.{Asked, Refused}
use Rattle.gl_http.specs.Answers.{answer_of}
use Rattle.gl_http.specs.Front.{front}
use Rattle.gl_http.specs.Heads.{head_in}

-- the body behind a head
abbrev pub body_of : Head → List ℕ → List ℕ
body_of head bytes = take head.length (drop head.bytes bytes)

-- a body that isn't whole is cut short
abbrev pub with_body : List ℕ → Head → Exchange
with_body bytes head = if nat_lt (length bytes) (head.bytes + head.length) then Refused Truncated else Asked head

-- a head that isn't whole never will be
abbrev pub behind : List ℕ → HeadAnswer → Exchange
behind bytes answer.More = Refused BadHead
behind bytes (answer.Head head) = with_body bytes head
behind bytes (answer.Refused refusal) = Refused refusal

abbrev pub exchange_of : List ℕ → Option RequestHead → Exchange
exchange_of bytes None = Refused (if nat_lt 16384 (length bytes) then HeadTooLong else BadHead)
exchange_of bytes (Some head) = behind bytes (answer_of head)

-- what these bytes ask for
unfoldable pub exchange_in : List ℕ → Exchange
exchange_in bytes = exchange_of bytes (head_in (front bytes))
