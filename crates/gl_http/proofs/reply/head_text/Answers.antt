use Rattle.std.proofs.Common.{◌≡◌, ℕ, List, ◌++◌, decimal, codes, append_assoc}
use Rattle.gl_http.specs.ReplyBytes.{crlf}
use Rattle.gl_http.proofs.reply.head_text.Goals as goal

-- the pieces in turn are the head
joined : (status reason len : List ℕ)
    → codes "HTTP/1.1 " ++ (status ++ (codes " " ++ (reason ++ ((crlf ++ codes "Content-Type: application/json" ++ crlf ++ codes "Content-Length: ") ++ (len ++ (crlf ++ codes "Connection: close" ++ crlf ++ crlf))))))
    ≡ codes "HTTP/1.1 " ++ status ++ codes " " ++ reason ++ crlf ++ codes "Content-Type: application/json" ++ crlf ++ codes "Content-Length: " ++ len ++ crlf ++ codes "Connection: close" ++ crlf ++ crlf
joined status reason len = simp append_assoc

pub returns : goal.returns
returns c =
    rw (c.phrase-reason.ensures, ← joined (decimal c.args.status) c.phrase-reason.result.now (decimal c.args.len)) c.format.ensures.ok
