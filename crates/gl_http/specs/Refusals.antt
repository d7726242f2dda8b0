-- The reply to a refusal.
use Rattle.std.specs.Prelude.{◌++◌, codes}
use Rattle.gl_http.specs.declared.refusal.Refusal.{Refusal}
use Rattle.gl_http.specs.declared.reply.Reply.{Reply}
use Rattle.gl_http.specs.Answers.{status_of, name_of}

-- its status, and its name as JSON
abbrev pub reply_to : Refusal → Reply
reply_to refusal = record { status = status_of refusal; body = codes "{\"error\":\"" ++ name_of refusal ++ codes "\"}" }
