use Rattle.std.proofs.Common.{sym, ◌∙◌}
use Rattle.gl_syslog.proofs.Puts.{decoded_is}
use Rattle.gl_syslog.proofs.decode.decode_syslog.Goals as goal

pub returns-in-Ok : goal.returns-in-Ok
returns-in-Ok c = sym (decoded_is c.args.moment c.args.peer.now c.args.bytes.now c.as_str.result.now c.in_ok-content.content (c.as_str.ensures.value ∙ c.in_ok-text.ensures.lossy) c.in_ok-content.ensures ∙ c.in-Ok.ensures)

pub returns-in-Err-Undecodable : goal.returns-in-Err-Undecodable
returns-in-Err-Undecodable c = sym (decoded_is c.args.moment c.args.peer.now c.args.bytes.now c.as_str.result.now c.in_ok-content.content (c.as_str.ensures.value ∙ c.in_ok-text.ensures.lossy) c.in_ok-content.ensures ∙ rw c.in-Err-Undecodable.field-0-is at c.in-Err-Undecodable.ensures)
