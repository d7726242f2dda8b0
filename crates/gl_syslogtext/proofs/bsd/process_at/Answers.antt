use Rattle.std.proofs.Common.{◌∙◌, ap}
use Rattle.std.specs.List.{prefix_len}
use Rattle.std.specs.Char.{is_ascii_digit}
use Rattle.gl_syslogtext.proofs.Words.{last_digit}
use Rattle.gl_syslogtext.proofs.bsd.process_at.Goals as goal

pub cut-requires-2-clause-ascii : goal.cut-requires-2-clause-ascii
cut-requires-2-clause-ascii c = last_digit c.cut.result.1.now c.digits_len-len.result (c.digits_len-len.ensures.len ∙ ap (prefix_len is_ascii_digit) c.as_bytes-2.ensures.value) c.if-len-lt1.false
