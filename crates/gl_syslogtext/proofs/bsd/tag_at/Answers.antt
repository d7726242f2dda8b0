use Rattle.std.proofs.Common.{◌∙◌, ap}
use Rattle.std.specs.List.{prefix_len}
use Rattle.std.specs.Char.{is_ascii_alphanumeric}
use Rattle.gl_syslogtext.proofs.Words.{last_of_word}
use Rattle.gl_syslogtext.proofs.bsd.tag_at.Goals as goal

pub cut-requires-clause-ascii : goal.cut-requires-clause-ascii
cut-requires-clause-ascii c = last_of_word c.args.msg.now c.word_len-len.result (c.word_len-len.ensures.len ∙ ap (prefix_len is_ascii_alphanumeric) c.as_bytes.ensures.value) c.if-len-lt1.false
