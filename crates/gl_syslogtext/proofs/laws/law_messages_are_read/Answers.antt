use Rattle.gl_syslogtext.proofs.Messages.{parts_again, parts_sound}
use Rattle.gl_syslogtext.proofs.BsdTexts.{bsd_again, bsd_sound}
use Rattle.gl_syslogtext.proofs.laws.law_messages_are_read.Goals as goal

pub returns : goal.returns
returns c = record { read_5424 = parts_again; is_5424 = parts_sound; read_3164 = bsd_again; is_3164 = bsd_sound }
