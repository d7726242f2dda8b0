use Rattle.gl_syslogtext.proofs.Values.{bom_boundary}
use Rattle.gl_syslogtext.proofs.data.behind_bom.Goals as goal

pub split_at-requires : goal.split_at-requires
split_at-requires c = bom_boundary c.args.msg.now c.utf8.msg c.requires
