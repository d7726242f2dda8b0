use Rattle.std.proofs.Common.{false, arith}
use Rattle.gl_syslogtext.proofs.Values.{value_ends}
use Rattle.gl_syslogtext.proofs.data.before_quote.Goals as goal

pub split_at-requires : goal.split_at-requires
split_at-requires c =
    let ends = value_ends false c.args.text.now c.args.len c.requires in
    (omega (arith, ends.0), λ lt h. absurd (omega (arith, ends.1)))
