use Rattle.std.proofs.Common.{◌≡◌, ◌-◌, ◌<◌, sym, subst, get_or, ℕ, arith}
use Rattle.std.specs.List.{prefix_len}
use Rattle.gl_syslogtext.specs.Data.{is_sd_byte}
use Rattle.gl_syslogtext.proofs.Values.{name_ends}
use Rattle.gl_syslogtext.proofs.data.sd_name_at.Goals as goal

pub cut-requires-clause-ascii : goal.cut-requires-clause-ascii
cut-requires-clause-ascii c =
    let n : c.sd_name_len-len.result ≡ prefix_len is_sd_byte c.args.text.now = grind arith in
    subst (λ (k : ℕ). get_or c.args.text.now (k - 1) 0 < 128) (sym n) (name_ends c.args.text.now (omega arith))
