use Rattle.std.proofs.Common.{◌≡◌, ◌+◌, ◌-◌, ◌<◌, ℕ, false, get_or, sym, subst, arith}
use Rattle.gl_syslogtext.proofs.Values.{value_ends}
use Rattle.gl_syslogtext.proofs.data.behind_quote.Goals as goal

pub cut-requires-clause-within : goal.cut-requires-clause-within
cut-requires-clause-within c =
    let ends = value_ends false c.args.text.now c.args.len c.requires.ends in
    omega (arith, ends.0)

pub cut-requires-clause-ascii : goal.cut-requires-clause-ascii
cut-requires-clause-ascii c =
    let ends = value_ends false c.args.text.now c.args.len c.requires.ends in
    let same : c.args.len + 1 - 1 ≡ c.args.len = omega arith in
    subst (λ (n : ℕ). get_or c.args.text.now n 0 < 128) (sym same) (omega (arith, ends.1))
