use Rattle.std.proofs.Common.{◌<◌, List, ℕ, get_or, sym, subst, ◌∙◌, arith}
use Rattle.gl_syslogtext.proofs.Values.{front}
use Rattle.gl_syslogprint.proofs.Escapes.{special_ascii}
use Rattle.gl_syslogprint.proofs.print_data.split_plain.Goals as goal

pub split_at-requires : goal.split_at-requires
split_at-requires c =
    let small = special_ascii c.args.text.now c.args.len c.requires.len c.requires.within in
    (omega arith, λ lt h. absurd (omega (arith, small)))

pub returns-clause-ascii : goal.returns-clause-ascii
returns-clause-ascii c =
    let small = special_ascii c.args.text.now c.args.len c.requires.len c.requires.within in
    let first = c.split_at.ensures.back ∙ front c.args.text.now c.args.len c.requires.within in
    subst (λ (t : List ℕ). get_or t 0 0 < 128) (sym first) small
