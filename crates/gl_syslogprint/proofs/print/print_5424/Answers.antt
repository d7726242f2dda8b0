use Rattle.std.proofs.Common.{◌≡◌, true, sym, ◌∙◌}
use Rattle.gl_syslogprint.specs.Printing.{are_lawful}
use Rattle.gl_syslogprint.proofs.Printable.{lawful, printed}
use Rattle.gl_syslogprint.proofs.print.print_5424.Goals as goal

pub returns-then-not-branch-clause-reads : goal.returns-then-not-branch-clause-reads
returns-then-not-branch-clause-reads c = λ t h.
    let is = lawful t c.args.parts.now h in
    let same = c.in_ok-are_lawful.ensures in
    let not_lawful = c.if-not-branch.true in
    cc

pub returns-clause-reads : goal.returns-clause-reads
returns-clause-reads c =
    let p = c.args.parts.now in
    let is : are_lawful p ≡ true = sym c.in_ok-are_lawful.ensures ∙ c.if-not-branch.false in
    rw (c.in_ok-push_parts.ensures, c.new-out.ensures.bytes) (printed p is)
