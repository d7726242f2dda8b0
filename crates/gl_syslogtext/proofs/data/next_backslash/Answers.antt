use Rattle.gl_syslogtext.proofs.Values.{cut_at_backslash, no_backslash}
use Rattle.std.proofs.Common.{sym}
use Rattle.gl_syslogtext.proofs.data.next_backslash.Goals as goal

pub returns-in-Some-clause-cut : goal.returns-in-Some-clause-cut
returns-in-Some-clause-cut c = (cut_at_backslash c.args.text.now c.in-Some.plain.now c.in-Some.behind.now (sym c.in-Some.ensures)).0

pub returns-in-Some-clause-shorter : goal.returns-in-Some-clause-shorter
returns-in-Some-clause-shorter c = (cut_at_backslash c.args.text.now c.in-Some.plain.now c.in-Some.behind.now (sym c.in-Some.ensures)).1

pub returns-in-None-clause-none : goal.returns-in-None-clause-none
returns-in-None-clause-none c = no_backslash c.args.text.now (sym c.in-None.ensures)
