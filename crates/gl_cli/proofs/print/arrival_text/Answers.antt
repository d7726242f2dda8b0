use Rattle.std.proofs.Common.{append_assoc, rules}
use Rattle.gl_cli.proofs.print.arrival_text.Goals as goal

pub returns-in-JournalFull : goal.returns-in-JournalFull
returns-in-JournalFull c = rw c.in-JournalFull.is (search (rules, append_assoc))

pub returns-in-CountMismatch : goal.returns-in-CountMismatch
returns-in-CountMismatch c = rw c.in-CountMismatch.is (search (rules, append_assoc))
