use Rattle.gl_text.proofs.Finding.{found_at, found_begins, found_ends}
use Rattle.gl_text.proofs.find.first_at.Goals as goal

pub returns-clause-value : goal.returns-clause-value
returns-clause-value c = found_at c.args.part.now c.args.text.now _ c.find.ensures.cases

pub returns-clause-begins : goal.returns-clause-begins
returns-clause-begins c = found_begins c.args.part.now c.args.text.now _ c.find.ensures.cases

pub returns-clause-ends : goal.returns-clause-ends
returns-clause-ends c = found_ends c.args.part.now c.args.text.now _ c.find.ensures.cases
