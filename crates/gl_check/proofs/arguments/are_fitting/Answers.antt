use Rattle.std.proofs.Common.{rules}
use Rattle.gl_check.proofs.Given.{names_same}
use Rattle.gl_check.proofs.arguments.are_fitting.Goals as goal

pub returns-then-not-are_in_form : goal.returns-then-not-are_in_form
returns-then-not-are_in_form c = rw (names_same c.args.arguments.now) (search rules)

pub returns : goal.returns
returns c = rw (names_same c.args.arguments.now) (search rules)
