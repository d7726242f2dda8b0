use Rattle.std.proofs.Common.{rules}
use Rattle.gl_check.proofs.Given.{names_same, trees_same}
use Rattle.gl_check.proofs.arguments.argument_for.Goals as goal

pub returns-in-None : goal.returns-in-None
returns-in-None c = rw (names_same c.args.arguments.now, trees_same c.args.arguments.now) (search rules)

pub returns-in-Some : goal.returns-in-Some
returns-in-Some c = rw (names_same c.args.arguments.now, trees_same c.args.arguments.now) (search rules)
