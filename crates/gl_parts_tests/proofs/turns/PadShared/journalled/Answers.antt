use Rattle.std.proofs.Common.{rules}
use Rattle.gl_parts_tests.proofs.PadLists.{length-each_alone}
use Rattle.gl_parts_tests.proofs.turns.PadShared.journalled.Goals as goal

pub returns : goal.returns
returns c = rw (← length-each_alone c.args.self.now.items.items) (search rules)
