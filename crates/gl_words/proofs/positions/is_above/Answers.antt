use Rattle.std.proofs.Common.{sym}
use Rattle.gl_words.proofs.Rising.{above_by_last}
use Rattle.gl_words.proofs.positions.is_above.Goals as goal

pub returns-in-Some : goal.returns-in-Some
returns-in-Some c = above_by_last c.args.position c.in-Some.last.now c.args.positions.now (sym c.in-Some.ensures.value) c.requires
