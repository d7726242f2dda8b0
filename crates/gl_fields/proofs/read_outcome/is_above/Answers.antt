use Rattle.std.proofs.Common.{sym}
use Rattle.gl_fields.proofs.Growing.{last_id}
use Rattle.gl_fields.proofs.read_outcome.is_above.Goals as goal

pub returns-in-Some : goal.returns-in-Some
returns-in-Some c = last_id c.args.ids.now c.args.id c.in-Some.last.now c.requires (sym c.in-Some.ensures.value)
