use Rattle.std.specs.Int.{w16}
use Rattle.gl_fields.proofs.Taking.{number_high}
use Rattle.gl_fields.proofs.read_outcome.stored_at.Goals as goal

pub fields_at-requires : goal.fields_at-requires
fields_at-requires c = number_high w16 0 256 c.in_ok-streams.rest.now c.in_ok-many.many c.in_ok-many.rest.now c.in_ok-many.ensures
