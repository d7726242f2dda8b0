use Rattle.std.proofs.Common.{ap, arith}
use Rattle.gl_fields.specs.Fields.{field_size}
use Rattle.gl_fields.proofs.Setting.{size-removed}
use Rattle.gl_fields.proofs.place.remove_at.Goals as goal

pub field_size-requires : goal.field_size-requires
field_size-requires c =
    omega (arith, size-removed c.args.fields.now.items c.args.at c.remove-field.result c.requires.place, c.requires.size, c.requires.short, ap field_size c.remove-field.ensures.value)
