use Rattle.std.proofs.Common.{sym}
use Rattle.gl_fields.proofs.FieldRead.{name_read}
use Rattle.gl_fields.proofs.read_outcome.name_at.Goals as goal

pub returns : goal.returns
returns c =
    rw c.in_ok-from_str.ensures
    (name_read c.args.fields.now c.args.len c.args.bytes.now c.in_ok-name.name.now c.in_ok-name.rest.now c.in_ok-name.ensures
    (sym c.if-not-is_field_name.ensures) (sym c.if-not-is_last.ensures))
