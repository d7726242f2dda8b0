use Rattle.std.proofs.Common.{◌≡◌, ◌-◌, []}
use Rattle.gl_fields.specs.Fields.{counted_size}
use Rattle.gl_fields.specs.EntryReading.{field_at}
use Rattle.gl_fields.specs.Units.{many_at}
use Rattle.gl_fields.proofs.Taking.{IsBytes}
use Rattle.gl_fields.proofs.FieldRead.{AreFields}
use Rattle.gl_fields.proofs.read_outcome.fields_at.Given as goal

abbrev pub invariant-loop : goal.invariant-loop
invariant-loop l = record {
  bytes : IsBytes l.rest;
  are : AreFields l.fields.items;
  size : l.size ≡ counted_size l.fields.items;
  so_far : many_at field_at (l.count - l.counter) l.fields.items l.rest ≡ many_at field_at l.count [] l.bytes;
}
