use Rattle.std.proofs.lemmas.Result.{err_from_is_err_and}
use Rattle.std.proofs.Common.{[], refl, arith}
use Rattle.gl_fields.specs.EntryReading.{field_at}
use Rattle.gl_fields.specs.Units.{many_at}
use Rattle.gl_fields.proofs.Many.{starts, goes_on, ends, is_done}
use Rattle.gl_fields.proofs.FieldRead.{field_kept}
use Rattle.gl_fields.proofs.OutcomeRead.{fields_start, fields_map}
use Rattle.gl_fields.proofs.read_outcome.fields_at.Goals as goal

pub loop-init : goal.loop-init
loop-init c = record {
  bytes = λ i. omega (arith, c.type_inv.bytes i);
  are = fields_start c.in_ok-fields.fields.items c.in_ok-fields.ensures.items;
  size = rw c.in_ok-fields.ensures.items refl;
  so_far = starts field_at c.args.count c.in_ok-fields.fields.items c.args.bytes.now c.in_ok-fields.ensures.items;
}

pub field_at-requires-clause-rises : goal.field_at-requires-clause-rises
field_at-requires-clause-rises c = rw c.as_slice.ensures.value c.loop.invariant.are.rises

pub field_at-requires-clause-size : goal.field_at-requires-clause-size
field_at-requires-clause-size c = rw c.as_slice.ensures.value c.loop.invariant.size

pub field_at-requires-clause-short : goal.field_at-requires-clause-short
field_at-requires-clause-short c = omega (arith, c.loop.invariant.size, c.loop.invariant.are.short)

pub returns-in_err-field : goal.returns-in_err-field
returns-in_err-field c =
    let p = err_from_is_err_and c.from_residual-in_err-field.result c.from_residual-in_err-field.ensures.1 in
    let stops = rw c.as_slice.ensures.value at c.in_err-field.ensures in
    rw (p.1, p.2) (ends field_at c.in_err-field.field-0.0 c.args.count c.loop.counter c.loop.fields.items c.loop.rest.now (many_at field_at c.args.count [] c.args.bytes.now) c.loop-test.true stops c.loop.invariant.so_far)

pub field_size-size-requires : goal.field_size-size-requires
field_size-size-requires c =
    let read = rw c.as_slice.ensures.value at c.in_ok-field.ensures in
    (field_kept c.loop.fields.items c.loop.size c.loop.rest.now c.in_ok-field.field c.in_ok-field.after.now c.loop.invariant.bytes c.loop.invariant.are c.loop.invariant.size read).few

pub overflow_add-size : goal.overflow_add-size
overflow_add-size c =
    let read = rw c.as_slice.ensures.value at c.in_ok-field.ensures in
    let kept = field_kept c.loop.fields.items c.loop.size c.loop.rest.now c.in_ok-field.field c.in_ok-field.after.now c.loop.invariant.bytes c.loop.invariant.are c.loop.invariant.size read in
    omega (arith, kept.few, c.field_size-size.ensures, c.loop.invariant.size, c.loop.invariant.are.short)

pub loop-preserved : goal.loop-preserved
loop-preserved c =
    let read = rw c.as_slice.ensures.value at c.in_ok-field.ensures in
    let kept = field_kept c.loop.fields.items c.loop.size c.loop.rest.now c.in_ok-field.field c.in_ok-field.after.now c.loop.invariant.bytes c.loop.invariant.are c.loop.invariant.size read in
    record {
      bytes = kept.bytes;
      are = rw c.in_ok-push.ensures.items kept.are;
      size = rw c.in_ok-push.ensures.items (omega (arith, kept.counted, c.field_size-size.ensures));
      so_far = rw c.in_ok-push.ensures.items (goes_on field_at c.args.count c.loop.counter c.loop.fields.items c.loop.rest.now c.in_ok-field.field c.in_ok-field.after.now (many_at field_at c.args.count [] c.args.bytes.now) c.loop-test.true read c.loop.invariant.so_far);
    }

pub from_fields-requires-clause-map : goal.from_fields-requires-clause-map
from_fields-requires-clause-map c =
    let read = is_done field_at c.args.count c.loop.counter c.loop.fields.items c.loop.rest.now (many_at field_at c.args.count [] c.args.bytes.now) c.loop-test.false c.loop.invariant.so_far in
    fields_map c.args.count c.args.bytes.now c.loop.fields.items c.loop.rest.now (λ i. omega (arith, c.type_inv.bytes i)) c.requires read

pub returns : goal.returns
returns c = rw c.from_fields.ensures (is_done field_at c.args.count c.loop.counter c.loop.fields.items c.loop.rest.now (many_at field_at c.args.count [] c.args.bytes.now) c.loop-test.false c.loop.invariant.so_far)
