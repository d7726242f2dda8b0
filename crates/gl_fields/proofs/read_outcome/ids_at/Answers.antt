use Rattle.std.proofs.lemmas.Result.{err_from_is_err_and}
use Rattle.gl_fields.specs.EntryReading.{id_at}
use Rattle.gl_fields.specs.Units.{many_at}
use Rattle.std.proofs.Common.{[]}
use Rattle.gl_fields.proofs.Many.{goes_on, ends, is_done}
use Rattle.gl_fields.proofs.OutcomeRead.{id_rises}
use Rattle.gl_fields.proofs.read_outcome.ids_at.Goals as goal

pub id_at-requires : goal.id_at-requires
id_at-requires c = rw c.as_slice.ensures.value c.loop.invariant.rises

pub returns-in_err-id : goal.returns-in_err-id
returns-in_err-id c =
    let p = err_from_is_err_and c.from_residual-in_err-id.result c.from_residual-in_err-id.ensures.1 in
    let stops = rw c.as_slice.ensures.value at c.in_err-id.ensures in
    rw (p.1, p.2) (ends id_at c.in_err-id.field-0.0 c.args.count c.loop.counter c.loop.ids.items c.loop.rest.now (many_at id_at c.args.count [] c.args.bytes.now) c.loop-test.true stops c.loop.invariant.so_far)

pub loop-preserved : goal.loop-preserved
loop-preserved c =
    let read = rw c.as_slice.ensures.value at c.in_ok-id.ensures in
    record {
      rises = rw c.in_ok-push.ensures.items (id_rises c.loop.ids.items c.loop.rest.now c.in_ok-id.id c.in_ok-id.after.now c.loop.invariant.rises read);
      so_far = rw c.in_ok-push.ensures.items (goes_on id_at c.args.count c.loop.counter c.loop.ids.items c.loop.rest.now c.in_ok-id.id c.in_ok-id.after.now (many_at id_at c.args.count [] c.args.bytes.now) c.loop-test.true read c.loop.invariant.so_far);
    }

pub returns : goal.returns
returns c = rw c.from_vec.ensures (is_done id_at c.args.count c.loop.counter c.loop.ids.items c.loop.rest.now (many_at id_at c.args.count [] c.args.bytes.now) c.loop-test.false c.loop.invariant.so_far)
