use Rattle.std.proofs.Common.{arith}
use Rattle.gl_fields.proofs.EntryRead.{found_by, only_by}
use Rattle.gl_fields.proofs.decode.decode_entry.Goals as goal

pub returns-clause-found : goal.returns-clause-found
returns-clause-found c = found_by c.args.bytes.now c.whole_entry.result (λ i. omega (arith, c.type_inv.bytes i)) c.whole_entry.ensures

pub returns-clause-only : goal.returns-clause-only
returns-clause-only c = λ entry is e. only_by c.args.bytes.now c.whole_entry.result entry is e c.whole_entry.ensures
