use Rattle.std.proofs.Common.{arith}
use Rattle.gl_fields.proofs.OutcomeRead.{found_by, only_by}
use Rattle.gl_fields.proofs.read_outcome.decode_outcome.Goals as goal

pub returns-clause-found : goal.returns-clause-found
returns-clause-found c = found_by c.args.bytes.now c.whole_outcome.result (λ i. omega (arith, c.type_inv.bytes i)) c.whole_outcome.ensures

pub returns-clause-only : goal.returns-clause-only
returns-clause-only c = λ outcome is e. only_by c.args.bytes.now c.whole_outcome.result outcome is e c.whole_outcome.ensures
