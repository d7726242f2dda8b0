use Rattle.std.proofs.Common.{sym}
use Rattle.gl_query.proofs.Naming.{no_value}
use Rattle.gl_query.proofs.matching.value_named.Goals as goal

pub returns-in-Err : goal.returns-in-Err
returns-in-Err c = sym (no_value c.args.name.now c.args.fields.now c.in-Err.ensures.cases.0 c.len.ensures.lawful)
