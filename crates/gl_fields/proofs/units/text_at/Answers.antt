use Rattle.std.proofs.Common.{arith}
use Rattle.gl_fields.proofs.Taking.{text_read, text_unread}
use Rattle.gl_fields.proofs.units.text_at.Goals as goal

pub returns-in-Ok : goal.returns-in-Ok
returns-in-Ok c =
    let is = c.in-Ok.ensures.cases in
    text_read c.args.bytes.now c.in-Ok.text.now c.split_at.result.1.now c.args.len (omega arith) (cc) c.split_at.ensures.back (rw is.0 is.1)

pub returns-in-Err : goal.returns-in-Err
returns-in-Err c =
    text_unread c.args.bytes.now c.split_at.result.0.now c.args.len c.split_at.ensures.front c.in-Err.ensures.cases.0
