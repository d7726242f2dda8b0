use Rattle.std.proofs.Common.{◌≡◌, Err, arith}
use Rattle.gl_gelf.proofs.Setting.{at_within}
use Rattle.gl_gelf.proofs.decode.refused.Goals as goal
use Rattle.gl_json.specs.Places.{object_of}
use Rattle.gl_json.specs.declared.refusal.JsonRefusal.TheVariants as json

pub overflow_cast-result : goal.overflow_cast-result
overflow_cast-result c =
    let e : object_of c.args.bytes.now ≡ Err (json.NotJson c.in-NotJson.at) = rw c.in-NotJson.is at c.requires.refused in
    let h = at_within c.args.bytes.now c.in-NotJson.at e in
    omega arith
