use Rattle.std.proofs.Common.{◌∙◌, ap}
use Rattle.gl_bodies.proofs.Members.{reply_with, text_is}
use Rattle.gl_bodies.proofs.object.finish.Goals as goal

pub returns : goal.returns
returns c = λ members has.
    ap (reply_with c.args.status)
    (c.from_vec.ensures ∙ c.into_inner.ensures.items ∙ text_is c.args.body c.end_object.new.self (c.in_ok-end_object.ensures.room.0, c.in_ok-end_object.ensures.ok) members has)
