use Rattle.std.proofs.Common.{[], ◌∷◌}
use Rattle.std.specs.Prelude.{codes}
use Rattle.gl_bodies.specs.Json.{count_at}
use Rattle.gl_bodies.specs.Replies.{error}
use Rattle.gl_bodies.proofs.replies.journal_full_reply.Goals as goal

pub returns : goal.returns
returns c =
    let bytes = count_at (codes "bytes") c.args.bytes in
    let name = error (codes "JournalFull") in
    c.finish.ensures (bytes ∷ name ∷ count_at (codes "limit") c.args.limit ∷ [])
    (c.in_ok-put_number-2.ensures (bytes ∷ name ∷ []) (c.in_ok-put_text.ensures (bytes ∷ []) (c.in_ok-put_number.ensures [] c.in_ok-body.ensures)))
