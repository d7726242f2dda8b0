use Rattle.std.proofs.Common.{[], ◌∷◌}
use Rattle.std.specs.Prelude.{codes}
use Rattle.gl_bodies.specs.Json.{count_at}
use Rattle.gl_bodies.specs.Listings.{indexes_at}
use Rattle.gl_bodies.proofs.listings.system_reply.Goals as goal

pub returns : goal.returns
returns c =
    let committed = count_at (codes "committed") c.args.committed in
    let indexes = indexes_at c.args.indexes.now in
    let journal = count_at (codes "journal") c.args.journal in
    c.finish.ensures (committed ∷ indexes ∷ journal ∷ count_at (codes "version") c.args.version ∷ [])
    (c.in_ok-put_number-3.ensures (committed ∷ indexes ∷ journal ∷ [])
    (c.in_ok-put_number-2.ensures (committed ∷ indexes ∷ []) (c.in_ok-put_indexes.ensures (committed ∷ []) (c.in_ok-put_number.ensures [] c.in_ok-body.ensures))))
