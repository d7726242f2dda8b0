use Rattle.std.proofs.Common.{List, subst}
use Rattle.std.proofs.lemmas.List.{append-nil}
use Rattle.gl_indexset.specs.declared.row.Row.{Row}
use Rattle.gl_indexset.specs.Retention.{live_rows}
use Rattle.gl_postings.specs.Postings.{StandsFor}
use Rattle.gl_postings.specs.Indexed.{stored}
use Rattle.gl_postings.proofs.indexed.Indexed.settle.Goals as goal

pub returns-clause-stands : goal.returns-clause-stands
returns-clause-stands c = λ rules all ready.
    let done = c.settle_all.ensures.settled rules all ready in
    record { sets = done.sets; words = subst (λ (rows : List Row). StandsFor c.settle_all.new.words rows) (append-nil (live_rows rules (stored c.args.more all))) done.words }
