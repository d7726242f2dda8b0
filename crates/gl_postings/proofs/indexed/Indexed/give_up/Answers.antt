use Rattle.gl_indexset.specs.Retention.{live_rows}
use Rattle.gl_postings.proofs.indexed.Indexed.give_up.Goals as goal

pub returns-clause-stands : goal.returns-clause-stands
returns-clause-stands c = λ rules all ready. record { sets = ready.sets; words = c.forget_words.ensures (live_rows rules all) ready.words }
