-- The words of the rows that leave go, and the row comes.
use Rattle.std.proofs.Common.{◌-◌, ◌^◌, ◌<◌, ◌≤◌, ◌∷◌, arith}
use Rattle.std.proofs.lemmas.List.Elements.{All-head}
use Rattle.gl_indexset.specs.declared.row.Row.{Row}
use Rattle.gl_indexset.specs.Kept.{AreKnown, rules_of}
use Rattle.gl_postings.specs.Indexed.{filed}
use Rattle.gl_postings.proofs.Coming.{settled_row, words_before}
use Rattle.gl_postings.proofs.settling.settle_row.Goals as goal

pub returns-clause-settled : goal.returns-clause-settled
returns-clause-settled c = λ rules all more ready.
    settled_row c.args.sets.now c.store.new.self c.args.words.now c.forget_leaving.new.words rules all more c.args.row ready
    (c.forget_leaving.ensures all (filed (c.args.row ∷ more)) ready.sets.rows (words_before c.args.sets.now c.args.words.now rules all (c.args.row ∷ more) ready))
    c.store.ensures.rules c.store.ensures.next c.store.ensures.spare (c.store.ensures.stands all ready.sets.rows) (c.store.ensures.rows all ready.sets.rows)

pub forget_leaving-requires-clause-stands : goal.forget_leaving-requires-clause-stands
forget_leaving-requires-clause-stands c = (c.requires.1, c.requires.3.sets.rows)

pub forget_leaving-requires-clause-above : goal.forget_leaving-requires-clause-above
forget_leaving-requires-clause-above c = All-head (λ (row : Row). c.args.sets.now.next ≤ row.position) c.args.row c.requires.2 c.requires.3.come.above

pub store-requires-clause-spare : goal.store-requires-clause-spare
store-requires-clause-spare c = omega (arith, c.requires.3.room)

pub store-requires-clause-known : goal.store-requires-clause-known
store-requires-clause-known c = All-head (λ (row : Row). AreKnown (rules_of c.args.sets.now) row.sets) c.args.row c.requires.2 c.requires.3.come.known

pub store-requires-clause-above : goal.store-requires-clause-above
store-requires-clause-above c = All-head (λ (row : Row). c.args.sets.now.next ≤ row.position) c.args.row c.requires.2 c.requires.3.come.above

pub store-requires-clause-counted : goal.store-requires-clause-counted
store-requires-clause-counted c = All-head (λ (row : Row). row.position < 2 ^ 64 - 1) c.args.row c.requires.2 c.requires.3.come.counted
