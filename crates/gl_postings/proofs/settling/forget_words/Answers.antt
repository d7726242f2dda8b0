-- One row after another, from the first on.
use Rattle.std.proofs.Common.{◌≡◌, ◌+◌, ◌≤◌, List, [], ◌++◌, length, drop, sym, ◌∙◌, ap, subst, arith}
use Rattle.std.proofs.lemmas.List.{append-nil, drop_all}
use Rattle.gl_indexset.specs.declared.row.Row.{Row}
use Rattle.gl_postings.specs.Postings.{StandsFor}
use Rattle.gl_postings.specs.Indexed.{filed}
use Rattle.gl_postings.proofs.Coming.{drop_next}
use Rattle.gl_postings.proofs.settling.forget_words.Goals as goal

pub loop-row-preserved : goal.loop-row-preserved
loop-row-preserved c = λ rows stands.
    c.forget_row.ensures rows (drop (c.loop-row.row-index + 1) c.args.more.now)
    (subst (λ (xs : List Row). StandsFor c.loop-row.words (rows ++ filed xs)) (drop_next c.args.more.now c.loop-row.row-index c.row-item.result c.loop-row-test.true (sym c.row-item.is)) (c.loop-row.invariant rows stands))

pub returns : goal.returns
returns c = λ rows stands.
    let past : length c.args.more.now ≤ c.loop-row.row-index = omega arith in
    let none : drop c.loop-row.row-index c.args.more.now ≡ [] = drop_all c.loop-row.row-index c.args.more.now past in
    subst (λ (xs : List Row). StandsFor c.loop-row.words xs) (ap (λ xs. rows ++ filed xs) none ∙ append-nil rows) (c.loop-row.invariant rows stands)
