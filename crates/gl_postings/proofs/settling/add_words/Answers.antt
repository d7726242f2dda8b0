-- One row after another; and what was put in goes again.
use Rattle.std.proofs.Common.{◌+◌, ◌≤◌, List, ◌++◌, length, take, sym, subst, arith}
use Rattle.std.proofs.lemmas.List.{append-nil, take_all}
use Rattle.gl_indexset.specs.declared.row.Row.{Row}
use Rattle.gl_indexset.specs.Rising.{AreRising}
use Rattle.gl_postings.specs.Postings.{StandsFor}
use Rattle.gl_postings.specs.Indexed.{filed}
use Rattle.gl_postings.proofs.Coming.{rising_so_far, rows_next}
use Rattle.gl_postings.proofs.settling.add_words.Goals as goal

pub loop-n-init : goal.loop-n-init
loop-n-init c = λ rows stands rising. subst (λ (xs : List Row). StandsFor c.args.words.now xs) (sym (append-nil rows)) stands

pub loop-n-preserved : goal.loop-n-preserved
loop-n-preserved c = λ rows stands rising.
    let more = c.args.more.now in
    let next = rows_next rows more c.loop-n.n c.index-more-n.result c.loop-n-test.true (sym c.index-more-n.is) in
    subst (λ (xs : List Row). StandsFor c.add_row.new.words xs) next
    (c.in-Ok.ensures.ok (rows ++ filed (take c.loop-n.n more)) (c.loop-n.invariant rows stands rising) (subst AreRising (sym next) (rising_so_far rows more (c.loop-n.n + 1) rising)))

pub returns-in-Err-clause-err : goal.returns-in-Err-clause-err
returns-in-Err-clause-err c = λ rows stands rising.
    let more = c.args.more.now in
    let next = rows_next rows more c.loop-n.n c.index-more-n.result c.loop-n-test.true (sym c.index-more-n.is) in
    c.forget_words.ensures rows
    (c.in-Err.ensures.err (rows ++ filed (take c.loop-n.n more)) (c.loop-n.invariant rows stands rising) (subst AreRising (sym next) (rising_so_far rows more (c.loop-n.n + 1) rising)))

pub returns-clause-ok : goal.returns-clause-ok
returns-clause-ok c = λ rows stands rising.
    let past : length c.args.more.now ≤ c.loop-n.n = omega arith in
    subst (λ (xs : List Row). StandsFor c.loop-n.words (rows ++ filed xs)) (take_all c.loop-n.n c.args.more.now past) (c.loop-n.invariant rows stands rising)
