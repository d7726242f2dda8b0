-- A row that goes into some set, and one that goes into none.
use Rattle.std.proofs.Common.{◌≡◌, List, [], ◌∷◌, ◌++◌, sym, subst}
use Rattle.std.specs.Result.{OnOk}
use Rattle.std.proofs.lemmas.List.{append-nil}
use Rattle.gl_indexset.specs.declared.row.Row.{Row}
use Rattle.gl_indexset.specs.Rising.{AreRising}
use Rattle.gl_postings.specs.Postings.{StandsFor}
use Rattle.gl_postings.specs.Indexed.{filed}
use Rattle.gl_postings.proofs.Coming.{filed_first, filed_past}
use Rattle.gl_postings.proofs.Leaving.{last_above}
use Rattle.gl_postings.proofs.settling.add_row.Goals as goal

pub returns-then-is_filed-clause-ok : goal.returns-then-is_filed-clause-ok
returns-then-is_filed-clause-ok c = λ rows stands rising.
    let row = c.args.row.now in
    let one : filed (row ∷ []) ≡ row ∷ [] = filed_first row [] c.is_filed.result c.is_filed.ensures c.if-is_filed.true in
    subst (λ (xs : List Row). OnOk c.add.result (StandsFor c.add.new.self (rows ++ xs))) (sym one)
    (c.add.ensures.ok rows stands (last_above rows row (subst (λ (xs : List Row). AreRising (rows ++ xs)) one rising)))

pub returns-then-is_filed-clause-err : goal.returns-then-is_filed-clause-err
returns-then-is_filed-clause-err c = λ rows stands rising.
    let row = c.args.row.now in
    let one : filed (row ∷ []) ≡ row ∷ [] = filed_first row [] c.is_filed.result c.is_filed.ensures c.if-is_filed.true in
    c.add.ensures.err rows stands (last_above rows row (subst (λ (xs : List Row). AreRising (rows ++ xs)) one rising))

pub returns-else-is_filed-clause-ok : goal.returns-else-is_filed-clause-ok
returns-else-is_filed-clause-ok c = λ rows stands rising.
    let row = c.args.row.now in
    let none : filed (row ∷ []) ≡ [] = filed_past row [] c.is_filed.result c.is_filed.ensures c.if-is_filed.false in
    subst (λ (xs : List Row). StandsFor c.args.words.now (rows ++ xs)) (sym none) (subst (λ (xs : List Row). StandsFor c.args.words.now xs) (sym (append-nil rows)) stands)
