-- A row that goes into some set, and one that goes into none.
use Rattle.std.proofs.Common.{List, ◌++◌, subst}
use Rattle.gl_indexset.specs.declared.row.Row.{Row}
use Rattle.gl_postings.specs.Postings.{StandsFor}
use Rattle.gl_postings.proofs.Coming.{filed_first, filed_past, row_forgotten}
use Rattle.gl_postings.proofs.settling.forget_row.Goals as goal

pub returns-then-not-is_filed : goal.returns-then-not-is_filed
returns-then-not-is_filed c = λ rows more stands.
    subst (λ (xs : List Row). StandsFor c.args.words.now (rows ++ xs)) (filed_past c.args.row.now more c.is_filed.result c.is_filed.ensures c.if-not-is_filed.true) stands

pub returns : goal.returns
returns c = λ rows more stands.
    row_forgotten c.args.words.now c.forget.new.self rows more c.args.row.now (filed_first c.args.row.now more c.is_filed.result c.is_filed.ensures c.if-not-is_filed.false) stands c.forget.ensures
