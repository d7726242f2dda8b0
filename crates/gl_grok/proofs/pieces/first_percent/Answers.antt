use Rattle.std.proofs.Common.{◌∙◌, ap, sym, arith, ◌++◌, map}
use Rattle.gl_grok.specs.Pieces.{byte, pieces, first_piece}
use Rattle.gl_grok.proofs.Cutting.{none_split, split_pieces, split_shorter, behind_shorter}
use Rattle.gl_grok.proofs.pieces.first_percent.Goals as goal

pub returns-in_default-clause-pieces : goal.returns-in_default-clause-pieces
returns-in_default-clause-pieces c = none_split c.args.text.now c.in_default.ensures

pub returns-in-Some-behind_percent-clause-pieces : goal.returns-in-Some-behind_percent-clause-pieces
returns-in-Some-behind_percent-clause-pieces c =
    split_pieces c.args.text.now c.in-Some.before.now c.in-Some.behind.now c.in-Some.ensures
    ∙ ap (λ o. map (λ b. byte b) c.in-Some.before.now ++ first_piece pieces 37 c.in-Some.behind.now o) (sym c.in-Some-behind_percent.ensures)

pub returns-in-Some-behind_percent-clause-shorter : goal.returns-in-Some-behind_percent-clause-shorter
returns-in-Some-behind_percent-clause-shorter c =
    let first = split_shorter c.args.text.now c.in-Some.before.now c.in-Some.behind.now c.in-Some.ensures in
    let rest = behind_shorter c.in-Some.behind.now _ c.in-Some-behind_percent.after.now c.in-Some-behind_percent.ensures in
    omega (arith, first, rest)

pub returns-in-None-clause-pieces : goal.returns-in-None-clause-pieces
returns-in-None-clause-pieces c =
    split_pieces c.args.text.now c.in-Some.before.now c.in-Some.behind.now c.in-Some.ensures
    ∙ ap (λ o. map (λ b. byte b) c.in-Some.before.now ++ first_piece pieces 37 c.in-Some.behind.now o) (sym c.in-None.ensures)
