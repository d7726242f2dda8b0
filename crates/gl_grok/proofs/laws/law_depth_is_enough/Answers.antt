use Rattle.std.proofs.Common.{[]}
use Rattle.gl_grok.specs.Pieces.{names_in}
use Rattle.gl_grok.specs.Tables.{table_of}
use Rattle.gl_grok.proofs.Expandable.{expandable}
use Rattle.gl_grok.proofs.Meeting.{names-deeper}
use Rattle.gl_grok.proofs.Spelling.{text-deeper}
use Rattle.gl_grok.proofs.laws.law_depth_is_enough.Goals as goal

pub returns-clause-names : goal.returns-clause-names
returns-clause-names c = λ depth lt. names-deeper (table_of c.args.table.now) depth (names_in c.args.text.now) lt

pub returns-clause-expansion : goal.returns-clause-expansion
returns-clause-expansion c =
    let table = table_of c.args.table.now in
    λ known ends depth lt. text-deeper table depth c.args.text.now (expandable table c.args.text.now known ends) lt (record { text = []; fields = [] })
