use Rattle.gl_grok.specs.Tables.{table_of, pattern_of}
use Rattle.gl_grok.proofs.Meeting.{met_is_reached, reached_is_met}
use Rattle.gl_grok.proofs.laws.law_names_reached.Goals as goal

pub returns-clause-met : goal.returns-clause-met
returns-clause-met c =
    let table = table_of c.args.table.now in
    ((λ h. met_is_reached table c.args.text.now c.args.name.now h), (λ r. reached_is_met table c.args.text.now r))

pub returns-clause-circular : goal.returns-clause-circular
returns-clause-circular c =
    let table = table_of c.args.table.now in
    let pattern = pattern_of table c.args.name.now in
    ((λ h. met_is_reached table pattern c.args.name.now h), (λ r. reached_is_met table pattern r))
