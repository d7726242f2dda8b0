use Rattle.std.proofs.Common.{map, ap, ◌∙◌}
use Rattle.gl_grok.specs.Tables.{table_of, with_pattern}
use Rattle.gl_grok.proofs.Tables.{pair, pattern_put}
use Rattle.gl_grok.proofs.initial.name_pattern.Goals as goal

pub returns : goal.returns
returns c =
    ap (map pair) c.in_ok-insert.ensures.entries ∙ pattern_put c.args.table.now.entries c.in_ok-name.name c.in_ok-pattern.pattern
    ∙ (λ i. with_pattern (table_of c.args.table.now) (c.in_ok-name.ensures.ok i) (c.in_ok-pattern.ensures.ok i))
