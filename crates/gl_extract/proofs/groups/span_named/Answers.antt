use Rattle.std.proofs.Common.{◌≡◌, ◌∙◌, ap, rules}
use Rattle.gl_patterns.specs.Patterns.{group_called}
use Rattle.gl_extract.specs.Extraction.{group_name}
use Rattle.gl_extract.proofs.Spans.{named_at, cuts_at}
use Rattle.gl_extract.proofs.groups.span_named.Goals as goal

pub returns-in-Some-clause-value : goal.returns-in-Some-clause-value
returns-in-Some-clause-value c =
    let named : c.as_str.result.now ≡ group_name c.args.number = search rules in
    named_at c.args.pattern.now c.args.text.now (group_name c.args.number) c.args.spans.now c.requires c.group_of_name.result (c.group_of_name.ensures ∙ ap (group_called c.args.pattern.now) named) c.in-Some.group c.in-Some.is

pub returns-in-Some-clause-cuts : goal.returns-in-Some-clause-cuts
returns-in-Some-clause-cuts c =
    cuts_at c.args.pattern.now c.args.text.now c.as_str.result.now c.args.spans.now c.requires c.group_of_name.result c.group_of_name.ensures c.in-Some.group c.in-Some.is
