use Rattle.gl_rulelang.proofs.RuleForms.{rule_found, rule_only}
use Rattle.gl_rulelang.proofs.read.read_rule.Goals as goal

pub returns-clause-found : goal.returns-clause-found
returns-clause-found c = rule_found c.rule_from.result c.args.text.now c.rule_from.ensures

pub returns-clause-only : goal.returns-clause-only
returns-clause-only c = rule_only c.rule_from.result c.args.text.now c.rule_from.ensures
