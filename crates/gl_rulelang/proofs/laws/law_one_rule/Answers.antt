use Rattle.gl_rulelang.proofs.RuleForms.{one_rule}
use Rattle.gl_rulelang.proofs.laws.law_one_rule.Goals as goal

pub returns : goal.returns
returns c = one_rule
