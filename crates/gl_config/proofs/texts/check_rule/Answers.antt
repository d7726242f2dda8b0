use Rattle.std.proofs.Common.{subst, sym}
use Rattle.gl_settings.specs.Limits.{Refuses}
use Rattle.gl_config.proofs.Telling.{rule_told}
use Rattle.gl_config.proofs.texts.check_rule.Goals as goal

pub returns-in-Err-clause-err : goal.returns-in-Err-clause-err
returns-in-Err-clause-err c = subst (Refuses _) (sym c.refused_rule.ensures) (rule_told c.in-Err.refusal _ c.in-Err.ensures)
