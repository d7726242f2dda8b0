use Rattle.std.proofs.Common.{subst, sym}
use Rattle.gl_settings.specs.Limits.{Refuses}
use Rattle.gl_config.proofs.Telling.{pattern_told}
use Rattle.gl_config.proofs.texts.check_pattern.Goals as goal

pub returns-clause-err : goal.returns-clause-err
returns-clause-err c = subst (Refuses _) (sym c.refused_pattern.ensures) (pattern_told c.in-Err.refusal _ c.in-Err.ensures)
