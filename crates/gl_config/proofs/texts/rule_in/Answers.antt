use Rattle.std.proofs.Common.{List, ℕ, subst, sym}
use Rattle.gl_rulelang.specs.Rules.{rule_text}
use Rattle.gl_settings.specs.Limits.{Refuses}
use Rattle.gl_config.specs.Applying.{text_cause}
use Rattle.gl_config.proofs.Telling.{text_told}
use Rattle.gl_config.proofs.texts.rule_in.Goals as goal

pub returns-in-Err-clause-err : goal.returns-in-Err-clause-err
returns-in-Err-clause-err c =
    subst (λ (t : List ℕ). Refuses (text_cause (rule_text t)) c.refused_text.result) c.as_str.ensures
    (subst (Refuses (text_cause (rule_text c.as_str.result.now))) (sym c.refused_text.ensures) (text_told c.in-Err.refusal _ c.in-Err.ensures.exact))
