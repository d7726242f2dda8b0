use Rattle.std.proofs.Common.{Ok, ap, ◌∙◌, sym, subst}
use Rattle.gl_settings.specs.Settings.{Settings}
use Rattle.gl_settings.specs.Limits.{limit_of, Refuses}
use Rattle.gl_config.specs.Applying.{applied, Answers}
use Rattle.gl_config.proofs.Refusing.{answered, answers_refused, answers_limited, answers_made}
use Rattle.gl_config.proofs.config.Config.apply.Goals as goal

pub returns-in_err-parts : goal.returns-in_err-parts
returns-in_err-parts c =
    subst (λ (s : Settings). Answers c.from_residual.result (applied s c.args.command.now)) c.self.view_is
    (answered c.from_residual.result _ _ c.from_residual.ensures.1 (answers_refused _ c.args.command.now c.in_err-parts.field-0.0 c.in_err-parts.ensures.err))

pub returns-in_err-within_limits : goal.returns-in_err-within_limits
returns-in_err-within_limits c =
    subst (λ (s : Settings). Answers c.from_residual-in_err-within_limits.result (applied s c.args.command.now)) c.self.view_is
    (answered c.from_residual-in_err-within_limits.result _ _ c.from_residual-in_err-within_limits.ensures.1
    (answers_limited _ c.args.command.now c.in_err-within_limits.field-0.0 c.in_ok-parts.ensures.ok.0 (subst (λ (s : Settings). Refuses (limit_of s) c.in_err-within_limits.field-0.0) c.in_ok-parts.ensures.ok.1 c.in_err-within_limits.ensures.err)))

pub returns : goal.returns
returns c =
    subst (λ (s : Settings). Answers (Ok c.in_ok-parts.parts) (applied s c.args.command.now)) c.self.view_is
    (answers_made _ c.args.command.now c.in_ok-parts.parts c.in_ok-parts.ensures.ok.0 (ap limit_of (sym c.in_ok-parts.ensures.ok.1) ∙ c.in_ok-within_limits.ensures.ok) c.in_ok-parts.ensures.ok.1)
