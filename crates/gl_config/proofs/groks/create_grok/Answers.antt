use Rattle.std.proofs.Common.{ℕ, List, sym, ap, ◌∙◌, subst}
use Rattle.gl_grok.specs.Tables.{Table, with_pattern}
use Rattle.gl_settings.specs.Limits.{Refuses}
use Rattle.gl_config.specs.declared.own.Own.TheVariants.{Created}
use Rattle.gl_config.specs.Next.{behind}
use Rattle.gl_config.specs.Applying.{grok_name_cause, grok_cause}
use Rattle.gl_config.proofs.Refusing.{exit, refuses_first, refuses_later, none_both}
use Rattle.gl_config.proofs.groks.create_grok.Goals as goal

pub returns-in_err-refuse_name-clause-err : goal.returns-in_err-refuse_name-clause-err
returns-in_err-refuse_name-clause-err c =
    exit c.from_residual.result c.in_err-refuse_name.field-0.0 _ c.from_residual.ensures.1
    (refuses_first (grok_name_cause Created c.args.parts.now c.args.name.now) _ c.in_err-refuse_name.field-0.0 c.in_err-refuse_name.ensures.err)

pub returns-in_err-check_pattern-clause-err : goal.returns-in_err-check_pattern-clause-err
returns-in_err-check_pattern-clause-err c =
    exit c.from_residual-in_err-check_pattern.result c.in_err-check_pattern.field-0.0 _ c.from_residual-in_err-check_pattern.ensures.1
    (refuses_later (grok_name_cause Created c.args.parts.now c.args.name.now) _ c.in_err-check_pattern.field-0.0 c.in_ok-refuse_name.ensures.ok
    (subst (λ (p : Table × List ℕ). Refuses (grok_cause p.0 p.1) c.in_err-check_pattern.field-0.0) (λ i. (c.in_ok-groks.ensures i, c.as_str.ensures i)) c.in_err-check_pattern.ensures.err))

pub returns-clause-ok : goal.returns-clause-ok
returns-clause-ok c =
    let parts = c.args.parts.now in (
      none_both (grok_name_cause Created parts c.args.name.now) (grok_cause (with_pattern parts.groks c.args.name.now c.args.pattern.now) c.args.pattern.now) c.in_ok-refuse_name.ensures.ok
          (sym (λ i. grok_cause (c.in_ok-groks.ensures i) (c.as_str.ensures i)) ∙ c.in_ok-check_pattern.ensures.ok),
      c.in_ok-with_table.ensures ∙ ap (λ (t : Table). behind parts (record parts { groks = t })) c.in_ok-groks.ensures,
    )
