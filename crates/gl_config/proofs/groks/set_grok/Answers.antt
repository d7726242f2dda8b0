use Rattle.std.proofs.Common.{ℕ, List, sym, ap, ◌∙◌, subst}
use Rattle.std.specs.Option.{option_or}
use Rattle.gl_grok.specs.Tables.{Table, with_pattern}
use Rattle.gl_settings.specs.Limits.{Refuses}
use Rattle.gl_config.specs.declared.own.Own.TheVariants.{Changed}
use Rattle.gl_config.specs.Next.{behind}
use Rattle.gl_config.specs.Applying.{grok_name_cause, grok_cause, others_cause}
use Rattle.gl_config.proofs.Refusing.{exit, refuses_first, refuses_later, none_both}
use Rattle.gl_config.proofs.groks.set_grok.Goals as goal

pub returns-in_err-refuse_name-clause-err : goal.returns-in_err-refuse_name-clause-err
returns-in_err-refuse_name-clause-err c =
    exit c.from_residual.result c.in_err-refuse_name.field-0.0 _ c.from_residual.ensures.1
    (refuses_first (grok_name_cause Changed c.args.parts.now c.args.name.now) _ c.in_err-refuse_name.field-0.0 c.in_err-refuse_name.ensures.err)

pub returns-in_err-check_pattern-clause-err : goal.returns-in_err-check_pattern-clause-err
returns-in_err-check_pattern-clause-err c =
    let parts = c.args.parts.now in
    let table = with_pattern parts.groks c.args.name.now c.args.pattern.now in
    exit c.from_residual-in_err-check_pattern.result c.in_err-check_pattern.field-0.0 _ c.from_residual-in_err-check_pattern.ensures.1
    (refuses_later (grok_name_cause Changed parts c.args.name.now) _ c.in_err-check_pattern.field-0.0 c.in_ok-refuse_name.ensures.ok
    (refuses_first (grok_cause table c.args.pattern.now) (others_cause parts table) c.in_err-check_pattern.field-0.0
    (subst (λ (p : Table × List ℕ). Refuses (grok_cause p.0 p.1) c.in_err-check_pattern.field-0.0) (λ i. (c.in_ok-groks.ensures i, c.as_str.ensures i)) c.in_err-check_pattern.ensures.err)))

pub returns-in_err-check_others-clause-err : goal.returns-in_err-check_others-clause-err
returns-in_err-check_others-clause-err c =
    let parts = c.args.parts.now in
    let table = with_pattern parts.groks c.args.name.now c.args.pattern.now in
    exit c.from_residual-in_err-check_others.result c.in_err-check_others.field-0.0 _ c.from_residual-in_err-check_others.ensures.1
    (refuses_later (grok_name_cause Changed parts c.args.name.now) _ c.in_err-check_others.field-0.0 c.in_ok-refuse_name.ensures.ok
    (refuses_later (grok_cause table c.args.pattern.now) (others_cause parts table) c.in_err-check_others.field-0.0
    (sym (λ i. grok_cause (c.in_ok-groks.ensures i) (c.as_str.ensures i)) ∙ c.in_ok-check_pattern.ensures.ok)
    (subst (λ (t : Table). Refuses (others_cause parts t) c.in_err-check_others.field-0.0) c.in_ok-groks.ensures c.in_err-check_others.ensures.err)))

pub returns-clause-ok : goal.returns-clause-ok
returns-clause-ok c =
    let parts = c.args.parts.now in
    let table = with_pattern parts.groks c.args.name.now c.args.pattern.now in (
      none_both (grok_name_cause Changed parts c.args.name.now) (option_or (grok_cause table c.args.pattern.now) (others_cause parts table)) c.in_ok-refuse_name.ensures.ok
          (none_both (grok_cause table c.args.pattern.now) (others_cause parts table)
          (sym (λ i. grok_cause (c.in_ok-groks.ensures i) (c.as_str.ensures i)) ∙ c.in_ok-check_pattern.ensures.ok)
          (sym (ap (others_cause parts) c.in_ok-groks.ensures) ∙ c.in_ok-check_others.ensures.ok)),
      c.in_ok-with_table.ensures ∙ ap (λ (t : Table). behind parts (record parts { groks = t })) c.in_ok-groks.ensures,
    )
