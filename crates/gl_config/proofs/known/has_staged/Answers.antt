use Rattle.std.proofs.Common.{rules, ◌≡◌, ◌<◌, ◌∙◌, false, length, sym, ap}
use Rattle.std.specs.List.{list_all}
use Rattle.gl_rulelang.specs.declared.pipeline.Stage.{Stage}
use Rattle.gl_settings.specs.Settings.{has_rule}
use Rattle.gl_config.proofs.Staging.{not_all_staged}
use Rattle.gl_config.proofs.known.has_staged.Goals as goal

pub returns-then-not-has_rules : goal.returns-then-not-has_rules
returns-then-not-has_rules c =
    let lt : c.loop-stage.stage-index < length c.args.stages.now = search rules in
    let lacks : c.has_rules.result ≡ false = search rules in
    sym (not_all_staged (has_rule c.args.parts.now) (λ (stage : Stage). stage.rules) c.args.stages.now c.loop-stage.stage-index c.stage-item.result lt
    (ap (λ (stage : Stage). list_all (has_rule c.args.parts.now) stage.rules) (sym c.stage-item.is) ∙ ap (list_all (has_rule c.args.parts.now)) (sym c.as_slice.ensures) ∙ sym c.has_rules.ensures ∙ lacks))
