use Rattle.std.proofs.Common.{◌∙◌, ap}
use Rattle.std.proofs.lemmas.Result.{IfOk-weaker}
use Rattle.serde_json.specs.Written.{compact_text, has_float}
use Rattle.gl_commands.proofs.Tidy.{no_float}
use Rattle.gl_commands.proofs.text.encode_command.Goals as goal

pub returns-clause-text : goal.returns-clause-text
returns-clause-text c =
    IfOk-weaker c.to_vec.result _ _ (λ b h. h (ap has_float c.in_ok-value.ensures ∙ no_float c.args.command.now) ∙ ap compact_text c.in_ok-value.ensures) c.to_vec.ensures.text
