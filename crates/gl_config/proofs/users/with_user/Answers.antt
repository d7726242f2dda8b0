use Rattle.std.proofs.Common.{◌∙◌}
use Rattle.std.proofs.lemmas.Result.{IfOk-weaker}
use Rattle.gl_settings.specs.declared.user.User.{User}
use Rattle.gl_settings.specs.Settings.{placed}
use Rattle.gl_config.proofs.users.with_user.Goals as goal

pub returns : goal.returns
returns c =
    IfOk-weaker c.with_users.result _ _
    (λ p h. h ∙ (λ i. record (c.in_ok-next.ensures i) {
      users = (c.in_ok-users.ensures ∙ (λ j. placed (λ (x : User). x.name) (record { name = c.in_ok-copy.ensures j; token_sha256 = c.in_ok-copy-2.ensures j; admin = c.args.given.now.admin; streams = c.in_ok-copy-3.ensures j }) (c.users.ensures j))) i;
    }))
    c.with_users.ensures
