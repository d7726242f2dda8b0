use Rattle.gl_settings.specs.declared.user.User.{User}
use Rattle.gl_access.specs.Permission.{token_hash}
use Rattle.gl_access.proofs.Seeing.{has_key}
use Rattle.gl_access.proofs.laws.law_one_user.Goals as goal

pub returns : goal.returns
returns c = λ settings token user distinct at is.
    has_key (λ (other : User). other.token_sha256) (token_hash token) settings.users distinct user at.0 at.1 at.2 is
