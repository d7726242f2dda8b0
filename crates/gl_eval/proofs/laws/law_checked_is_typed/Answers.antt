use Rattle.gl_eval.proofs.Typed.{has_its_kind, condition_is_decided, variables_have_their_kinds}
use Rattle.gl_eval.proofs.laws.law_checked_is_typed.Goals as goal

pub returns : goal.returns
returns c = record { kinds = has_its_kind; condition = condition_is_decided; variables = variables_have_their_kinds }
