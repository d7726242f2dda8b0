use Rattle.gl_api.proofs.Isolation.{hidden}
use Rattle.gl_api.proofs.laws.law_hidden_messages.Goals as goal

pub returns : goal.returns
returns c = λ permitted live text. hidden permitted live text (c.law_hidden_messages.ensures permitted live)
