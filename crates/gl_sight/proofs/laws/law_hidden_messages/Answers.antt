use Rattle.gl_sight.proofs.Showing.{hidden}
use Rattle.gl_sight.proofs.laws.law_hidden_messages.Goals as goal

pub returns : goal.returns
returns c = λ permitted live. hidden permitted live
