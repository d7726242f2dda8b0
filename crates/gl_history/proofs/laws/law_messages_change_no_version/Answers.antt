use Rattle.gl_history.proofs.Remembering.{remembers_message}
use Rattle.gl_history.proofs.laws.law_messages_change_no_version.Goals as goal

pub returns : goal.returns
returns c = remembers_message
