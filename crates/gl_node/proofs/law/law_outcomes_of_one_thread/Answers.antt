use Rattle.gl_node.proofs.OneThread.{one_thread}
use Rattle.gl_node.proofs.law.law_outcomes_of_one_thread.Goals as goal

pub returns : goal.returns
returns c = one_thread
