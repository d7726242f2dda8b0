use Rattle.gl_node.proofs.Chains.{chain_law}
use Rattle.gl_node.proofs.law.law_longest_chain_is_committed.Goals as goal

pub returns : goal.returns
returns c = chain_law
