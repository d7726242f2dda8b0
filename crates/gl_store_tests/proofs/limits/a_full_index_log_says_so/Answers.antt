-- Each call leaves the node with a state that it keeps.
use Rattle.gl_store_tests.proofs.limits.a_full_index_log_says_so.Goals as goal

pub claim-requires-clause-keeps : goal.claim-requires-clause-keeps
claim-requires-clause-keeps g c = (_, (c.in_ok-arrival.ensures.answer _ c.in_ok-node.ensures.kept.1.2).1)

pub finish-requires-clause-keeps : goal.finish-requires-clause-keeps
finish-requires-clause-keeps g c = (_, (c.in_ok-range.ensures.answer _ (c.in_ok-arrival.ensures.answer _ c.in_ok-node.ensures.kept.1.2).1).1)
