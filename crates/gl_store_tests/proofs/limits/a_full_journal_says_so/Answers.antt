-- The first call leaves the node with a state that it keeps.
use Rattle.gl_store_tests.proofs.limits.a_full_journal_says_so.Goals as goal

pub datagram-requires-2-clause-keeps : goal.datagram-requires-2-clause-keeps
datagram-requires-2-clause-keeps g c = (_, (c.in_ok-first.ensures.answer _ c.in_ok-node.ensures.kept.1.2).1)
