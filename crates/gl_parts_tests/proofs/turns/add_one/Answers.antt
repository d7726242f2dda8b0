use Rattle.std.proofs.Common.{sym, subst}
use Rattle.gl_turn.specs.declared.seen.Seen.{Seen}
use Rattle.gl_turn.specs.Order.{IsBefore}
use Rattle.gl_parts_tests.specs.Pads.{pad_seen}
use Rattle.gl_parts_tests.proofs.PadLists.{pad_grows}
use Rattle.gl_parts_tests.proofs.turns.add_one.Goals as goal

pub leave-requires-clause-grown : goal.leave-requires-clause-grown
leave-requires-clause-grown g c =
    let before = c.enter-pad.result in let after = c.add.new.self in
    subst (λ (s : Seen). IsBefore s (pad_seen after.items.items after.committed)) (sym c.enter-pad.ensures.seat.2)
    (pad_grows before.items.items after.items.items before.committed after.committed c.add.ensures.items c.add.ensures.commits)
