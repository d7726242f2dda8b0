use Rattle.std.proofs.Common.{arith, length}
use Rattle.gl_history.proofs.Positions.{so_many}
use Rattle.gl_history.proofs.history.commands_before.Goals as goal

pub returns-then-command-position : goal.returns-then-command-position
returns-then-command-position c =
    so_many c.args.commands.now c.args.position c.loop-index.index c.loop-index.auto.index-end c.loop-index.invariant (λ _. c.if-command-position.true)

pub returns : goal.returns
returns c =
    so_many c.args.commands.now c.args.position (length c.args.commands.now) (omega arith)
    (λ k l. c.loop-index.invariant k (omega (arith, l, c.loop-index-test.false))) (λ l. absurd (omega (arith, l)))
