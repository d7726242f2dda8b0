use Rattle.std.proofs.Common.{arith}
use Rattle.gl_node.proofs.Keeping.{keeps_came}
use Rattle.gl_node.proofs.node.Node.take_in.Goals as goal

pub returns-clause-kept : goal.returns-clause-kept
returns-clause-kept c = λ s k claim there is_work.
    keeps_came c.args.self.now s c.args.at claim c.args.work c.remove.new.self c.push_reserved.new.self k there is_work
    c.remove.ensures.items c.push_reserved.ensures.items (omega (arith, c.push_reserved.new.self.ok.0, c.args.self.now.waiting.ok.0, c.push_reserved.ensures.len)) c.push_reserved.ensures.capacity
