use Rattle.std.proofs.Common.{arith, ◌+◌}
use Rattle.gl_cli.proofs.Searches.{searched_to, found_in, none_in}
use Rattle.gl_cli.proofs.waiting.Waiting.newline_within.Goals as goal

pub invariant_of-self : goal.invariant_of-self
invariant_of-self c =
    searched_to c.self.inside.start c.self.inside.searched (c.self.inside.start + c.min.result) c.in-Some.steps _ c.self.inside.bytes.items c.self.invariant
    (omega (arith, c.min.ensures, c.len.ensures)) (rw c.deref.ensures.value at c.in-Some.ensures)

pub invariant_of-self-in-None : goal.invariant_of-self-in-None
invariant_of-self-in-None c =
    (none_in c.self.inside.start c.self.inside.searched c.min.result c.args.budget c.self.inside.bytes.items c.self.invariant
    (omega arith) (omega (arith, c.min.ensures, c.len.ensures)) (rw c.deref.ensures.value at c.in-None.ensures)).0

pub returns-in-Some-clause-found : goal.returns-in-Some-clause-found
returns-in-Some-clause-found c =
    rw (← c.self.view_is) (found_in c.self.inside.start c.self.inside.searched (c.self.inside.start + c.min.result) c.in-Some.steps _ c.args.budget c.self.inside.bytes.items c.self.invariant
    (omega (arith, c.min.ensures, c.len.ensures)) (omega (arith, c.min.ensures)) (rw c.deref.ensures.value at c.in-Some.ensures))

pub returns-in-None-clause-found : goal.returns-in-None-clause-found
returns-in-None-clause-found c =
    rw (← c.self.view_is) ((none_in c.self.inside.start c.self.inside.searched c.min.result c.args.budget c.self.inside.bytes.items c.self.invariant
    (omega arith) (omega (arith, c.min.ensures, c.len.ensures)) (rw c.deref.ensures.value at c.in-None.ensures)).1)
