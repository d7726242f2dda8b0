use Rattle.std.proofs.Common.{arith, rules}
use Rattle.gl_cli.proofs.Readings.{given-line, given-long, given-rest}
use Rattle.gl_cli.proofs.reader.LineReader.next_line.Goals as goal

pub returns-in_ok-line-in-Some-clause-given : goal.returns-in_ok-line-in-Some-clause-given
returns-in_ok-line-in-Some-clause-given g c =
    rw (← c.fill.ensures.budget) (given-line _ (g.S.Source.left c.fill.new.source) c.fill.new.self.waiting c.fill.new.self.budget c.in-Some.end _ _
    c.in_ok-end.ensures.same (rw c.in-Some.is at c.in_ok-end.ensures.found) c.in_ok-line-in-Some.ensures.line c.in_ok-line-in-Some.ensures.rest)

pub returns-then-count-self-clause-given : goal.returns-then-count-self-clause-given
returns-then-count-self-clause-given g c =
    rw (← c.fill.ensures.budget) (given-long _ (g.S.Source.left c.fill.new.source) c.fill.new.self.waiting c.fill.new.self.budget
    c.in_ok-end.ensures.same (rw c.in-None.is at c.in_ok-end.ensures.found).0 (search rules))

pub returns-in_ok-line-in-None-clause-given : goal.returns-in_ok-line-in-None-clause-given
returns-in_ok-line-in-None-clause-given g c =
    rw (← c.fill.ensures.budget) (given-rest _ (g.S.Source.left c.fill.new.source) c.fill.new.self.waiting c.fill.new.self.budget c.fill.new.self.ended _ _ _
    c.in_ok-end.ensures.same (rw c.in-None.is at c.in_ok-end.ensures.found) (c.in_ok-end.ensures.end c.requires.ended)
    (omega (arith, c.if-count-self.false, c.len-count.ensures)) (search rules) c.in_ok-line-in-None.ensures.line c.in_ok-line-in-None.ensures.rest c.len-count.ensures)
