use Rattle.std.proofs.Common.{arith, ◌≡◌, ◌∙◌, take, refl}
use Rattle.gl_cli.proofs.Readings.{take_whole, Keeps-taken, Keeps-nothing}
use Rattle.gl_cli.proofs.reader.LineReader.refill.Goals as goal

pub returns-then-count-eq0-clause-same : goal.returns-then-count-eq0-clause-same
returns-then-count-eq0-clause-same g c =
    Keeps-nothing c.args.self.now.waiting (take c.in_ok-count.count c.read.new.into) (g.S.Source.left c.args.source.now) (g.S.Source.left c.read.new.self)
    (rw c.if-count-eq0.true refl) c.in_ok-count.ensures.bytes.0

pub returns-clause-same : goal.returns-clause-same
returns-clause-same g c =
    let e : c.deref.result.now ≡ c.read.new.into = c.deref.ensures.value ∙ take_whole _ _ _ (omega (arith, c.read.auto.into, c.deref_mut.ensures.len)) in
    rw (c.in_ok-add.ensures, e)
    (Keeps-taken c.args.self.now.waiting (take c.in_ok-count.count c.read.new.into) (g.S.Source.left c.args.source.now) (g.S.Source.left c.read.new.self)
    c.in_ok-count.ensures.bytes.0)
