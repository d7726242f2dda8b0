use Rattle.std.proofs.Common.{length, ◌-◌, ◌+◌, ◌≡◌, true, if◌then◌else◌}
use Rattle.std.specs.Io.KnownBytes.{Keeps, IsAtEnd, prepend_known}
use Rattle.gl_cli.proofs.reader.LineReader.fill.Given as goal

abbrev pub decreases-loop-place : goal.decreases-loop-place
decreases-loop-place g l = (l.self.budget + 1 - length l.self.waiting) + (if l.self.ended then 0 else 1)

abbrev pub invariant-loop-place : goal.invariant-loop-place
invariant-loop-place g l = record {
  same : Keeps (prepend_known l.fn.self.waiting (g.S.Source.left l.fn.source)) (prepend_known l.self.waiting (g.S.Source.left l.source));
  end : (l.fn.self.ended ≡ true → IsAtEnd (g.S.Source.left l.fn.source)) → l.self.ended ≡ true → IsAtEnd (g.S.Source.left l.source);
  asks_no_more : l.fn.self.ended ≡ true → (l.self.ended ≡ true) × (l.source ≡ l.fn.source);
  budget : l.self.budget ≡ l.fn.self.budget;
  steady : g.S.Source.faults l.source ≡ g.S.Source.faults l.fn.source;
}
