use Rattle.std.proofs.Common.{arith}
use Rattle.gl_postings.proofs.indexed.Indexed.new.Goals as goal

pub returns-clause-stands : goal.returns-clause-stands
returns-clause-stands c = record {
  sets = record { rules_are = c.new.ensures.rules; keep = λ k d lt. absurd (omega arith); rows = c.new.ensures.stands };
  words = c.new-2.ensures;
}
