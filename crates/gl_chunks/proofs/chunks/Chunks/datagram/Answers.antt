use Rattle.std.proofs.Common.{◌≡◌, ◌++◌, [], ◌∷◌, ℕ, min, max, sym, subst, arith}
use Rattle.gl_chunks.specs.Chunks.{IsTable, standing_of}
use Rattle.gl_chunks.proofs.Keeping.{answered}
use Rattle.gl_chunks.proofs.chunks.Chunks.datagram.Goals as goal

pub returns-clause-answer : goal.returns-clause-answer
returns-clause-answer c = λ list k.
    let m_is : c.max-now.result ≡ max c.args.self.now.now (min c.args.moment 253402300799999) = omega arith in
    let both = answered c.args.self.now.now c.max-now.result c.args.moment c.args.bytes.now list c.args.self.now.sets c.answer.new.self.sets c.discard.new.self.sets
    c.args.self.now.ended c.answer.new.self.ended c.discard.new.self.ended c.in_ok-answer.answer m_is c.in_ok-answer.ensures.ok c.discard.ensures.kept k in
    (both.0, subst (λ (n : ℕ). IsTable n c.discard.new.self.sets c.discard.new.self.ended (standing_of (list ++ (c.args.moment, c.args.bytes.now) ∷ []))) (sym c.discard.ensures.now) both.1)
