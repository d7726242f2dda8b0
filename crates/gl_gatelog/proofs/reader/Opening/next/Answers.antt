use Rattle.std.proofs.Common.{⊎_elim, sym, ◌∙◌}
use Rattle.std.proofs.lemmas.Bool.{false≢true}
use Rattle.gl_gatelog.proofs.Further.{told}
use Rattle.gl_gatelog.proofs.reader.Opening.next.Goals as goal

pub returns-clause-read : goal.returns-clause-read
returns-clause-read g c tells b so_far =
    ⊎_elim
    (λ behind. told c.load.new.self c.take.new.self b (g.D.Disk.state c.load.new.disk) (c.load.ensures.read tells b behind) (c.in_ok-load.ensures.hand c.if-not-branch.false).0 (c.in_ok-load.ensures.hand c.if-not-branch.false).1 c.in_ok-found.found c.in_ok-found.ensures.value c.in_ok-found.ensures.found)
    (λ none. absurd (false≢true (sym none.1.no_begin ∙ sym c.has_begin.ensures.value ∙ c.if-not-has_begin.false)))
    so_far
