use Rattle.gl_words.specs.Inside.{kept_in}
use Rattle.gl_words.proofs.Standing.{goes}
use Rattle.gl_words.proofs.postings.Postings.forget.Goals as goal

pub returns : goal.returns
returns c = λ rows h held.
    let r = goes (kept_in c.args.self.now.words) (kept_in c.take_row.new.words) rows c.args.row.now (record { rising = h.rising; terms = h.terms }) held c.take_row.ensures in
    record { rising = r.rising; terms = r.terms }
