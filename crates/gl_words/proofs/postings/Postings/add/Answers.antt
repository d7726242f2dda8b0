use Rattle.gl_words.specs.Inside.{kept_in}
use Rattle.gl_words.proofs.Standing.{comes, undone}
use Rattle.gl_words.proofs.postings.Postings.add.Goals as goal

pub returns-in-Ok-clause-ok : goal.returns-in-Ok-clause-ok
returns-in-Ok-clause-ok c = λ rows h below.
    let r = comes (kept_in c.args.self.now.words) (kept_in c.put_row.new.words) rows c.args.row.now (record { rising = h.rising; terms = h.terms }) below c.in-Ok.ensures.ok in
    record { rising = r.rising; terms = r.terms }

pub returns-in-Err-clause-err : goal.returns-in-Err-clause-err
returns-in-Err-clause-err c = λ rows h below.
    let r = undone (kept_in c.args.self.now.words) (kept_in c.put_row.new.words) (kept_in c.take_row.new.words) rows c.args.row.now (record { rising = h.rising; terms = h.terms }) below c.in-Err.ensures.err c.take_row.ensures in
    record { rising = r.rising; terms = r.terms }
