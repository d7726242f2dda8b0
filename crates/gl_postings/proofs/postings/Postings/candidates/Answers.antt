use Rattle.gl_postings.proofs.postings.Postings.candidates.Goals as goal

pub returns : goal.returns
returns c = λ rows h t q. c.candidates.ensures rows h.words t q
