use Rattle.gl_postings.proofs.postings.Postings.forget.Goals as goal

pub returns : goal.returns
returns c = λ rows h there.
    let words = c.forget.ensures rows h.words there in
    record { rising = words.rising; words = words; moments = c.forget-2.ensures rows h.moments there }
