use Rattle.gl_postings.proofs.postings.Postings.new.Goals as goal

pub returns : goal.returns
returns c = record { rising = c.new.ensures.rising; words = c.new.ensures; moments = c.new-2.ensures }
