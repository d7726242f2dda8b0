use Rattle.gl_moments.specs.Minutes.{minute_of}
use Rattle.gl_pages.specs.Pages.{time_of}
use Rattle.gl_moments.proofs.Meeting.{met}
use Rattle.gl_moments.proofs.laws.law_near.Goals as goal

pub returns : goal.returns
unfolding minute_of
returns c = λ from to row h. met from to (time_of row.fields) h
