use Rattle.gl_outside.proofs.Ticking.{one_tick, gave_earlier, gave_later}
use Rattle.gl_outside.proofs.clock.law_given_moments.Goals as goal

pub returns-clause-one : goal.returns-clause-one
returns-clause-one c = one_tick

pub returns-clause-earlier : goal.returns-clause-earlier
returns-clause-earlier c = gave_earlier

pub returns-clause-later : goal.returns-clause-later
returns-clause-later c = gave_later
