use Rattle.gl_streams.proofs.Putting.{rises_with, rises_without}
use Rattle.gl_streams.proofs.laws.law_ids_stay_rising.Goals as goal

pub returns-clause-put : goal.returns-clause-put
returns-clause-put c = rises_with

pub returns-clause-taken : goal.returns-clause-taken
returns-clause-taken c = rises_without
