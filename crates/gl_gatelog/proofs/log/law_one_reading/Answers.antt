use Rattle.gl_gatelog.proofs.Readings.{one_reading}
use Rattle.gl_gatelog.proofs.Decide.{a_reading}
use Rattle.gl_gatelog.proofs.log.law_one_reading.Goals as goal

pub returns : goal.returns
returns c = record { some = a_reading; one = one_reading }
