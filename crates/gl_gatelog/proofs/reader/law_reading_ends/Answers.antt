use Rattle.gl_gatelog.proofs.TakenUp.{ended_reading, broken_reading_read}
use Rattle.gl_gatelog.proofs.reader.law_reading_ends.Goals as goal

pub returns : goal.returns
returns g c = record {
  ended = λ tells b. ended_reading c.args.opening.now b (g.D.Disk.state c.args.disk.now);
  broken = λ tells b. broken_reading_read c.args.opening.now b (g.D.Disk.state c.args.disk.now);
}
