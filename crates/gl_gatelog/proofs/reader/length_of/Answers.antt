use Rattle.gl_gatelog.specs.View.{batch_of}
use Rattle.gl_gatelog.proofs.Further.{not_long}
use Rattle.gl_gatelog.proofs.reader.length_of.Goals as goal

pub unreachable-requires : goal.unreachable-requires
unreachable-requires c = not_long (batch_of c.args.records.now) c.requires.short c.in-None.ensures
