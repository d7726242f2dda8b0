use Rattle.gl_lines.proofs.Framings.{begun_last, line_last}
use Rattle.gl_lines.proofs.front.end.Goals as goal

pub end_rest-requires-clause-rest : goal.end_rest-requires-clause-rest
end_rest-requires-clause-rest c = begun_last c.args.counts c.args.front.now.bytes.items c.in-Begun.count (rw c.in-Begun.is at c.requires.state)

pub end_rest-requires-in-Line-clause-rest : goal.end_rest-requires-in-Line-clause-rest
end_rest-requires-in-Line-clause-rest c = line_last c.args.counts c.args.front.now.bytes.items (rw c.in-Line.is at c.requires.state)
