use Rattle.std.proofs.Common.{rules}
use Rattle.gl_http.proofs.Whole.{begins}
use Rattle.gl_http.proofs.head.answer_at.Goals as goal

pub returns-clause-begins : goal.returns-clause-begins
returns-clause-begins c =
    (c.requires.of.0, begins c.args.buf.now c.args.headers.now c.args.spans c.requires.of.0 c.requires.few c.requires.of.1, search (rules, c.requires.of.1))
