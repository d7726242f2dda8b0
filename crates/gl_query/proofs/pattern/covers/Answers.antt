use Rattle.std.proofs.Common.{sym, ◌∙◌}
use Rattle.gl_query.proofs.Covering.{covers_run}
use Rattle.gl_query.proofs.pattern.covers.Goals as goal

pub returns-in-Run : goal.returns-in-Run
returns-in-Run c = c.covers_some_end.ensures ∙ sym (covers_run c.args.pattern.now c.args.text.now c.in-Run.more.now c.in-Run.rest.now c.in-Run.ensures)
