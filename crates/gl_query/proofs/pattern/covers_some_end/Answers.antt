use Rattle.std.proofs.Common.{sym, ◌∙◌}
use Rattle.gl_query.proofs.Covering.{end_here, end_run}
use Rattle.gl_query.proofs.pattern.covers_some_end.Goals as goal

pub returns-in-Covered : goal.returns-in-Covered
returns-in-Covered c = sym (end_here c.loop-rest.pattern.now c.loop-rest.text.now c.in-Covered.ensures) ∙ c.loop-rest.invariant

pub loop-rest-preserved : goal.loop-rest-preserved
loop-rest-preserved c =
    sym (end_run c.loop-rest.pattern.now c.loop-rest.text.now c.in-Run.more.now c.in-Run.rest.now c.in-Run.ensures) ∙ c.loop-rest.invariant
