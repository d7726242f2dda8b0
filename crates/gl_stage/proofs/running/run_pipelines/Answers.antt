use Rattle.std.proofs.Common.{◌∙◌}
use Rattle.gl_functions.specs.Worlds.{known_of}
use Rattle.gl_stage.specs.Books.{layout_of}
use Rattle.gl_stage.proofs.Going.{run_runs, run_ends}
use Rattle.gl_stage.proofs.running.run_pipelines.Goals as goal

pub returns-clause-end : goal.returns-clause-end
returns-clause-end c =
    run_runs (known_of c.args.world.now) c.as_mut_slice.result.now c.args.rules.now (layout_of c.args.pipelines.now c.args.connections.now) c.args.state
    (c.as_mut_slice.ensures.value ∙ c.rules.view_is) c.run.result c.run.ensures.value

pub returns-clause-in_one : goal.returns-clause-in_one
returns-clause-in_one c some rises =
    run_ends (known_of c.args.world.now) c.as_mut_slice.result.now c.args.rules.now (layout_of c.args.pipelines.now c.args.connections.now) c.args.state
    (c.as_mut_slice.ensures.value ∙ c.rules.view_is) c.run.result c.run.ensures.value some rises
