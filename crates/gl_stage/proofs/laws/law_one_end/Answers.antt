use Rattle.gl_stage.proofs.Ending.{runs_to_end, no_other_end}
use Rattle.gl_stage.proofs.Staying.{end_is_lawful}
use Rattle.gl_stage.proofs.laws.law_one_end.Goals as goal

pub returns : goal.returns
returns c scene layout message = record {
  reached = runs_to_end scene layout message;
  only = no_other_end scene layout message;
  lawful = end_is_lawful scene layout message;
}
