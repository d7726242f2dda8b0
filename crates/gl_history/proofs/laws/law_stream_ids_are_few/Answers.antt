use Rattle.gl_history.proofs.Beginning.{few_ids}
use Rattle.gl_history.proofs.laws.law_stream_ids_are_few.Goals as goal

pub returns : goal.returns
returns c = few_ids
