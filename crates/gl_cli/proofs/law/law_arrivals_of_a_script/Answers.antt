use Rattle.gl_cli.proofs.Arrivals.{journal_law, lines_law, workers_law}
use Rattle.gl_cli.proofs.law.law_arrivals_of_a_script.Goals as goal

pub returns : goal.returns
returns c = record { journal = journal_law; lines = lines_law; processors = workers_law }
