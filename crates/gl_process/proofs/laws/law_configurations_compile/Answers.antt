use Rattle.gl_process.proofs.Compilable.{begins, stays, always}
use Rattle.gl_process.proofs.laws.law_configurations_compile.Goals as goal

pub returns-clause-begins : goal.returns-clause-begins
returns-clause-begins c = begins

pub returns-clause-stays : goal.returns-clause-stays
returns-clause-stays c = stays c.law_other_names_play_no_part.ensures.answer c.law_other_names_play_no_part.ensures.known

pub returns-clause-always : goal.returns-clause-always
returns-clause-always c = always c.law_other_names_play_no_part.ensures.answer c.law_other_names_play_no_part.ensures.known
