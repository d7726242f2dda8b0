use Rattle.gl_grok.proofs.Alike.{put-met, put-answer, known_of-ok}
use Rattle.gl_grok.proofs.laws.law_other_names_play_no_part.Goals as goal

pub returns-clause-met : goal.returns-clause-met
returns-clause-met c = put-met

pub returns-clause-answer : goal.returns-clause-answer
returns-clause-answer c = put-answer

pub returns-clause-known : goal.returns-clause-known
returns-clause-known c = known_of-ok
