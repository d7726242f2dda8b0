use Rattle.gl_chunks.proofs.Answering.{answers_are, some_answers}
use Rattle.gl_chunks.proofs.laws.law_chunk_answers.Goals as goal

pub returns : goal.returns
returns c = record { answer = answers_are; some = some_answers }
