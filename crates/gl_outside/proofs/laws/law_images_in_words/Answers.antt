use Rattle.gl_outside.proofs.InWords.{said, meant}
use Rattle.gl_outside.proofs.laws.law_images_in_words.Goals as goal

pub returns : goal.returns
returns c events image lawful = (said events image lawful, meant events image lawful)
