use Rattle.gl_outside.proofs.CrashImages.{in_words, by_steps}
use Rattle.gl_outside.proofs.laws.law_crash_images.Goals as goal

pub returns : goal.returns
returns c events image lawful = (in_words events image, by_steps events image lawful)
