use Rattle.gl_rulelang.proofs.Forms.{form_is_read}
use Rattle.gl_rulelang.proofs.laws.law_forms_are_read.Goals as goal

pub returns : goal.returns
returns c = form_is_read
