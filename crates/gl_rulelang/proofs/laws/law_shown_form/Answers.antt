use Rattle.gl_rulelang.proofs.Shown.{shown_is_read}
use Rattle.gl_rulelang.proofs.laws.law_shown_form.Goals as goal

pub returns : goal.returns
returns c = shown_is_read
