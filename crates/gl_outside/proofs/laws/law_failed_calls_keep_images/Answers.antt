use Rattle.gl_outside.proofs.Told.{write_keeps, cut_keeps}
use Rattle.gl_outside.proofs.laws.law_failed_calls_keep_images.Goals as goal

pub returns : goal.returns
returns c = record {
  write = λ events c area at bytes done. write_keeps area at bytes done events c;
  cut = λ events c area length done. cut_keeps area length done events c;
}
