use Rattle.gl_http.proofs.HeadFields.{found_is, is_found}
use Rattle.gl_http.proofs.exchange.law_head_in.Goals as goal

pub returns : goal.returns
returns c = λ bytes h. (is_found bytes h, found_is bytes h)
