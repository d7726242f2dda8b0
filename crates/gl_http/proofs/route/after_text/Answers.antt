use Rattle.gl_http.proofs.Stripped.{stripped}
use Rattle.gl_http.proofs.route.after_text.Goals as goal

pub returns : goal.returns
returns c = stripped (λ s. s.now) c.strip_prefix.result c.args.front.now c.args.path.now c.strip_prefix.ensures.cases
