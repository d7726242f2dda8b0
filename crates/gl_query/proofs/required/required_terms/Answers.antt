use Rattle.std.proofs.Common.{ap}
use Rattle.gl_query.specs.Required.{terms_of}
use Rattle.gl_query.proofs.Gathering.{whole}
use Rattle.gl_query.proofs.required.required_terms.Goals as goal

pub returns : goal.returns
returns c = λ t e. whole (terms_of c.new-terms.result.items) (terms_of c.gather.new.out.items) _ c.args.nodes.now (ap terms_of c.new-terms.ensures.items) c.in_ok-gather.ensures.terms t e
