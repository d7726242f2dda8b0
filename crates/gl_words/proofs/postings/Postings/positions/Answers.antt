use Rattle.std.proofs.Common.{◌∙◌}
use Rattle.gl_words.proofs.Finding.{lower}
use Rattle.gl_words.proofs.postings.Postings.positions.Goals as goal

pub returns : goal.returns
returns c = λ rows h plain. c.kept.ensures ∙ h.terms c.args.field.now (lower c.args.token.now) plain
