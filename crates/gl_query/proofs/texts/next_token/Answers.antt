use Rattle.std.proofs.Common.{sym, ap, ◌∙◌, arith}
use Rattle.std.proofs.lemmas.List.{drop_all}
use Rattle.gl_query.specs.Texts.{text_tokens}
use Rattle.gl_query.proofs.Texting.{no_tokens}
use Rattle.gl_query.proofs.texts.next_token.Goals as goal

pub returns-then-gap-text : goal.returns-then-gap-text
returns-then-gap-text c =
    sym c.gap_len-gap.ensures.gap ∙ ap text_tokens (drop_all c.gap_len-gap.result c.args.text.now (omega arith)) ∙ no_tokens
