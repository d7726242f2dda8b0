use Rattle.std.proofs.Common.{sym, ap, ◌∙◌, ◌∷◌}
use Rattle.gl_cli.specs.Script.{end_line, words_of}
use Rattle.gl_cli.specs.Parsing.{rest_words}
use Rattle.gl_cli.proofs.Words.{end_line-more, words_of-some}
use Rattle.gl_cli.proofs.parse.end_line_of.Goals as goal

pub returns-in-Some : goal.returns-in-Some
returns-in-Some c =
    end_line-more c.args.input.now c.split_word.result.0.now (words_of c.in-Some.field-0.now) (words_of-some c.in-Some.field-0.now)
    ∙ ap (λ ws. end_line (c.args.input.now ∷ ws)) (sym (c.split_word.ensures ∙ ap (λ r. c.split_word.result.0.now ∷ rest_words r) c.in-Some.is))
