-- A number changes nothing; a word is one more to choose from.
use Rattle.std.proofs.Common.{sym, ap, ◌∙◌, Some}
use Rattle.gl_covers.specs.Covers.{looked_in, token_in}
use Rattle.gl_covers.specs.Suspects.{found_by}
use Rattle.gl_covers.proofs.Texting.{lower, lower_number, number_passed, word_taken}
use Rattle.gl_covers.proofs.texts.narrowed.Goals as goal

pub returns-then-is_number : goal.returns-then-is_number
returns-then-is_number c = λ rows so_far stands is.
    is ∙ sym (ap (found_by rows) (number_passed rows so_far (looked_in c.args.field.now) c.args.token.now (sym c.is_number.ensures ∙ c.if-is_number.true)))

pub of_token-requires : goal.of_token-requires
of_token-requires c = lower_number c.args.token.now ∙ sym c.is_number.ensures ∙ c.if-is_number.false

pub returns : goal.returns
returns c = λ rows so_far stands is.
    c.narrower.ensures rows so_far (Some (token_in (looked_in c.args.field.now) (lower c.args.token.now))) is (ap Some (c.in_ok-next.ensures rows stands))
    ∙ sym (ap (found_by rows) (word_taken rows so_far (looked_in c.args.field.now) c.args.token.now (sym c.is_number.ensures ∙ c.if-is_number.false)))
