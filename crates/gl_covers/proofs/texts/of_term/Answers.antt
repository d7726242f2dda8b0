-- A word or a phrase.
use Rattle.std.proofs.Common.{◌≡◌, ℕ, List, Option, sym, subst}
use Rattle.std.specs.Result.{IfOk}
use Rattle.gl_query.specs.declared.term.Term.{Term}
use Rattle.gl_query.specs.Required.{lower_tokens}
use Rattle.gl_covers.specs.Covers.{looked_in, term_cover, text_cover}
use Rattle.gl_covers.specs.Suspects.{found_by}
use Rattle.gl_covers.proofs.texts.of_term.Goals as goal

pub returns-in-Text : goal.returns-in-Text
returns-in-Text c = λ rows stands.
    subst (λ (term : Term). IfOk c.of_text.result (λ found. found ≡ found_by rows (term_cover rows term))) (sym c.in-Text.is)
    (subst (λ (text : List ℕ). IfOk c.of_text.result (λ found. found ≡ found_by rows (text_cover rows (looked_in c.in-Text.field) (lower_tokens text)))) c.as_slice.ensures (c.of_text.ensures rows stands))
