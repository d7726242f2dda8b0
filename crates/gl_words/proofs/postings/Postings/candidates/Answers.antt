use Rattle.std.proofs.Common.{ap, ◌∙◌, map, List, ℕ}
use Rattle.std.specs.List.{reduce}
use Rattle.gl_words.specs.Inside.{kept_in}
use Rattle.gl_words.specs.Texts.{shorter}
use Rattle.gl_words.proofs.Choosing.{chosen}
use Rattle.gl_words.proofs.Finding.{lower}
use Rattle.gl_words.proofs.postings.Postings.candidates.Goals as goal

pub returns : goal.returns
returns c = λ rows h t is.
    c.fewest.ensures
    ∙ ap (λ (terms : List (List ℕ × List ℕ)). reduce shorter (map (λ (term : List ℕ × List ℕ). kept_in c.args.self.now.words term.0 (lower term.1)) terms)) (c.required.ensures t is)
    ∙ chosen rows (kept_in c.args.self.now.words) (record { rising = h.rising; terms = h.terms }) t
