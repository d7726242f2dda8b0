-- Worked rows: what a search finds, and what it looks at.
use Rattle.std.specs.Prelude.{◌≡◌, ℕ, List, [], ◌∷◌, pos, codes, Some, None}
use Rattle.std.proofs.Common.{refl}
use Rattle.gl_fields.specs.declared.value.Value.TheVariants.{Text, Whole}
use Rattle.gl_indexset.specs.declared.row.Row.{Row}
use Rattle.gl_query.specs.declared.term.Term.TheVariants as term
use Rattle.gl_query.specs.Texts.{runs_of, text_tokens}
use Rattle.gl_query.specs.Tree.{Tree, leaf, both, also, none, polish}
use Rattle.gl_moments.specs.Minutes.{minute_of}
use Rattle.gl_pages.specs.declared.ask.Ask.{Ask}
use Rattle.gl_words.specs.Candidates.{candidates_of}
use Rattle.gl_postings.specs.Bound.{most_steps, steps_by_words}
use Rattle.gl_postings.specs.Found.{page_of}

abbrev row_of : (position time stream : ℕ) → List ℕ → Row
row_of position time stream text = record {
  position = position;
  moment = 0;
  streams = stream ∷ [];
  sets = [];
  fields = record { name = codes "message"; value = Text text } ∷ record { name = codes "timestamp"; value = Whole (pos time) } ∷ [];
}

abbrev rows : List Row
rows = row_of 0 9 1 (codes "hay") ∷ row_of 1 5 1 (codes "Hay, needle") ∷ row_of 2 9 2 (codes "hay NEEDLE") ∷ row_of 3 9 1 (codes "hay") ∷ row_of 7 8 1 (codes "hay") ∷ []

abbrev word : List ℕ → Tree
word text = leaf (term.Text (Some (codes "message")) text)

abbrev hay_and_needle : Tree
hay_and_needle = both (also (word (codes "hay")) (also (word (codes "needle")) none))

abbrev ask : Tree → (offset limit : ℕ) → Ask
ask query offset limit = record { query = polish query; chosen = 1 ∷ []; from = 0; to = 10; offset = offset; limit = limit }

page : page_of (ask (word (codes "hay")) 1 2) (word (codes "hay")) rows ≡ record { total = 4; rows = 7 ∷ 0 ∷ [] }
unfolding page_of runs_of text_tokens
page = refl

rarest_term : candidates_of hay_and_needle rows ≡ Some (1 ∷ 2 ∷ [])
unfolding candidates_of runs_of text_tokens
rarest_term = refl

none_required : candidates_of (leaf (term.Text None (codes "needle"))) rows ≡ None
unfolding candidates_of runs_of text_tokens
none_required = refl

few_steps : most_steps (ask hay_and_needle 0 10) hay_and_needle rows ≡ 2
unfolding steps_by_words runs_of text_tokens minute_of
few_steps = refl
