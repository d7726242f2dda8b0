-- Of which rows an index of words is.
use Rattle.std.specs.Prelude.{◌≡◌, ℕ, false, List}
use Rattle.gl_indexset.specs.declared.row.Row.{Row}
use Rattle.gl_indexset.specs.Rising.{AreRising}
use Rattle.gl_query.specs.Required.{is_number}
use Rattle.gl_words.specs.declared.postings.Postings.{Postings}
use Rattle.gl_words.specs.Candidates.{holders, positions}
use Rattle.gl_words.specs.Inside.{kept_of}

-- The index of these rows, which rise by position: of each token that isn't digits alone it has, in each field, the positions of the rows in which it stands there.
pub record StandsFor (words : Postings) (rows : List Row) : Type 0 where
  pub rising : AreRising rows
  pub terms : (field token : List ℕ) → is_number token ≡ false → kept_of words field token ≡ positions (holders rows (field, token))
