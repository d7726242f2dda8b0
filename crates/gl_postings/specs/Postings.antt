-- Of which rows what finds them is: the words of these rows, and their minutes.
use Rattle.std.specs.Prelude.{List}
use Rattle.gl_indexset.specs.declared.row.Row.{Row}
use Rattle.gl_indexset.specs.Rising.{AreRising}
use Rattle.gl_words.specs.Words as kept_words
use Rattle.gl_moments.specs.Moments as kept_moments
use Rattle.gl_postings.specs.declared.postings.Postings.{Postings}

pub record StandsFor (postings : Postings) (rows : List Row) : Type 0 where
  pub rising : AreRising rows
  pub words : kept_words.StandsFor postings.words rows
  pub moments : kept_moments.StandsFor postings.moments rows
