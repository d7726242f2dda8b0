-- What the tests' values show: a list of bytes, each an entry of its own, and a commit count.
use Rattle.std.specs.Prelude.{ℕ, List, [], ◌∷◌}
use Rattle.gl_turn.specs.declared.seen.Seen.{Seen}
use Rattle.gl_turn.specs.Views.{blank}

abbrev pub each_alone : List ℕ → List (List ℕ)
each_alone [] = []
each_alone (x ∷ xs) = (x ∷ []) ∷ each_alone xs

abbrev pub pad_seen : List ℕ → ℕ → Seen
pad_seen xs commits = record blank { journal = each_alone xs; commits = commits }
