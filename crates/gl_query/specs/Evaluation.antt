-- What an evaluation of a front of some nodes gives.
use Rattle.std.specs.Prelude.{◌≡◌, Bool, List, ◌++◌}
use Rattle.gl_fields.specs.declared.field.Field.{Field}
use Rattle.gl_query.specs.declared.term.Node.{Node}
use Rattle.gl_query.specs.Tree.{Tree, polish}
use Rattle.gl_query.specs.Matching.{holds}

-- whether the tree at the front holds, and what is left behind it
abbrev pub Gives : List Field → Bool → List Node → List Node → Type 0
Gives fields result left nodes = (t : Tree) (rest : List Node) → nodes ≡ polish t ++ rest → (result ≡ holds t fields) × (left ≡ rest)
