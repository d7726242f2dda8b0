-- The nodes of a tree, if there is one.
use Rattle.std.specs.Prelude.{◌≡◌, Option, Some, None}
use Rattle.std.specs.declared.vec.Vec.{Vec}
use Rattle.std.specs.declared.alloc.Global.{Global}
use Rattle.gl_query.specs.declared.term.Node.{Node}
use Rattle.gl_query.specs.Tree.{Tree, polish}

abbrev pub Ends : Option (Vec Node Global) → Option Tree → Type 0
Ends None t = t ≡ None
Ends (Some nodes) t = (u : Tree) × (t ≡ Some u) × (nodes.items ≡ polish u)
