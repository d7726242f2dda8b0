-- The tree that the tokens of a text build.
use Rattle.std.specs.Prelude.{◌≡◌, ℕ, List, [], ◌∷◌, map, if◌then◌else◌, Option, Some, None, IsUtf8}
use Rattle.gl_query.specs.declared.term.Node.{Node}
use Rattle.gl_query.specs.declared.term.Term.TheVariants.{All}
use Rattle.gl_query.specs.declared.token.Token.{Token}
use Rattle.gl_query.specs.declared.step.Want.{Want}
use Rattle.gl_query.specs.declared.step.Want.TheVariants.{Operator}
use Rattle.gl_query.specs.Tokens.{tokens_of}
use Rattle.gl_query.specs.Tree.{Tree, leaf, polish}
use Rattle.gl_query.specs.Steps.{step_of}
use Rattle.gl_query.specs.Refusals.{Position, may_end}
use Rattle.gl_query.specs.Building.{Layer, Building, begun, whole, open_before, grown}

abbrev pub position_of : Building → Position
position_of b = record { want = b.want; negations = b.here.negations; outer = open_before b.outer }

abbrev pub and_then : {A B : Type 0} → Option A → (A → Option B) → Option B
and_then None f = None
and_then (Some x) f = f x

unfoldable pub built_from : Building → List Token → Option Building
built_from b [] = Some b
built_from b (t ∷ ts) = and_then (grown (step_of b.want t) b) (λ c. built_from c ts)

-- the tokens without their places
abbrev pub units : List (ℕ × Token) → List Token
units ts = map (λ t. t.1) ts

abbrev pub tree_of : Want → Layer → Tree
tree_of Operator here = whole here
tree_of _ here = leaf All

abbrev pub ended : Building → Option Tree
ended b = if may_end b.want (open_before b.outer) then Some (tree_of b.want b.here) else None

abbrev pub read_tree : List Token → Option Tree
read_tree ts = and_then (built_from begun ts) ended

-- the nodes of a tree that was read from some text
pub record IsRead (nodes : List Node) : Type 0 where
  pub text : List ℕ
  pub utf8 : IsUtf8 text
  pub tree : Tree
  pub read : read_tree (units (tokens_of text)) ≡ Some tree
  pub nodes_are : nodes ≡ polish tree
