-- What stands while ready ranges are committed one after another.
use Rattle.std.specs.Prelude.{◌≡◌, ℕ, List, [], ◌∷◌, ◌++◌, Some}
use Rattle.gl_node.specs.declared.mark.Mark.{Mark}
use Rattle.gl_node.specs.declared.committing.Step.{Step}
use Rattle.gl_node.specs.declared.committing.Step.TheVariants.{Committed, Full}
use Rattle.gl_node.specs.declared.node.Node.{Node}
use Rattle.gl_node.specs.State.{State, Event, Committed as Happened, happened, state_after}
use Rattle.gl_node.specs.Claims.{next_ready, commits, index_size}
use Rattle.gl_node.specs.Node.{Keeps}

-- the next ready range is committed, and the others are ready and fit as before
pub record WasCommitted (s : State) (node : Node) : Type 0 where
  pub mark : Mark
  pub rest : commits s ≡ Happened mark ∷ commits (happened s (Happened mark))
  pub keeps : Keeps node (happened s (Happened mark))

-- the next ready range doesn't fit, and waits
pub record DidNotFit (s : State) (node : Node) (bytes limit : ℕ) : Type 0 where
  pub mark : Mark
  pub ready : next_ready s ≡ Some mark
  pub rest : commits s ≡ []
  pub bytes_are : bytes ≡ index_size s
  pub limit_is : limit ≡ s.base.index_limit
  pub keeps : Keeps node s

abbrev pub IsStep : State → Node → Step → Type 0
IsStep s node Committed = WasCommitted s node
IsStep s node (Full bytes limit) = DidNotFit s node bytes limit

-- these are the first of the ready ranges that fit, and the rest are ready and fit after them
pub record CommittedSome (s : State) (node : Node) : Type 0 where
  pub done : List Event
  pub rest : commits s ≡ done ++ commits (state_after s done)
  pub keeps : Keeps node (state_after s done)
