-- What the calls of a node answer, in the words of its definitions.
use Rattle.std.specs.Prelude.{◌≡◌, ◌≢◌, ℕ, ◌<◌, ◌≤◌, List, length, take, Some, Result, IsErrOf, MatchOption, ⊤}
use Rattle.gl_base.specs.Counts.{Rose}
use Rattle.gl_node.specs.declared.mark.Claim.{Claim}
use Rattle.gl_node.specs.declared.work.Range.{Range}
use Rattle.gl_node.specs.declared.answer.Claimed.{Claimed}
use Rattle.gl_node.specs.declared.answer.Claimed.TheVariants as claimed
use Rattle.gl_node.specs.declared.answer.Finished.{Finished}
use Rattle.gl_node.specs.declared.answer.Finished.TheVariants as finished
use Rattle.gl_node.specs.declared.fault.NodeFault.{NodeFault}
use Rattle.gl_node.specs.declared.fault.NodeFault.TheVariants.{DiskFault, Stopped}
use Rattle.gl_node.specs.declared.node.Node.{Node}
use Rattle.gl_node.specs.State.{State, Event, state_after}
use Rattle.gl_node.specs.Claims.{ClaimAnswer, Granted, Nothing, Busy, FinishAnswer, CommittedTo, Kept, NoClaim, IndexFull, range_of, held_by}
use Rattle.gl_node.specs.Node.{IsRunning, IsStoppedAt, stopped_of}

abbrev pub claimed_of : State → ClaimAnswer → Claimed
claimed_of s (Granted mark) = claimed.Range (range_of s mark)
claimed_of s Nothing = claimed.Nothing
claimed_of s (Busy mark) = claimed.Busy mark

abbrev pub finished_of : FinishAnswer → Finished
finished_of (CommittedTo count) = finished.Committed count
finished_of (Kept count) = finished.Kept count
finished_of NoClaim = finished.NoClaim
finished_of (IndexFull bytes limit) = finished.IndexFull bytes limit

-- the work is of the range that the worker holds, or the worker holds none
abbrev pub IsFresh : State → ℕ → Range → Type 0
IsFresh s worker given = MatchOption (held_by s worker) ⊤ (λ claim. given ≡ range_of s claim.mark)

-- the worker holds this claim, and the work isn't of its range
pub record IsStale (s : State) (worker : ℕ) (given : Range) (claim : Claim) : Type 0 where
  pub holds : held_by s worker ≡ Some claim
  pub other : given ≢ range_of s claim.mark

-- some of the first of these events happened, the very first among them where there is one
pub record WentOn (s : State) (events : List Event) (P : State → Type 0) : Type 0 where
  pub count : ℕ
  pub few : count ≤ length events
  pub first : 0 < length events → 0 < count
  pub stands : P (state_after s (take count events))

-- What a call with a disk says of faults: the disk's count never falls; a disk fault comes only where it rose, carries it,
-- and stops the node; nothing else moves the count or stops the node, and only a stopped node answers that it is stopped.
pub record HasNodeCause {T : Type 0} (old new : Node) (before now : ℕ) (result : Result T NodeFault) : Type 0 where
  pub later : before ≤ now
  pub rose : (faults : ℕ) → IsErrOf result (DiskFault faults) → Rose before now × (faults ≡ now) × IsStoppedAt new faults
  pub steady : ((faults : ℕ) → IsErrOf result (DiskFault faults) → ⊥) → (now ≡ before) × (stopped_of new ≡ stopped_of old)
  pub running : IsRunning old → (faults : ℕ) → IsErrOf result (Stopped faults) → ⊥
