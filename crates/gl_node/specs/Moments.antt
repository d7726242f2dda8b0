-- What a crash leaves of a store while a node works on it.
use Rattle.std.specs.Prelude.{◌≢◌, ◌≡◌, ◌⊎◌, ℕ, ◌≤◌, List, length, take}
use Rattle.gl_outside.specs.Disk.{Image, DiskState, After}
use Rattle.gl_gatelog.specs.declared.kind.Log.TheVariants.{Journal, Index}
use Rattle.gl_gatelog.specs.Log.{area_of, last_segment}
use Rattle.gl_node.specs.State.{State, Event, state_after}
use Rattle.gl_node.specs.Standing.{StandsFor}

-- no area but those of the two logs has changed
abbrev pub OnlyInLogs : Image → Image → Type 0
OnlyInLogs old new = (b : ℕ) → ((k : ℕ) → k ≤ last_segment Journal → b ≢ area_of Journal k) → ((k : ℕ) → k ≤ last_segment Index → b ≢ area_of Index k) → new b ≡ old b

-- from an image of the disk as it was: the state after some of the first of these events
pub record AfterSome (s : State) (events : List Event) (old new : Image) : Type 0 where
  pub elsewhere : OnlyInLogs old new
  pub count : ℕ
  pub few : count ≤ length events
  pub stands : StandsFor new (state_after s (take count events))

-- what a crash at any moment of a call with these events leaves
abbrev pub LeftBy : State → List Event → DiskState → Image → Type 0
LeftBy s events disk = After disk (AfterSome s events)

-- what a crash leaves at any moment from an opening on: what it might leave before, or the state after some of the first of these events
abbrev pub LeftSince : State → List Event → DiskState → Image → Type 0
LeftSince s events disk c = disk.may_leave c ⊎ LeftBy s events disk c
