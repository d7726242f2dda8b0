-- What a crash leaves of a session that has ended.
use Rattle.std.specs.Prelude.{◌≡◌, ◌⊎◌, ℕ, ◌+◌, ◌≤◌, List, [], ◌∷◌, ◌++◌, length, take, drop, Option, IfSome}
use Rattle.std.specs.Io.KnownBytes.{Appends}
use Rattle.gl_outside.specs.Disk.{DiskState, Image, IsUnchanged}
use Rattle.gl_node.specs.State.{Base, opened, state_after}
use Rattle.gl_node.specs.Standing.{StandsFor}
use Rattle.gl_cli.specs.declared.status.Command.{Command}
use Rattle.gl_cli.specs.declared.status.Command.TheVariants as asked
use Rattle.gl_cli.specs.Writing.{BeginsWith}
use Rattle.gl_cli.specs.Runs.{Turn, script_turns, last_state, turn_events, turn_text, all_events, all_text, done_text}

-- what the next of these lines gives, and what is written next: its answer lines, and behind all lines the last line of the session
abbrev pub next_turn : List Turn → Turn
next_turn [] = []
next_turn (turn ∷ turns) = turn

abbrev pub next_text : List ℕ → List Turn → List ℕ
next_text at_end [] = at_end
next_text at_end (turn ∷ turns) = turn_text turn

-- how many of a turn's events a front of its text tells: those of each answer line that has a byte in it
abbrev pub told_events : Turn → List ℕ → ℕ
told_events [] front = 0
told_events (step ∷ turn) [] = 0
told_events (step ∷ turn) (b ∷ front) = length step.events + told_events turn (drop (length step.text) (b ∷ front))

-- At an exit some lines were answered, and of the next line a front of its answer lines is in the sink. The image stands for the
-- state after the events of the answered lines and some of the first of the next one: all those of each answer line that
-- has a byte in the sink. So it holds each event whose answer has a byte in the sink, and none of a later line.
pub record ShownAt (base : Base) (script : List ℕ) (before after : Option (List ℕ)) (image : Image) : Type 0 where
  pub answered : List Turn
  pub ahead : List Turn
  pub all : script_turns base [] script ≡ answered ++ ahead
  pub written : List ℕ
  pub gained : Appends before after (all_text answered ++ written)
  pub begins : BeginsWith (next_text (done_text (last_state base (script_turns base [] script))) ahead) written
  pub count : ℕ
  pub few : count ≤ length (turn_events (next_turn ahead))
  pub told : told_events (next_turn ahead) written ≤ count
  pub stands : StandsFor image (state_after (opened base) (all_events answered ++ take count (turn_events (next_turn ahead))))

-- the disk is as it was, and nothing was written
abbrev pub IsUntouched : DiskState → DiskState → Option (List ℕ) → Option (List ℕ) → Type 0
IsUntouched old new before after = IsUnchanged old new × Appends before after []

-- How a disk shows a command that has ended, from an opening with this base on: it was left untouched, or each image that a crash
-- may leave shows it; what `check` looked at stands as it was.
abbrev pub ExitShows : Command → Base → Option (List ℕ) → Option (List ℕ) → Option (List ℕ) → DiskState → DiskState → Type 0
ExitShows (asked.Session store options) base left before after old new =
    IfSome left (λ script. IsUntouched old new before after ⊎ ((image : Image) → new.may_leave image → ShownAt base script before after image))
ExitShows (asked.Check store options) base left before after old new =
    IsUntouched old new before after ⊎ ((image : Image) → new.may_leave image → StandsFor image (opened base))
ExitShows asked.Usage base left before after old new = IsUntouched old new before after
