-- How a command ends: its status, what the sink gained, and which counts of faults moved.
use Rattle.std.specs.Prelude.{◌≡◌, ◌≢◌, ◌⊎◌, ℕ, Bool, true, false, List, [], ◌∷◌, length, nat_lt, Option, Some, None, IfSome, ⊤, codes}
use Rattle.std.specs.Fmt.{decimal}
use Rattle.std.specs.Io.KnownBytes.{Appends}
use Rattle.gl_base.specs.Counts.{Rose}
use Rattle.gl_gatelog.specs.declared.kind.Log.{Log}
use Rattle.gl_fields.specs.Entries.{version_after}
use Rattle.gl_node.specs.State.{Base, Event, State, commit_count, opened}
use Rattle.gl_cli.specs.declared.status.Command.{Command}
use Rattle.gl_cli.specs.declared.status.Command.TheVariants as asked
use Rattle.gl_cli.specs.declared.status.Status.{Status}
use Rattle.gl_cli.specs.declared.status.Status.TheVariants.{Done, Usage, SourceFault, SinkFault, DiskFault, BadScript, Damaged, OutOfMemory, PatternFault, ScriptTooLong}
use Rattle.gl_cli.specs.Writing.{BeginsWith}
use Rattle.gl_cli.specs.Script.{script_lines, script_limit, bad_line}
use Rattle.gl_cli.specs.Answers.{words_text}
use Rattle.gl_cli.specs.Runs.{all_events, script_turns, answers, output}

abbrev pub status_by : Option ℕ → Bool → Status
status_by (Some line) long = BadScript line
status_by None true = ScriptTooLong
status_by None false = Done

-- the status of a session over this script, where nothing else ends it: the first bad line, then the length, decide
abbrev pub script_status : List ℕ → Status
script_status script = status_by (bad_line (script_lines script)) (nat_lt script_limit (length script))

-- a status that speaks of the script is the script's; any other may come whatever the script is
abbrev pub EndsBy : List ℕ → Status → Type 0
EndsBy script Done = script_status script ≡ Done
EndsBy script (BadScript line) = script_status script ≡ BadScript line
EndsBy script ScriptTooLong = script_status script ≡ ScriptTooLong
EndsBy script other = ⊤

-- the statuses of `check`, which reads no script
abbrev pub IsCheckStatus : Status → Type 0
IsCheckStatus Done = ⊤
IsCheckStatus SinkFault = ⊤
IsCheckStatus DiskFault = ⊤
IsCheckStatus (Damaged log area at) = ⊤
IsCheckStatus OutOfMemory = ⊤
IsCheckStatus other = ⊥

-- the statuses with which a command may end; no line builds a pattern yet
abbrev pub MayEnd : Command → Status → Type 0
MayEnd asked.Usage status = status ≡ Usage
MayEnd (asked.Session store options) status = (status ≢ Usage) × (status ≢ PatternFault)
MayEnd (asked.Check store options) status = IsCheckStatus status

-- the statuses with which each line that is run was answered
abbrev pub AnsweredAll : Status → Type 0
AnsweredAll Done = ⊤
AnsweredAll (BadScript line) = ⊤
AnsweredAll ScriptTooLong = ⊤
AnsweredAll other = ⊥

-- What the sink gained: with `Done` the whole output; where the script ends the run, the answers of the lines that are
-- run; and else a front of the output.
abbrev pub Wrote : Base → List Bool → List ℕ → Status → List ℕ → Type 0
Wrote base marks script Done written = written ≡ output base marks script
Wrote base marks script (BadScript line) written = written ≡ answers base marks script
Wrote base marks script ScriptTooLong written = written ≡ answers base marks script
Wrote base marks script other written = BeginsWith (output base marks script) written

pub record SessionEnd (base : Base) (script : List ℕ) (status : Status) (before after : Option (List ℕ)) : Type 0 where
  -- the lines whose pattern the shop refused: none yet
  pub marks : List Bool
  pub none_refused : marks ≡ []
  -- what the sink gained
  pub written : List ℕ
  pub gained : Appends before after written
  pub wrote : Wrote base marks script status written

-- the line of `check`: how many entries the journal has, how many are committed, and the version of the configuration
abbrev pub check_text : State → List ℕ
check_text s = words_text (codes "check" ∷ codes "journal" ∷ decimal (length s.journal) ∷ codes "committed" ∷ decimal (commit_count s) ∷ codes "version" ∷ decimal (version_after s.journal) ∷ [])

-- what `check` wrote: with `Done` its line, and else a front of it
abbrev pub WroteLine : State → Status → List ℕ → Type 0
WroteLine s Done written = written ≡ check_text s
WroteLine s other written = BeginsWith (check_text s) written

pub record CheckEnd (base : Base) (status : Status) (before after : Option (List ℕ)) : Type 0 where
  pub written : List ℕ
  pub gained : Appends before after written
  pub wrote : WroteLine (opened base) status written

-- How a command ends that opened its store with this base, over a source with these bytes left, where that is told.
abbrev pub CommandEnd : Command → Base → Option (List ℕ) → Status → Option (List ℕ) → Option (List ℕ) → Type 0
CommandEnd (asked.Session store options) base left status before after = IfSome left (λ script. SessionEnd base script status before after)
CommandEnd (asked.Check store options) base left status before after = CheckEnd base status before after
CommandEnd asked.Usage base left status before after = ⊤

-- the events of a command: those of its script, where the source tells it
abbrev pub OfEvents : Command → Base → Option (List ℕ) → (List Event → Type 0) → Type 0
OfEvents (asked.Session store options) base left P = IfSome left (λ script. P (all_events (script_turns base [] script)))
OfEvents (asked.Check store options) base left P = P []
OfEvents asked.Usage base left P = ⊤

-- a damaged store: the command says so, unless the disk failed or memory was wanting
abbrev pub SaysDamaged : Status → Log → ℕ → ℕ → Type 0
SaysDamaged status log area at = (status ≡ Damaged log area at) ⊎ (status ≡ DiskFault) ⊎ (status ≡ OutOfMemory)

-- the counts of faults of the objects that a command was handed
pub record Counts : Type 0 where
  pub source : ℕ
  pub sink : ℕ
  pub disk : ℕ
  pub shop : ℕ

-- A fault is told exactly where the count of its object moved: the first fault ends the run, and is told as what it is.
pub record HasCauses (status : Status) (before after : Counts) : Type 0 where
  pub source_rose : status ≡ SourceFault → Rose before.source after.source
  pub sink_rose : status ≡ SinkFault → Rose before.sink after.sink
  pub disk_rose : status ≡ DiskFault → Rose before.disk after.disk
  pub source_steady : status ≢ SourceFault → after.source ≡ before.source
  pub sink_steady : status ≢ SinkFault → after.sink ≡ before.sink
  pub disk_steady : status ≢ DiskFault → after.disk ≡ before.disk
  pub shop_steady : after.shop ≡ before.shop
