-- Kinds of statuses.
use Rattle.std.specs.Prelude.{◌≡◌, ◌⊎◌, ⊤}
use Rattle.gl_node.specs.declared.fault.NodeFault.{NodeFault}
use Rattle.gl_node.specs.declared.fault.NodeFault.TheVariants as fault
use Rattle.gl_node.specs.declared.fault.OpenFault.{OpenFault}
use Rattle.gl_node.specs.declared.fault.OpenFault.TheVariants as unopened
use Rattle.gl_outside.specs.declared.fault.Outside.{Outside}
use Rattle.gl_outside.specs.declared.fault.Outside.TheVariants as outside
use Rattle.gl_cli.specs.declared.status.Status.{Status}
use Rattle.gl_cli.specs.declared.status.Status.TheVariants.{Usage, SourceFault, SinkFault, DiskFault, Damaged, OutOfMemory, PatternFault}

-- how a session ends whose node doesn't answer; a node that a disk fault has stopped answers nothing any more
abbrev pub status_of : NodeFault → Status
status_of (fault.DiskFault faults) = DiskFault
status_of (fault.Stopped faults) = DiskFault
status_of fault.OutOfMemory = OutOfMemory

-- why a node doesn't answer, why no text is written, and why a line isn't answered
abbrev pub IsNodeStatus : Status → Type 0
IsNodeStatus status = (status ≡ DiskFault) ⊎ (status ≡ OutOfMemory)

abbrev pub IsSinkStatus : Status → Type 0
IsSinkStatus status = (status ≡ SinkFault) ⊎ (status ≡ OutOfMemory)

abbrev pub IsLineStatus : Status → Type 0
IsLineStatus status = (status ≡ SinkFault) ⊎ (status ≡ DiskFault) ⊎ (status ≡ OutOfMemory)

-- the statuses of a script that is run
abbrev pub IsRunStatus : Status → Type 0
IsRunStatus Usage = ⊥
IsRunStatus (Damaged log area at) = ⊥
IsRunStatus PatternFault = ⊥
IsRunStatus other = ⊤

-- how a session ends whose source gives nothing
abbrev pub source_status_of : Outside → Status
source_status_of outside.Failed = SourceFault
source_status_of outside.OutOfMemory = OutOfMemory

-- how a session ends whose store isn't opened
abbrev pub open_status_of : OpenFault → Status
open_status_of (unopened.Damaged log area at) = Damaged log area at
open_status_of unopened.DiskFault = DiskFault
open_status_of unopened.OutOfMemory = OutOfMemory
