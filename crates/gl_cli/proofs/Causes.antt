-- Which counts of faults moved.
use Rattle.std.specs.Prelude.{◌≡◌, ◌≤◌, ℕ, Result, Ok, Err, IsErrOf, ⊤}
use Rattle.std.proofs.Common.{refl, ◌∙◌, ap, sym, subst, inl, inr}
use Rattle.gl_base.specs.Counts.{Rose, HasCause}
use Rattle.gl_outside.specs.declared.fault.Outside.{Outside}
use Rattle.gl_outside.specs.declared.fault.Outside.TheVariants as outside
use Rattle.gl_node.specs.declared.fault.NodeFault.{NodeFault}
use Rattle.gl_node.specs.declared.fault.NodeFault.TheVariants as node
use Rattle.gl_node.specs.declared.node.Node.{Node}
use Rattle.gl_node.specs.Calls.{HasNodeCause}
use Rattle.gl_node.specs.Node.{IsRunning}
use Rattle.gl_cli.specs.declared.status.Status.{Status}
use Rattle.gl_cli.specs.declared.status.Status.TheVariants.{SourceFault, SinkFault, DiskFault, OutOfMemory}
use Rattle.gl_cli.specs.Ends.{Counts, HasCauses}
use Rattle.gl_cli.specs.Statuses.{status_of, IsSinkStatus, IsLineStatus, IsRunStatus, source_status_of}
use Rattle.gl_cli.proofs.Exits.{IsOther}

-- a status that tells of no fault
abbrev pub IsNoFault : Status → Type 0
IsNoFault SourceFault = ⊥
IsNoFault SinkFault = ⊥
IsNoFault DiskFault = ⊥
IsNoFault other = ⊤

-- the statuses of the objects that a line touches, by cases
abbrev IsLine : Status → Type 0
IsLine SinkFault = ⊤
IsLine DiskFault = ⊤
IsLine OutOfMemory = ⊤
IsLine other = ⊥

abbrev IsSink : Status → Type 0
IsSink SinkFault = ⊤
IsSink OutOfMemory = ⊤
IsSink other = ⊥

as_line : (status : Status) → IsLineStatus status → IsLine status
as_line status (inl e) = subst IsLine (sym e) tt
as_line status (inr (inl e)) = subst IsLine (sym e) tt
as_line status (inr (inr e)) = subst IsLine (sym e) tt

as_sink : (status : Status) → IsSinkStatus status → IsSink status
as_sink status (inl e) = subst IsSink (sym e) tt
as_sink status (inr e) = subst IsSink (sym e) tt

pub line_other : (status : Status) → IsLineStatus status → IsOther status
line_other status (inl e) = subst IsOther (sym e) tt
line_other status (inr (inl e)) = subst IsOther (sym e) tt
line_other status (inr (inr e)) = subst IsOther (sym e) tt

pub sink_other : (status : Status) → IsSinkStatus status → IsOther status
sink_other status (inl e) = subst IsOther (sym e) tt
sink_other status (inr e) = subst IsOther (sym e) tt

pub line_runs : (status : Status) → IsLineStatus status → IsRunStatus status
line_runs status (inl e) = subst IsRunStatus (sym e) tt
line_runs status (inr (inl e)) = subst IsRunStatus (sym e) tt
line_runs status (inr (inr e)) = subst IsRunStatus (sym e) tt

pub sink_runs : (status : Status) → IsSinkStatus status → IsRunStatus status
sink_runs status (inl e) = subst IsRunStatus (sym e) tt
sink_runs status (inr e) = subst IsRunStatus (sym e) tt

pub source_other : (fault : Outside) (status : Status) → status ≡ source_status_of fault → IsOther status
source_other outside.Failed status e = subst IsOther (sym e) tt
source_other outside.OutOfMemory status e = subst IsOther (sym e) tt

pub source_runs : (fault : Outside) (status : Status) → status ≡ source_status_of fault → IsRunStatus status
source_runs outside.Failed status e = subst IsRunStatus (sym e) tt
source_runs outside.OutOfMemory status e = subst IsRunStatus (sym e) tt

abbrev error_or : {T E : Type 0} → E → Result T E → E
error_or e (Ok x) = e
error_or e (Err f) = f

pub same_error : {T E : Type 0} (e f : E) → IsErrOf {T = T} {E = E} (Err e) f → e ≡ f
same_error {T} {E} e f is = ap (error_or {T = T} {E = E} e) is

-- a call failed whose count stood as before until then
pub cause_on : {T U : Type 0} (failed e : Status) (before mid now : ℕ) → mid ≡ before → HasCause {T = T} failed mid now (Err e) → HasCause {T = U} failed before now (Err e)
cause_on {T} {U} failed e before mid now same cause = record {
  later = subst (λ (n : ℕ). n ≤ now) same cause.later;
  rose = λ is. subst (λ (n : ℕ). Rose n now) same (cause.rose (ap (λ (x : Status). Err x) (same_error {T = U} e failed is)));
  steady = λ other. cause.steady (λ is. other (ap (λ (x : Status). Err x) (same_error {T = T} e failed is))) ∙ same;
}

abbrev IsMemory : Outside → Type 0
IsMemory outside.Failed = ⊥
IsMemory outside.OutOfMemory = ⊤

no_failure : {T : Type 0} → IsErrOf {T = T} {E = Outside} (Err outside.OutOfMemory) outside.Failed → ⊥
no_failure {T} failed = subst IsMemory (same_error {T = T} outside.OutOfMemory outside.Failed failed) tt

abbrev IsSource : Status → Type 0
IsSource SourceFault = ⊤
IsSource other = ⊥

-- nothing moved
pub causes_none : (status : Status) (before now : Counts) → IsNoFault status → now.source ≡ before.source → now.sink ≡ before.sink → now.disk ≡ before.disk → now.shop ≡ before.shop → HasCauses status before now
causes_none status before now none source sink disk shop = record {
  source_rose = λ e. absurd (subst IsNoFault e none);
  sink_rose = λ e. absurd (subst IsNoFault e none);
  disk_rose = λ e. absurd (subst IsNoFault e none);
  source_steady = λ _. source;
  sink_steady = λ _. sink;
  disk_steady = λ _. disk;
  shop_steady = shop;
}

-- the source gave nothing
pub causes_source : {T : Type 0} (fault : Outside) (status : Status) (before now : Counts) (mid : ℕ) → status ≡ source_status_of fault → HasCause {T = T} outside.Failed mid now.source (Err fault)
    → mid ≡ before.source → now.sink ≡ before.sink → now.disk ≡ before.disk → now.shop ≡ before.shop → HasCauses status before now
causes_source outside.Failed status before now mid is cause source sink disk shop = record {
  source_rose = λ e. subst (λ n. Rose n now.source) source (cause.rose refl);
  sink_rose = λ e. absurd (subst IsSource (sym is ∙ e) tt);
  disk_rose = λ e. absurd (subst IsSource (sym is ∙ e) tt);
  source_steady = λ ne. absurd (ne is);
  sink_steady = λ _. sink;
  disk_steady = λ _. disk;
  shop_steady = shop;
}
causes_source {T} outside.OutOfMemory status before now mid is cause source sink disk shop =
    causes_none status before now (subst IsNoFault (sym is) tt) (cause.steady (no_failure {T = T}) ∙ source) sink disk shop

-- a line wasn't answered
pub causes_line : {T : Type 0} (status : Status) (before now : Counts) (sink disk : ℕ) → IsLineStatus status → HasCause {T = T} SinkFault sink now.sink (Err status) → HasCause {T = T} DiskFault disk now.disk (Err status)
    → sink ≡ before.sink → disk ≡ before.disk → now.source ≡ before.source → now.shop ≡ before.shop → HasCauses status before now
causes_line {T} status before now sink disk kind by_sink by_disk same_sink same_disk source shop = record {
  source_rose = λ e. absurd (subst IsLine e (as_line status kind));
  sink_rose = λ e. subst (λ n. Rose n now.sink) same_sink (by_sink.rose (ap (λ (x : Status). Err x) e));
  disk_rose = λ e. subst (λ n. Rose n now.disk) same_disk (by_disk.rose (ap (λ (x : Status). Err x) e));
  source_steady = λ _. source;
  sink_steady = λ ne. by_sink.steady (λ failed. ne (same_error {T = T} status SinkFault failed)) ∙ same_sink;
  disk_steady = λ ne. by_disk.steady (λ failed. ne (same_error {T = T} status DiskFault failed)) ∙ same_disk;
  shop_steady = shop;
}

-- the last line wasn't written
pub causes_sink : {T : Type 0} (status : Status) (before now : Counts) (sink : ℕ) → IsSinkStatus status → HasCause {T = T} SinkFault sink now.sink (Err status)
    → sink ≡ before.sink → now.disk ≡ before.disk → now.source ≡ before.source → now.shop ≡ before.shop → HasCauses status before now
causes_sink {T} status before now sink kind by_sink same_sink disk source shop = record {
  source_rose = λ e. absurd (subst IsSink e (as_sink status kind));
  sink_rose = λ e. subst (λ n. Rose n now.sink) same_sink (by_sink.rose (ap (λ (x : Status). Err x) e));
  disk_rose = λ e. absurd (subst IsSink e (as_sink status kind));
  source_steady = λ _. source;
  sink_steady = λ ne. by_sink.steady (λ failed. ne (same_error {T = T} status SinkFault failed)) ∙ same_sink;
  disk_steady = λ _. disk;
  shop_steady = shop;
}

abbrev IsDisk : Status → Type 0
IsDisk DiskFault = ⊤
IsDisk other = ⊥

abbrev IsNodeDisk : NodeFault → Type 0
IsNodeDisk (node.DiskFault faults) = ⊤
IsNodeDisk other = ⊥

-- a node that was running and doesn't answer: the disk's count moved exactly where the session ends by a disk fault
pub node_cause : {T U : Type 0} (old new : Node) (before now : ℕ) (e : NodeFault) → IsRunning old → HasNodeCause {T = T} old new before now (Err e)
    → HasCause {T = U} DiskFault before now (Err (status_of e))
node_cause {T} {U} old new before now (node.DiskFault faults) running cause = record {
  later = cause.later;
  rose = λ _. (cause.rose faults refl).0;
  steady = λ other. absurd (other refl);
}
node_cause {T} {U} old new before now (node.Stopped faults) running cause = absurd (cause.running running faults refl)
node_cause {T} {U} old new before now node.OutOfMemory running cause = record {
  later = cause.later;
  rose = λ failed. absurd (subst IsDisk (sym (same_error {T = U} OutOfMemory DiskFault failed)) tt);
  steady = λ _. (cause.steady (λ faults failed. subst IsNodeDisk (sym (same_error {T = T} node.OutOfMemory (node.DiskFault faults) failed)) tt)).0;
}
