-- A store that isn't opened, and a store that is.
use Rattle.std.specs.Prelude.{◌≡◌, ◌≢◌, ◌⊎◌, ℕ, Bool, true, false, List, [], ◌∷◌, Option, Some, None, IfSome, Err, IsErrOf, ⊤, if◌then◌else◌, codes}
use Rattle.std.specs.Str.{bytes_eq}
use Rattle.std.specs.Io.KnownBytes.{Keeps}
use Rattle.std.proofs.Common.{refl, ◌∙◌, ap, sym, subst, arith, inl, inr}
use Rattle.gl_base.specs.Counts.{HasCause}
use Rattle.gl_gatelog.specs.declared.kind.Log.{Log}
use Rattle.gl_node.specs.declared.fault.OpenFault.{OpenFault}
use Rattle.gl_node.specs.declared.fault.OpenFault.TheVariants as unopened
use Rattle.gl_node.specs.declared.node.Options.{Options}
use Rattle.gl_node.specs.Standing.{AreOptions}
use Rattle.gl_node.specs.State.{Base}
use Rattle.gl_cli.specs.declared.status.Command.{Command}
use Rattle.gl_cli.specs.declared.status.Command.TheVariants as asked
use Rattle.gl_cli.specs.declared.status.Status.{Status}
use Rattle.gl_cli.specs.declared.status.Status.TheVariants.{Done, Usage, DiskFault, Damaged, OutOfMemory, PatternFault}
use Rattle.gl_cli.specs.Ends.{Counts, HasCauses, IsCheckStatus, MayEnd, SaysDamaged, SessionEnd}
use Rattle.gl_cli.specs.Runs.{output}
use Rattle.gl_cli.specs.Statuses.{IsRunStatus, open_status_of}
use Rattle.gl_cli.specs.Words.{command_for, command_on, default_options, is_store}
use Rattle.gl_cli.proofs.Sinks.{Appends-nothing}
use Rattle.gl_cli.proofs.Exits.{IsOther, Wrote-other}
use Rattle.gl_cli.proofs.Causes.{causes_none, same_error, IsNoFault}

-- nothing was written
pub ends_unread : (base : Base) (script : List ℕ) (sink : Option (List ℕ)) (status : Status) → IsOther status → SessionEnd base script status sink sink
ends_unread base script sink status other = record {
  marks = [];
  none_refused = refl;
  written = [];
  gained = Appends-nothing sink;
  wrote = Wrote-other base [] script status [] other (output base [] script, refl);
}

pub IfSome-any : {X : Type 0} (o : Option X) {P : X → Type 0} → ((x : X) → P x) → IfSome o P
IfSome-any None f = tt
IfSome-any (Some x) f = f x

pub Keeps-same : (known : Option (List ℕ)) → Keeps known known
Keeps-same None = tt
Keeps-same (Some bytes) = refl

-- ---- the status of a store that isn't opened

pub open_other : (fault : OpenFault) (status : Status) → status ≡ open_status_of fault → IsOther status
open_other (unopened.Damaged log area at) status e = subst IsOther (sym e) tt
open_other unopened.DiskFault status e = subst IsOther (sym e) tt
open_other unopened.OutOfMemory status e = subst IsOther (sym e) tt

-- a command that runs a session ends so
abbrev IsSessionStatus : Status → Type 0
IsSessionStatus Usage = ⊥
IsSessionStatus PatternFault = ⊥
IsSessionStatus other = ⊤

not_these : (status : Status) → IsSessionStatus status → (status ≢ Usage) × (status ≢ PatternFault)
not_these status is = ((λ e. subst IsSessionStatus e is), (λ e. subst IsSessionStatus e is))

pub open_statuses : (fault : OpenFault) (status : Status) → status ≡ open_status_of fault → (status ≢ Usage) × (status ≢ PatternFault)
open_statuses (unopened.Damaged log area at) status e = not_these status (subst IsSessionStatus (sym e) tt)
open_statuses unopened.DiskFault status e = not_these status (subst IsSessionStatus (sym e) tt)
open_statuses unopened.OutOfMemory status e = not_these status (subst IsSessionStatus (sym e) tt)

pub open_checks : (fault : OpenFault) (status : Status) → status ≡ open_status_of fault → IsCheckStatus status
open_checks (unopened.Damaged log area at) status e = subst IsCheckStatus (sym e) tt
open_checks unopened.DiskFault status e = subst IsCheckStatus (sym e) tt
open_checks unopened.OutOfMemory status e = subst IsCheckStatus (sym e) tt

pub run_statuses : (status : Status) → IsRunStatus status → (status ≢ Usage) × (status ≢ PatternFault)
run_statuses status runs = ((λ e. subst IsRunStatus e runs), (λ e. subst IsRunStatus e runs))

pub runs_undamaged : (status : Status) (log : Log) (area at : ℕ) → IsRunStatus status → status ≡ Damaged log area at → ⊥
runs_undamaged status log area at runs e = subst IsRunStatus e runs

pub other_undone : (status : Status) → IsOther status → status ≡ Done → ⊥
other_undone status other e = subst IsOther e other

abbrev fault_in : Status → OpenFault
fault_in (Damaged log area at) = unopened.Damaged log area at
fault_in other = unopened.OutOfMemory

IsDamage : Status → Type 0
IsDamage (Damaged log area at) = ⊤
IsDamage other = ⊥

pub damaged_by : (fault : OpenFault) (status : Status) (log : Log) (area at : ℕ) → status ≡ open_status_of fault → status ≡ Damaged log area at → fault ≡ unopened.Damaged log area at
unfolding IsDamage
damaged_by (unopened.Damaged other b k) status log area at e is = ap fault_in (sym e ∙ is)
damaged_by unopened.DiskFault status log area at e is = absurd (subst IsDamage (sym is ∙ e) tt)
damaged_by unopened.OutOfMemory status log area at e is = absurd (subst IsDamage (sym is ∙ e) tt)

pub says_damaged : (fault : OpenFault) (status : Status) (log : Log) (area at : ℕ) → status ≡ open_status_of fault
    → (fault ≡ unopened.Damaged log area at) ⊎ (fault ≡ unopened.DiskFault) ⊎ (fault ≡ unopened.OutOfMemory) → SaysDamaged status log area at
says_damaged fault status log area at e (inl is) = inl (e ∙ ap open_status_of is)
says_damaged fault status log area at e (inr (inl is)) = inr (inl (e ∙ ap open_status_of is))
says_damaged fault status log area at e (inr (inr is)) = inr (inr (e ∙ ap open_status_of is))

IsDiskFault : OpenFault → Type 0
IsDiskFault unopened.DiskFault = ⊤
IsDiskFault other = ⊥

no_disk_fault : {T : Type 0} (fault : OpenFault) → (IsDiskFault fault → ⊥) → IsErrOf {T = T} {E = OpenFault} (Err fault) unopened.DiskFault → ⊥
unfolding IsDiskFault
no_disk_fault {T} fault ne failed = ne (subst IsDiskFault (sym (same_error {T = T} fault unopened.DiskFault failed)) tt)

abbrev IsDisk : Status → Type 0
IsDisk DiskFault = ⊤
IsDisk other = ⊥

pub causes_open : {T : Type 0} (fault : OpenFault) (status : Status) (before now : Counts) → status ≡ open_status_of fault → HasCause {T = T} unopened.DiskFault before.disk now.disk (Err fault)
    → now.source ≡ before.source → now.sink ≡ before.sink → now.shop ≡ before.shop → HasCauses status before now
unfolding IsDiskFault
causes_open {T} (unopened.Damaged log area at) status before now e cause source sink shop =
    causes_none status before now (subst IsNoFault (sym e) tt) source sink (cause.steady (no_disk_fault {T = T} (unopened.Damaged log area at) (λ x. x))) shop
causes_open {T} unopened.DiskFault status before now e cause source sink shop = record {
  source_rose = λ f. absurd (subst IsDisk (sym e ∙ f) tt);
  sink_rose = λ f. absurd (subst IsDisk (sym e ∙ f) tt);
  disk_rose = λ f. cause.rose refl;
  source_steady = λ _. source;
  sink_steady = λ _. sink;
  disk_steady = λ ne. absurd (ne e);
  shop_steady = shop;
}
causes_open {T} unopened.OutOfMemory status before now e cause source sink shop =
    causes_none status before now (subst IsNoFault (sym e) tt) source sink (cause.steady (no_disk_fault {T = T} unopened.OutOfMemory (λ x. x))) shop

-- ---- the command

abbrev LawfulOptions : Command → Type 0
LawfulOptions (asked.Session store options) = AreOptions options
LawfulOptions (asked.Check store options) = AreOptions options
LawfulOptions asked.Usage = ⊤

lawful_default : AreOptions default_options
lawful_default = record {
  segment_least = omega arith;
  segment_most = omega arith;
  journal_least = omega arith;
  journal_most = omega arith;
  index_least = omega arith;
  index_most = omega arith;
}

on_word : (session check : Bool) (store : List ℕ)
    → LawfulOptions (if session then asked.Session store default_options else (if check then asked.Check store default_options else asked.Usage))
on_word true check store = lawful_default
on_word false true store = lawful_default
on_word false false store = tt

on_store : (b : Bool) (word store : List ℕ) → LawfulOptions (if b then command_on word store else asked.Usage)
on_store true word store = on_word (bytes_eq word (codes "session")) (bytes_eq word (codes "check")) store
on_store false word store = tt

lawful_options : (words : List (List ℕ)) → LawfulOptions (command_for words)
lawful_options [] = tt
lawful_options (word ∷ []) = tt
lawful_options (word ∷ store ∷ []) = on_store (is_store store) word store
lawful_options (word ∷ store ∷ next ∷ words) = tt

pub session_options : (words : List (List ℕ)) (store : List ℕ) (options : Options) → asked.Session store options ≡ command_for words → AreOptions options
session_options words store options e = subst LawfulOptions (sym e) (lawful_options words)

pub check_options : (words : List (List ℕ)) (store : List ℕ) (options : Options) → asked.Check store options ≡ command_for words → AreOptions options
check_options words store options e = subst LawfulOptions (sym e) (lawful_options words)

-- which command it is
abbrev pub IsSession : Command → Type 0
IsSession (asked.Session store options) = ⊤
IsSession other = ⊥

abbrev pub IsCheck : Command → Type 0
IsCheck (asked.Check store options) = ⊤
IsCheck other = ⊥

pub no_usage : (store : List ℕ) (options : Options) (command : Command) → asked.Session store options ≡ command → command ≡ asked.Usage → ⊥
no_usage store options command e f = subst IsSession (e ∙ f) tt

pub no_check : (store store' : List ℕ) (options options' : Options) (command : Command) → asked.Session store options ≡ command → command ≡ asked.Check store' options' → ⊥
no_check store store' options options' command e f = subst IsSession (e ∙ f) tt

pub check_no_usage : (store : List ℕ) (options : Options) (command : Command) → asked.Check store options ≡ command → command ≡ asked.Usage → ⊥
check_no_usage store options command e f = subst IsCheck (e ∙ f) tt

pub check_no_session : (store store' : List ℕ) (options options' : Options) (command : Command) → asked.Check store options ≡ command → command ≡ asked.Session store' options' → ⊥
check_no_session store store' options options' command e f = subst IsCheck (e ∙ f) tt

-- a command ends with a status that may come
pub may_end : (store : List ℕ) (options : Options) (command : Command) (status : Status) → asked.Session store options ≡ command → (status ≢ Usage) × (status ≢ PatternFault) → MayEnd command status
may_end store options command status e these = subst (λ (x : Command). MayEnd x status) e these

pub may_end_check : (store : List ℕ) (options : Options) (command : Command) (status : Status) → asked.Check store options ≡ command → IsCheckStatus status → MayEnd command status
may_end_check store options command status e is = subst (λ (x : Command). MayEnd x status) e is

pub may_end_memory : (command : Command) → (command ≡ asked.Usage → ⊥) → MayEnd command OutOfMemory
may_end_memory asked.Usage ne = absurd (ne refl)
may_end_memory (asked.Session store options) ne = not_these OutOfMemory tt
may_end_memory (asked.Check store options) ne = tt

-- the shop isn't touched
pub with_shop : (status : Status) (source source' sink sink' disk disk' shop : ℕ)
    → HasCauses status (record { source = source; sink = sink; disk = disk; shop = 0 }) (record { source = source'; sink = sink'; disk = disk'; shop = 0 })
    → HasCauses status (record { source = source; sink = sink; disk = disk; shop = shop }) (record { source = source'; sink = sink'; disk = disk'; shop = shop })
with_shop status source source' sink sink' disk disk' shop causes = record {
  source_rose = causes.source_rose;
  sink_rose = causes.sink_rose;
  disk_rose = causes.disk_rose;
  source_steady = causes.source_steady;
  sink_steady = causes.sink_steady;
  disk_steady = causes.disk_steady;
  shop_steady = refl;
}
