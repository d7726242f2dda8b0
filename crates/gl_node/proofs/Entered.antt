-- One entry more in the journal's log: what its answer says of a state, and that both logs still stand on the disk.
use Rattle.std.proofs.Common.{◌≡◌, ◌≢◌, ◌⊎◌, ⊎_elim, ℕ, ◌+◌, ◌<◌, ◌≤◌, ◌^◌, Bool, true, false, if◌then◌else◌, nat_lt, List, [], ◌∷◌, ◌++◌, length, map, refl, sym, ◌∙◌, ap, subst, arith, Option, Some, None, Vec, Result, Ok, Err, IfErr, IfOk, MatchOption, not, ◌==◌}
use Rattle.std.specs.declared.alloc.Global.{Global}
use Rattle.std.proofs.lemmas.List.{map-append, length-append}
use Rattle.std.proofs.lemmas.Bool.Decides.{nat_tests}
use Rattle.gl_outside.specs.Disk.{Image, DiskState, LeavesOnly}
use Rattle.gl_outside.proofs.Moments.{at_end}
use Rattle.gl_gatelog.specs.declared.kind.Log.TheVariants.{Journal, Index}
use Rattle.gl_gatelog.specs.declared.kind.LogFault.{LogFault}
use Rattle.gl_gatelog.specs.declared.kind.LogFault.TheVariants.{LogFull, DiskFault, OutOfMemory}
use Rattle.gl_gatelog.specs.Batch.{Batch, size}
use Rattle.gl_gatelog.specs.Log.{area_of}
use Rattle.gl_gatelog.specs.View.{GateView, appended, has_long, refusal}
use Rattle.gl_gatelog.specs.Stand.{StandsOn, IsReady, BeforeOrWith}
use Rattle.gl_gatelog.proofs.Apart.{OnlyIn, other_area, other_stands}
use Rattle.gl_gatelog.proofs.Chain.{end_within}
use Rattle.gl_fields.specs.declared.entry.Origin.{Origin}
use Rattle.gl_fields.specs.declared.entry.Entry.{Entry}
use Rattle.gl_fields.specs.declared.entry.Entry.TheVariants.{Admin, Message}
use Rattle.gl_fields.specs.declared.entry.Message.{Message as Payload}
use Rattle.gl_fields.specs.Entries.{front_bytes, entry_bytes, version_after}
use Rattle.gl_fields.specs.Bounds.{IsPayload}
use Rattle.gl_node.specs.declared.answer.Arrival.{Arrival}
use Rattle.gl_node.specs.declared.answer.Arrival.TheVariants.{Journalled, JournalFull, UnknownInput, Empty, FrameTooLong}
use Rattle.gl_node.specs.declared.fault.NodeFault.{NodeFault}
use Rattle.gl_node.specs.declared.config.Config.{Config}
use Rattle.gl_node.specs.Configuration.{config_after, is_input}
use Rattle.gl_node.specs.declared.node.Node.{Node}
use Rattle.gl_node.specs.Arrivals.{added_by, arrival_of, arrival_events, next_entry}
use Rattle.gl_node.specs.Entering.{entered}
use Rattle.gl_node.specs.Node.{Keeps, Store, StoreOn}
use Rattle.gl_node.specs.Standing.{MayFollow}
use Rattle.gl_node.specs.State.{State, state_after, entry_batch, journal_size}
use Rattle.gl_node.proofs.Adding.{keeps_added}
use Rattle.gl_node.proofs.Appending.{records_with}

length_front : (input peer : List ℕ) (origin : Option Origin) → length (front_bytes input peer origin) ≤ length input + length peer + 6
length_front input peer None = simp length-append (omega arith)
length_front input peer (Some origin) = simp length-append (omega arith)

length_entry : (m : Payload) → IsPayload m → length (entry_bytes (Message m)) ≤ 2 ^ 22
length_entry m is = simp length-append (omega (arith, length_front m.input m.peer m.origin, is.input.few, is.peer.few, is.few))

-- an entry is short enough for a record
pub is_short : (before : List Entry) (entry : Entry) → MayFollow before entry → has_long (entry_bytes entry ∷ []) ≡ false
is_short before (Admin command) follows = absurd follows
is_short before (Message m) follows = let few = length_entry m follows.0 in grind (arith, nat_tests)

-- what an append refuses where the log runs and no record is too long
verdict : (view : GateView) (batch : Batch) → view.stopped ≡ false → has_long batch ≡ false
    → refusal view batch ≡ (if nat_lt view.limit (view.bytes + size batch) then Some (LogFull view.bytes view.limit) else None)
verdict view batch runs short = rw (runs, short) refl

module _ (view : GateView) (batch : Batch) (runs : view.stopped ≡ false) (short : has_long batch ≡ false) (result : Result ℕ LogFault) (Q : Type 0)
    (cause : MatchOption (refusal view batch) (IfErr result (λ e. (e ≡ DiskFault) ⊎ (e ≡ OutOfMemory))) (λ e. (result ≡ Err e) × Q)) where
  told : MatchOption (if nat_lt view.limit (view.bytes + size batch) then Some (LogFull view.bytes view.limit) else None) (IfErr result (λ e. (e ≡ DiskFault) ⊎ (e ≡ OutOfMemory))) (λ e. (result ≡ Err e) × Q)
  told = subst (λ (o : Option LogFault). MatchOption o (IfErr result (λ e. (e ≡ DiskFault) ⊎ (e ≡ OutOfMemory))) (λ e. (result ≡ Err e) × Q)) (verdict view batch runs short) cause

  pub fits : (position : ℕ) → result ≡ Ok position → nat_lt view.limit (view.bytes + size batch) ≡ false
  fits position is = at (nat_lt view.limit (view.bytes + size batch)) told
    where
      at : (b : Bool) → MatchOption (if b then Some (LogFull view.bytes view.limit) else None) (IfErr result (λ e. (e ≡ DiskFault) ⊎ (e ≡ OutOfMemory))) (λ e. (result ≡ Err e) × Q) → b ≡ false
      at true m = let no : Ok position ≡ Err (LogFull view.bytes view.limit) = sym is ∙ m.0 in cc
      at false m = refl

  pub full : (bytes limit : ℕ) → result ≡ Err (LogFull bytes limit) → (nat_lt view.limit (view.bytes + size batch) ≡ true) × (bytes ≡ view.bytes) × (limit ≡ view.limit) × Q
  full bytes limit is = at (nat_lt view.limit (view.bytes + size batch)) told
    where
      at : (b : Bool) → MatchOption (if b then Some (LogFull view.bytes view.limit) else None) (IfErr result (λ e. (e ≡ DiskFault) ⊎ (e ≡ OutOfMemory))) (λ e. (result ≡ Err e) × Q)
          → (b ≡ true) × (bytes ≡ view.bytes) × (limit ≡ view.limit) × Q
      at true m = let same : LogFull bytes limit ≡ LogFull view.bytes view.limit = cc in (refl, cc, cc, m.1)
      at false m = ⊎_elim (λ (e : LogFull bytes limit ≡ DiskFault). absurd (cc)) (λ (e : LogFull bytes limit ≡ OutOfMemory). absurd (cc))
          (subst (λ (r : Result ℕ LogFault). IfErr r (λ e. (e ≡ DiskFault) ⊎ (e ≡ OutOfMemory))) is m)

module _ (node : Node) (s : State) (entry : Entry) (keeps : Keeps node s) where
  -- the same test, in the words of the state
  pub same_test : nat_lt s.base.journal_limit (journal_size s + entry_batch entry) ≡ nat_lt node.journal.limit (node.journal.bytes + size (entry_bytes entry ∷ []))
  same_test = ap (λ (n : ℕ). nat_lt n (journal_size s + entry_batch entry)) (sym keeps.journal_log.limit_is)
      ∙ ap (λ (n : ℕ). nat_lt node.journal.limit (n + entry_batch entry)) (sym keeps.journal_log.bytes_are)

  pub journalled : MayFollow node.entries.items entry → (journal : GateView) (entries : Vec Entry Global) (position : ℕ)
      → journal ≡ appended node.journal (entry_bytes entry ∷ []) → entries.items ≡ node.entries.items ++ entry ∷ [] → position ≡ length node.journal.places
      → nat_lt node.journal.limit (node.journal.bytes + size (entry_bytes entry ∷ [])) ≡ false
      → (Journalled position ≡ entered s entry) × Keeps (record node { journal = journal; entries = entries }) (state_after s (added_by (entered s entry) entry))
  journalled follows journal entries position is pushed at small = by_test (nat_lt s.base.journal_limit (journal_size s + entry_batch entry)) (same_test ∙ small)
    where
      by_test : (b : Bool) → b ≡ false → (Journalled position ≡ (if b then JournalFull (journal_size s) s.base.journal_limit else Journalled (length s.journal)))
          × Keeps (record node { journal = journal; entries = entries }) (state_after s (added_by (if b then JournalFull (journal_size s) s.base.journal_limit else Journalled (length s.journal)) entry))
      by_test true same = absurd (cc)
      by_test false same = (ap (λ (n : ℕ). Journalled n) (at ∙ keeps.journal_log.records_are), keeps_added node s entry keeps follows journal entries is pushed)

  pub kept : (journal : GateView) → journal ≡ node.journal → Keeps (record node { journal = journal }) s
  kept journal is = subst (λ (v : GateView). Keeps (record node { journal = v }) s) (sym is) keeps

  pub journal_full : (journal : GateView) (bytes limit : ℕ) → journal ≡ node.journal → bytes ≡ node.journal.bytes → limit ≡ node.journal.limit
      → nat_lt node.journal.limit (node.journal.bytes + size (entry_bytes entry ∷ [])) ≡ true
      → (JournalFull bytes limit ≡ entered s entry) × Keeps (record node { journal = journal }) (state_after s (added_by (entered s entry) entry))
  journal_full journal bytes limit is bytes_are limit_is large = by_test (nat_lt s.base.journal_limit (journal_size s + entry_batch entry)) (same_test ∙ large)
    where
      by_test : (b : Bool) → b ≡ true → (JournalFull bytes limit ≡ (if b then JournalFull (journal_size s) s.base.journal_limit else Journalled (length s.journal)))
          × Keeps (record node { journal = journal }) (state_after s (added_by (if b then JournalFull (journal_size s) s.base.journal_limit else Journalled (length s.journal)) entry))
      by_test true same =
          let b : bytes ≡ journal_size s = bytes_are ∙ keeps.journal_log.bytes_are in
          let l : limit ≡ s.base.journal_limit = limit_is ∙ keeps.journal_log.limit_is in
          (cc, kept journal is)
      by_test false same = absurd (cc)

pub two_logs : (one other : GateView) → one.log ≡ Journal → other.log ≡ Index → other.log ≢ one.log
two_logs one other is_journal is_index same = let no : Index ≡ Journal = sym is_index ∙ same ∙ is_journal in absurd (cc)

-- the other log is still ready
pub other_ready : (one other : GateView) (d0 d1 : DiskState) → other.log ≢ one.log
    → ((b : ℕ) → b ≢ area_of one.log one.place.0 → d1.reads b ≡ d0.reads b) → IsReady other d0 → IsReady other d1
other_ready one other d0 d1 apart elsewhere ready gated =
    subst (λ (bytes : List ℕ). other.place.1 < length bytes) (sym (elsewhere (area_of other.log other.place.0) (other_area one.log other.log apart other.place.0 one.place.0))) (ready gated)

module _ (store : Store) (d0 d1 : DiskState) (apart : store.index.log ≢ store.journal.log) (on : StoreOn store d0) (batch : Batch) (run : LeavesOnly d0 d1 (BeforeOrWith store.journal on.journal_batches batch d0)) where
  index_stands : StandsOn store.index on.index_batches d1
  index_stands = other_stands store.journal.log store.index on.index_batches d0 d1 apart from on.index
    where
      from : (c : Image) → d1.may_leave c → (x : Image) × d0.may_leave x × OnlyIn store.journal.log x c
      from c now =
          let after = at_end d0 d1 _ run c now in
          (after.from, after.image, λ b other. after.steps.elsewhere b (other _ (end_within store.journal.log store.journal.segment_size on.journal_batches)))

  pub on_same : (journal : GateView) → StandsOn journal on.journal_batches d1 → StoreOn (record store { journal = journal }) d1
  on_same journal stands = record {
    journal_batches = on.journal_batches;
    index_batches = on.index_batches;
    journal = stands;
    index = index_stands;
    entries = on.entries;
    outcomes = on.outcomes;
  }

  pub on_added : (journal : GateView) (entries : List Entry) (entry : Entry) → batch ≡ entry_bytes entry ∷ [] → entries ≡ store.entries ++ entry ∷ []
      → StandsOn journal (on.journal_batches ++ batch ∷ []) d1 → StoreOn (record store { journal = journal; entries = entries }) d1
  on_added journal entries entry is pushed stands = record {
    journal_batches = on.journal_batches ++ batch ∷ [];
    index_batches = on.index_batches;
    journal = stands;
    index = index_stands;
    entries = records_with on.journal_batches batch (map entry_bytes store.entries) on.entries
        ∙ ap (λ (b : Batch). map entry_bytes store.entries ++ b) is
        ∙ sym (map-append entry_bytes store.entries (entry ∷ []))
        ∙ ap (λ (es : List Entry). map entry_bytes es) (sym pushed);
    outcomes = on.outcomes;
  }

-- a payload that isn't refused at once is entered
by_entering : (s : State) (moment : ℕ) (input peer bytes : List ℕ) → is_input (config_after s.journal) input ≡ true → (length bytes == 0) ≡ false → nat_lt 1048576 (length bytes) ≡ false
    → arrival_of s moment input peer bytes ≡ entered s (next_entry s.journal moment input peer bytes)
by_entering s moment input peer bytes known some few =
    ap (λ (b : Bool). if not b then UnknownInput
    else (if length bytes == 0 then Empty
    else (if nat_lt 1048576 (length bytes) then FrameTooLong
    else entered s (next_entry s.journal moment input peer bytes)))) known
    ∙ ap (λ (b : Bool). if b then Empty
    else (if nat_lt 1048576 (length bytes) then FrameTooLong
    else entered s (next_entry s.journal moment input peer bytes))) some
    ∙ ap (λ (b : Bool). if b then FrameTooLong
    else entered s (next_entry s.journal moment input peer bytes)) few

weaker_ok : {T E : Type 0} (r : Result T E) (P Q : T → Type 0) → ((x : T) → P x → Q x) → IfOk r P → IfOk r Q
weaker_ok (Ok x) P Q more is = more x is
weaker_ok (Err e) P Q more is = tt

-- the same, by the message that the node makes of it
module _ (node : Node) (m : Payload) (moment : ℕ) (input peer bytes : List ℕ)
    (is : m ≡ record { input = input; peer = peer; origin = None; moment = moment; version = node.config.version; bytes = bytes })
    (known : is_input node.config input ≡ true) (some : (length bytes == 0) ≡ false) (few : nat_lt 1048576 (length bytes) ≡ false) where
  module _ (s : State) (keeps : Keeps node s) where
    entry_is : Message m ≡ next_entry s.journal moment input peer bytes
    entry_is =
        let version : node.config.version ≡ version_after s.journal = ap (λ (config : Config). config.version) keeps.config in
        ap (λ (p : Payload). Message p) is ∙ ap (λ (v : ℕ). Message (record { input = input; peer = peer; origin = None; moment = moment; version = v; bytes = bytes })) version

    arrival_is : arrival_of s moment input peer bytes ≡ entered s (next_entry s.journal moment input peer bytes)
    arrival_is = by_entering s moment input peer bytes (ap (λ (config : Config). is_input config input) (sym keeps.config) ∙ known) some few

    pub events_are : added_by (entered s (Message m)) (Message m) ≡ arrival_events s moment input peer bytes
    events_are = ap (λ (e : Entry). added_by (entered s e) e) entry_is ∙ ap (λ (a : Arrival). added_by a (next_entry s.journal moment input peer bytes)) (sym arrival_is)

  pub answered : (new : Node) (result : Result Arrival NodeFault)
      → IfOk result (λ arrival. (s : State) → Keeps node s → (arrival ≡ entered s (Message m)) × Keeps new (state_after s (added_by (entered s (Message m)) (Message m))))
      → IfOk result (λ arrival. (s : State) → Keeps node s → (arrival ≡ arrival_of s moment input peer bytes) × Keeps new (state_after s (arrival_events s moment input peer bytes)))
  answered new result =
      weaker_ok result
      (λ arrival. (s : State) → Keeps node s → (arrival ≡ entered s (Message m)) × Keeps new (state_after s (added_by (entered s (Message m)) (Message m))))
      (λ arrival. (s : State) → Keeps node s → (arrival ≡ arrival_of s moment input peer bytes) × Keeps new (state_after s (arrival_events s moment input peer bytes)))
      (λ arrival gives s keeps.
      subst (λ (a : Arrival). (arrival ≡ a) × Keeps new (state_after s (added_by a (next_entry s.journal moment input peer bytes)))) (sym (arrival_is s keeps))
      (subst (λ (e : Entry). (arrival ≡ entered s e) × Keeps new (state_after s (added_by (entered s e) e))) (entry_is s keeps) (gives s keeps)))
