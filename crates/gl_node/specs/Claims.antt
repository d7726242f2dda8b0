-- Who claims which positions, and what is committed.
use Rattle.std.specs.Prelude.{ℕ, zero, suc, ◌+◌, ◌-◌, Bool, true, false, not, ◌&&◌, ◌||◌, List, [], ◌∷◌, length, take, map, sum_by, nat_lt, nat_le, ◌==◌, if◌then◌else◌, Option, Some, None, find, take_while, slice_range}
use Rattle.std.specs.List.{list_any, list_all, range_with_len}
use Rattle.gl_fields.specs.Entries.{version_after}
use Rattle.gl_fields.specs.Outcomes.{outcome_bytes}
use Rattle.gl_node.specs.declared.mark.Mark.{Mark}
use Rattle.gl_node.specs.Decoding.{outcome_of}
use Rattle.gl_gatelog.specs.Batch.{size as batch_size}
use Rattle.gl_node.specs.declared.mark.Claim.{Claim}
use Rattle.gl_node.specs.declared.work.Range.{Range}
use Rattle.gl_node.specs.Configuration.{config_at}
use Rattle.gl_node.specs.State.{State, Event, Claimed, CameIn, Committed, commit_count, state_after, happened}

-- the positions of a range
abbrev pub lies_in : ℕ → Mark → Bool
lies_in position mark = nat_le mark.first position && nat_lt position (mark.first + mark.count)

-- committed or come in
abbrev pub is_finished : State → ℕ → Bool
is_finished s position = nat_lt position (commit_count s) || list_any (lies_in position) s.waiting

abbrev pub is_claimed : State → ℕ → Bool
is_claimed s position = list_any (λ claim. lies_in position claim.mark) s.held

abbrev pub is_free : State → ℕ → Bool
is_free s position = not (is_finished s position) && not (is_claimed s position)

-- the positions from one on and before another
abbrev pub positions : ℕ → ℕ → List ℕ
positions from to = range_with_len from (to - from)

-- the version of the entry at a position
abbrev pub version_at : State → ℕ → ℕ
version_at s position = version_after (take position s.journal)

abbrev pub first_free : State → Option ℕ
first_free s = find (is_free s) (positions (commit_count s) (length s.journal))

-- the range that a claim gives from its first position on: free positions of one version, at most so many
abbrev pub range_from : State → ℕ → ℕ → Mark
range_from s limit first = record {
  first = first;
  count = length (take limit (take_while (λ k. is_free s k && (version_at s k == version_at s first)) (positions first (length s.journal))));
}

-- what a worker is given of a range: its entries, and the configuration of their version
abbrev pub range_of : State → Mark → Range
range_of s mark = record {
  first = mark.first;
  config = config_at s.journal (version_at s mark.first);
  entries = slice_range s.journal mark.first (mark.first + mark.count);
}

-- the positions of what a worker was given
abbrev pub mark_of : Range → Mark
mark_of range = record { first = range.first; count = length range.entries }

-- what a worker holds
abbrev pub held_by : State → ℕ → Option Claim
held_by s worker = find (λ claim. claim.worker == worker) s.held

-- the answer to a claim
pub data ClaimAnswer : Type 0 where
  Granted : (mark : Mark) → ClaimAnswer
  Nothing : ClaimAnswer
  Busy : (mark : Mark) → ClaimAnswer

abbrev pub granted_from : State → ℕ → Option ℕ → ClaimAnswer
granted_from s limit None = Nothing
granted_from s limit (Some first) = Granted (range_from s limit first)

abbrev pub claim_unless : State → ℕ → Option Claim → ClaimAnswer
claim_unless s limit None = granted_from s limit (first_free s)
claim_unless s limit (Some claim) = Busy claim.mark

abbrev pub claim_answer : State → ℕ → ℕ → ClaimAnswer
claim_answer s worker limit = claim_unless s limit (held_by s worker)

abbrev pub claimed_by : ℕ → ClaimAnswer → List Event
claimed_by worker (Granted mark) = Claimed (record { worker = worker; mark = mark }) ∷ []
claimed_by worker Nothing = []
claimed_by worker (Busy mark) = []

-- the index log's batch of a range, and the log's bytes
abbrev pub range_batch : State → Mark → ℕ
range_batch s mark =
    batch_size (map (λ entry. outcome_bytes (outcome_of s.journal entry)) (slice_range s.journal mark.first (mark.first + mark.count)))

abbrev pub index_size : State → ℕ
index_size s = s.base.index_bytes + sum_by (range_batch s) s.committed

-- the range that is next to be committed, where it came in
abbrev pub next_ready : State → Option Mark
next_ready s = find (λ mark. mark.first == commit_count s) s.waiting

abbrev pub fits : State → Mark → Bool
fits s mark = nat_le (index_size s + range_batch s mark) s.base.index_limit

-- the ready ranges in order, one after another, as far as they fit; at most so many
abbrev pub committed_within : ℕ → State → List Event
committed_within zero s = []
committed_within (suc n) s = elim (next_ready s) as (λ _. List Event) [
  | None ↦ []
  | Some mark ↦ elim (fits s mark) as (λ _. List Event) [
    | false ↦ []
    | true ↦ Committed mark ∷ committed_within n (happened s (Committed mark))
  ]
]

abbrev pub commits : State → List Event
commits s = committed_within (length s.waiting) s

-- the answer to a finish
pub data FinishAnswer : Type 0 where
  CommittedTo : (count : ℕ) → FinishAnswer
  Kept : (count : ℕ) → FinishAnswer
  NoClaim : FinishAnswer
  IndexFull : (bytes limit : ℕ) → FinishAnswer

-- a position before the range isn't finished
abbrev pub is_kept : State → Mark → Bool
is_kept s mark = not (list_all (is_finished s) (positions (commit_count s) mark.first))

-- the events of a worker's finish, before which it held this
abbrev pub finished_by : State → Option Claim → List Event
finished_by s None = []
finished_by s (Some claim) =
    let came = happened s (CameIn claim) in
    CameIn claim ∷ (if is_kept came claim.mark then [] else commits came)

abbrev pub finish_events : State → ℕ → List Event
finish_events s worker = finished_by s (held_by s worker)

abbrev pub full_or_committed : State → Option Mark → FinishAnswer
full_or_committed s None = CommittedTo (commit_count s)
full_or_committed s (Some mark) = IndexFull (index_size s) s.base.index_limit

abbrev pub finish_unless : State → State → Option Claim → FinishAnswer
finish_unless s after None = NoClaim
finish_unless s after (Some claim) =
    if is_kept after claim.mark then Kept (commit_count after) else full_or_committed after (next_ready after)

abbrev pub finish_answer : State → ℕ → FinishAnswer
finish_answer s worker = finish_unless s (state_after s (finish_events s worker)) (held_by s worker)
