-- Which positions are claimed and which are finished, by the list of all calls (this project).
use Rattle.std.specs.Prelude.{◌≡◌, ℕ, ◌+◌, ◌<◌, ◌≤◌, Bool, true, false, not, ◌&&◌, ◌||◌, nat_le, nat_lt, ◌==◌, List, [], ◌∷◌, ◌++◌, filter, find, Option, Some, None, option_map}
use Rattle.std.specs.List.{list_any, cons_option}
use Rattle.gl_pool.specs.declared.mark.Mark.{Mark}
use Rattle.gl_pool.specs.declared.mark.Claim.{Claim}
use Rattle.gl_pool.specs.declared.mark.PoolAnswer.{PoolAnswer}
use Rattle.gl_pool.specs.declared.mark.PoolAnswer.TheVariants.{Committed, Kept, NoClaim}

-- What was called. A list of calls has the newest first.
pub data Call : Type 0 where
  Claimed : (claim : Claim) → Call
  Finished : (worker : ℕ) → Call
  Abandoned : (worker : ℕ) → Call

-- what all other workers hold
abbrev pub without : ℕ → List Claim → List Claim
without worker claims = filter (λ claim. not (claim.worker == worker)) claims

-- what was claimed, and neither finished nor abandoned since
abbrev pub claims_of : List Call → List Claim
claims_of [] = []
claims_of (Claimed claim ∷ before) = claims_of before ++ claim ∷ []
claims_of (Finished worker ∷ before) = without worker (claims_of before)
claims_of (Abandoned worker ∷ before) = without worker (claims_of before)

-- the range that a worker holds
abbrev pub held_by : List Call → ℕ → Option Mark
held_by calls worker = option_map (λ claim. claim.mark) (find (λ claim. claim.worker == worker) (claims_of calls))

-- the ranges that were finished: each is what the worker held then
abbrev pub finished_of : List Call → List Mark
finished_of [] = []
finished_of (Claimed claim ∷ before) = finished_of before
finished_of (Finished worker ∷ before) = cons_option (held_by before worker) (finished_of before)
finished_of (Abandoned worker ∷ before) = finished_of before

-- the positions of a range
abbrev pub lies_in : ℕ → Mark → Bool
lies_in position mark = nat_le mark.first position && nat_lt position (mark.first + mark.count)

abbrev pub is_claimed : List Call → ℕ → Bool
is_claimed calls position = list_any (λ claim. lies_in position claim.mark) (claims_of calls)

-- all below the start are finished
abbrev pub is_finished : ℕ → List Call → ℕ → Bool
is_finished start calls position = nat_lt position start || list_any (lies_in position) (finished_of calls)

abbrev pub is_free : ℕ → List Call → ℕ → Bool
is_free start calls position = not (is_finished start calls position) && not (is_claimed calls position)

-- The whole first run of free positions below the journal's length.
pub record IsFreeRun (start : ℕ) (calls : List Call) (journal : ℕ) (run : Mark) : Type 0 where
  pub first : (p : ℕ) → p < run.first → is_free start calls p ≡ false
  pub some : 0 < run.count
  pub within : run.first + run.count ≤ journal
  pub free : (p : ℕ) → run.first ≤ p → p < run.first + run.count → is_free start calls p ≡ true
  pub whole : run.first + run.count < journal → is_free start calls (run.first + run.count) ≡ false

-- A worker may claim a range where it holds nothing, and the range begins the first free run and lies in it.
pub record MayClaim (start : ℕ) (calls : List Call) (worker : ℕ) (mark : Mark) : Type 0 where
  pub idle : held_by calls worker ≡ None
  pub some : 0 < mark.count
  pub journal : ℕ
  pub run : Mark
  pub free : IsFreeRun start calls journal run
  pub begins : mark.first ≡ run.first
  pub lies : mark.count ≤ run.count

abbrev pub AreFinishedBelow : ℕ → List Call → ℕ → Type 0
AreFinishedBelow start calls end = (p : ℕ) → p < end → is_finished start calls p ≡ true

-- the least position that isn't finished; it is at or above the start, below which all are
pub record IsNextCommit (start : ℕ) (calls : List Call) (next : ℕ) : Type 0 where
  pub below : AreFinishedBelow start calls next
  pub here : is_finished start calls next ≡ false

-- what becomes of a range when its worker finishes it: whether all before it is finished, and how far all is
pub record IsCommitted (start : ℕ) (calls : List Call) (mark : Mark) (next : ℕ) : Type 0 where
  pub before : AreFinishedBelow start calls mark.first
  pub next_is : IsNextCommit start calls next

pub record IsKept (start : ℕ) (calls : List Call) (mark : Mark) (next : ℕ) : Type 0 where
  pub missing : ℕ
  pub lower : missing < mark.first
  pub unfinished : is_finished start calls missing ≡ false
  pub next_is : IsNextCommit start calls next

-- the answer where a worker finishes after these calls
abbrev pub IsFinishAnswer : ℕ → List Call → ℕ → PoolAnswer → Type 0
IsFinishAnswer start calls worker (Committed next) =
    (mark : Mark) × (held_by calls worker ≡ Some mark) × IsCommitted start (Finished worker ∷ calls) mark next
IsFinishAnswer start calls worker (Kept next) =
    (mark : Mark) × (held_by calls worker ≡ Some mark) × IsKept start (Finished worker ∷ calls) mark next
IsFinishAnswer start calls worker NoClaim = held_by calls worker ≡ None
