-- What contracts see of the kinds in memory.
use Rattle.std.specs.Prelude.{◌≡◌, ◌≢◌, ◌⊎◌, ℕ, ◌+◌, ◌<◌, ◌≤◌, List, ◌∷◌, length, sum_by}
use Rattle.std.specs.List.{AllPairs}
use Rattle.gl_outside.specs.Events.{Event, content}
use Rattle.gl_outside.specs.Listed.{one_more}

-- the bytes that are left, how many a call gives at most, which calls are to fail, how many were made and how many failed
pub record SourceView : Type 0 where
  pub left : List ℕ
  pub piece : ℕ
  pub failing : List ℕ
  pub made : ℕ
  pub faults : ℕ

-- the bytes that it took, how many a call takes at most, and the same of its calls
pub record SinkView : Type 0 where
  pub taken : List ℕ
  pub piece : ℕ
  pub failing : List ℕ
  pub made : ℕ
  pub faults : ℕ

-- the calls that it was given, the newest first, the same of its calls, and for how many more it has room without taking memory
pub record DiskView : Type 0 where
  pub events : List Event
  pub failing : List ℕ
  pub made : ℕ
  pub faults : ℕ
  pub calls_left : ℕ
  pub bytes_left : ℕ

-- there is no room for a call, or none for the bytes of a write
abbrev pub IsUsedUp : DiskView → ℕ → Type 0
IsUsedUp d n = (d.calls_left ≡ 0) ⊎ (d.bytes_left < n)

-- there is room for 4,096 calls, and for 4,096 bytes more than an area holds, and than any areas hold together
pub record HasRoom (d : DiskView) : Type 0 where
  pub for_calls : d.calls_left ≡ 4096
  pub for_bytes : (area : ℕ) → 4096 + length (content d.events area) ≤ d.bytes_left
  pub for_areas : (areas : List ℕ) → AllPairs (λ a b. a ≢ b) areas → 4096 + sum_by (λ area. length (content d.events area)) areas ≤ d.bytes_left

-- the next call was counted, and the same calls are to fail
pub record CountsCall (old new : DiskView) : Type 0 where
  pub made : new.made ≡ one_more old.made
  pub failing : new.failing ≡ old.failing

-- a call that failed is recorded where there is room for it, as one that may be done in part
pub record IsTried (used_up : Type 0) (call : Event) (old new : List Event) : Type 0 where
  pub recorded : (used_up → ⊥) → new ≡ call ∷ old
  pub unrecorded : used_up → new ≡ old
