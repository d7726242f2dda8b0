-- Counts of faults: when a count rose, and what a call says of the count of its object.
use Rattle.std.specs.Prelude.{◌≡◌, ℕ, ◌+◌, ◌-◌, ◌^◌, ◌≤◌, min, Result, IsErrOf}

-- the count is greater than before, or stands at the end of its type
abbrev pub Rose : ℕ → ℕ → Type 0
Rose before now = min (before + 1) (2 ^ 64 - 1) ≤ now

-- The count never falls, this error comes only where it rose, and it moves only where the error comes.
pub record HasCause {T E : Type 0} (failed : E) (before now : ℕ) (result : Result T E) : Type 0 where
  pub later : before ≤ now
  pub rose : IsErrOf result failed → Rose before now
  pub steady : (IsErrOf result failed → ⊥) → now ≡ before
