-- What the groups of a pattern span in its first match, one place for each of them.
use Rattle.std.specs.Prelude.{◌≡◌, ℕ, ◌<◌, List, length, Option, None, IfSome, slice_index_or}
use Rattle.gl_patterns.specs.Patterns.{group_in, group_called, CutsIn}

pub record AreGroups (pattern text : List ℕ) (spans : List (Option (ℕ × ℕ))) : Type 0 where
  pub each : (n : ℕ) → n < length spans → slice_index_or spans n None ≡ group_in pattern text n
  pub cuts : (n : ℕ) → n < length spans → IfSome (slice_index_or spans n None) (CutsIn text)
  pub all : (name : List ℕ) → IfSome (group_called pattern name) (λ n. n < length spans)
