-- Which finished ranges are committed: the longest chain of them that fits into the index log.
use Rattle.std.specs.Prelude.{◌≡◌, ◌⊎◌, ℕ, ◌+◌, ◌≤◌, List, [], ◌∷◌, ◌++◌, map, sum_by, ⊤}
use Rattle.std.specs.List.{Contains}
use Rattle.gl_node.specs.declared.mark.Mark.{Mark}
use Rattle.gl_node.specs.State.{State, Committed, commit_count}
use Rattle.gl_node.specs.Claims.{commits, index_size, range_batch}

-- some of these finished ranges, one behind another from this position on without a gap
abbrev pub IsChain : List Mark → ℕ → List Mark → Type 0
IsChain finished from [] = ⊤
IsChain finished from (mark ∷ marks) =
    (mark.first ≡ from) × Contains finished mark × IsChain finished (mark.first + mark.count) marks

-- A chain of ranges that came in, from the commit count on, whose batches don't pass the limit of the index log.
pub record IsFittingChain (s : State) (marks : List Mark) : Type 0 where
  pub chain : IsChain s.waiting (commit_count s) marks
  pub fits : (marks ≡ []) ⊎ (index_size s + sum_by (range_batch s) marks ≤ s.base.index_limit)

-- the longest one: each other is a front of it
pub record IsLongestChain (s : State) (marks : List Mark) : Type 0 where
  pub fitting : IsFittingChain s marks
  pub longest : (other : List Mark) → IsFittingChain s other → (rest : List Mark) × (marks ≡ other ++ rest)

-- what a state commits is its longest chain
pub record CommitsLongest (s : State) : Type 0 where
  pub marks : List Mark
  pub events : commits s ≡ map (λ mark. Committed mark) marks
  pub is_longest : IsLongestChain s marks
