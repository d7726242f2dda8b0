-- When one that was seen comes before another (this project).
use Rattle.std.specs.Prelude.{◌≡◌, ◌⊎◌, ◌-◌, ◌^◌, ◌<◌, ◌≤◌, List, ◌++◌}
use Rattle.gl_turn.specs.declared.seen.Seen.{Seen}

-- the list begins with the front
abbrev pub BeginsWith : {A : Type 0} → List A → List A → Type 0
BeginsWith {A} whole front = (rest : List A) × (whole ≡ front ++ rest)

-- s is a prefix of t: the base never changes, the journal goes on, no count falls, the refused text changes with
-- the count of faults alone, and a stop stays
pub record IsBefore (s t : Seen) : Type 0 where
  pub base : s.base ≡ t.base
  pub journal : BeginsWith t.journal s.journal
  pub commits : s.commits ≤ t.commits
  pub chunks : s.chunks ≤ t.chunks
  pub tries : s.tries ≤ t.tries
  pub faults : s.faults ≤ t.faults
  pub refused : s.faults ≡ t.faults → t.faults < 2 ^ 64 - 1 → s.refused ≡ t.refused
  pub stop : (s.stop ≡ 0) ⊎ (s.stop ≡ t.stop)

-- u is the longer of s and t
pub record IsLonger (s t u : Seen) : Type 0 where
  pub one : (u ≡ s) ⊎ (u ≡ t)
  pub first : IsBefore s u
  pub second : IsBefore t u
