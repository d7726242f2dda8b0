-- What a seat did itself, between its enters and leaves (this project).
use Rattle.std.specs.Prelude.{ℕ, zero, suc, ◌+◌, ◌-◌, List, [], ◌∷◌, ◌++◌, length, map, slice_index_or}
use Rattle.gl_turn.specs.declared.seen.Seen.{Seen}
use Rattle.gl_turn.specs.declared.view.Own.{Own}

-- the k numbers from n on
abbrev pub numbers_from : ℕ → ℕ → List ℕ
numbers_from n zero = []
numbers_from n (suc k) = n ∷ numbers_from (n + 1) k

-- the entries of a journal at these positions
abbrev pub entries_at : List (List ℕ) → List ℕ → List (List ℕ)
entries_at journal positions = map (λ k. slice_index_or journal k []) positions

-- nothing yet, in a lock whose first value had so many entries and so many commits
abbrev pub fresh : ℕ → ℕ → Own
fresh journalled committed = record { journalled = journalled; committed = committed; turns = 0; appends = 0; commits = 0; chunks = 0; tries = 0; positions = [] }

abbrev pub one_turn_more : Own → Own
one_turn_more own = record own { turns = own.turns + 1 }

-- after a turn in which the value grew from s to t: by how much each count grew, and the positions that the journal gained
abbrev pub grown : Own → Seen → Seen → Own
grown own s t = record own {
  appends = own.appends + (length t.journal - length s.journal);
  commits = own.commits + (t.commits - s.commits);
  chunks = own.chunks + (t.chunks - s.chunks);
  tries = own.tries + (t.tries - s.tries);
  positions = own.positions ++ numbers_from (length s.journal) (length t.journal - length s.journal);
}

-- what two seats did, the other's positions after its own
abbrev pub added : Own → Own → Own
added own other = record {
  journalled = own.journalled;
  committed = own.committed;
  turns = own.turns + other.turns;
  appends = own.appends + other.appends;
  commits = own.commits + other.commits;
  chunks = own.chunks + other.chunks;
  tries = own.tries + other.tries;
  positions = own.positions ++ other.positions;
}
