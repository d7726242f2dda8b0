-- What a seat may know, between two of its steps.
use Rattle.std.specs.Prelude.{ℕ, []}
use Rattle.gl_turn.specs.declared.seen.Seen.{Seen}
use Rattle.gl_turn.specs.declared.view.Own.{Own}
use Rattle.gl_turn.specs.declared.view.View.{View}
use Rattle.gl_turn.specs.Own.{fresh}

-- what a view without a seen has in its place
abbrev pub blank : Seen
blank = record {
  base = record { outcomes = []; journalled = 0; journal_limit = 0; index_limit = 0; journal_bytes = 0; index_bytes = 0; faults = 0 };
  journal = [];
  commits = 0;
  chunks = 0;
  tries = 0;
  faults = 0;
  refused = [];
  stop = 0;
}

-- the seat neither waits for the turn nor holds it
abbrev pub outside : Own → ℕ → Seen → View
outside own alone seen = record { waits = 0; holds = 0; counts = 1; over = 0; alone = alone; ticket = 0; gained = 0; settled = 0; own = own; out = blank; seen = seen; told = seen }

-- it has drawn a ticket
abbrev pub waiting : Own → ℕ → Seen → ℕ → View
waiting own alone seen ticket = record { waits = 1; holds = 0; counts = 1; over = 0; alone = alone; ticket = ticket; gained = 0; settled = 0; own = own; out = blank; seen = seen; told = seen }

-- it holds the value, which showed `out` as it was taken, and has counted so many appends and commits of this turn
abbrev pub inside : Own → ℕ → Seen → ℕ → Seen → ℕ → ℕ → View
inside own alone seen ticket out gained settled = record { waits = 1; holds = 1; counts = 1; over = 0; alone = alone; ticket = ticket; gained = gained; settled = settled; own = own; out = out; seen = seen; told = seen }

-- it is counted twice: for a seat that it may split off now, or for one that it has joined, which had seen `told`
abbrev pub double : Own → Seen → Seen → View
double own seen told = record { waits = 0; holds = 0; counts = 2; over = 0; alone = 0; ticket = 0; gained = 0; settled = 0; own = own; out = blank; seen = seen; told = told }

-- it was counted past the limit, and may split nothing off
abbrev pub beyond : Own → ℕ → Seen → View
beyond own alone seen = record { waits = 0; holds = 0; counts = 1; over = 1; alone = alone; ticket = 0; gained = 0; settled = 0; own = own; out = blank; seen = seen; told = seen }

-- what is left of a seat that was joined away
abbrev pub spent : View
spent = record { waits = 0; holds = 0; counts = 0; over = 0; alone = 0; ticket = 0; gained = 0; settled = 0; own = fresh 0 0; out = blank; seen = blank; told = blank }
