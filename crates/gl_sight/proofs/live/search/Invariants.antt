-- What was found of the messages before, and what is found of those that are left.
use Rattle.std.proofs.Common.{◌≡◌, ◌++◌, drop}
use Rattle.gl_query.specs.Tree.{Tree, polish}
use Rattle.gl_sight.specs.Finding.{live_of}
use Rattle.gl_sight.proofs.Placing.{hits_from}
use Rattle.gl_sight.proofs.live.search.Given as goal

abbrev pub invariant-loop-place : goal.invariant-loop-place
invariant-loop-place l = (t : Tree) → l.ask.query ≡ polish t → l.hits ++ hits_from l.ask t l.place (drop l.place (live_of l.live)) ≡ hits_from l.ask t 0 (live_of l.live)
