-- What stands already, and what comes.
use Rattle.std.proofs.Common.{◌≡◌, ◌++◌, map, drop}
use Rattle.gl_pages.proofs.hits.positions.Given as goal

abbrev pub invariant-loop-hit : goal.invariant-loop-hit
invariant-loop-hit l = l.positions.items ++ map (λ hit. hit.position) (drop l.hit-index l.hits) ≡ map (λ hit. hit.position) l.hits
