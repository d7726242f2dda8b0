use Rattle.std.proofs.Common.{◌≡◌, ℕ, ◌≤◌, get_or}
use Rattle.gl_gatelog.proofs.position.before_in_batch.Given as goal

abbrev pub invariant-loop-first : goal.invariant-loop-first
invariant-loop-first l = record {
  within : l.first ≤ l.position;
  same : (k : ℕ) → l.first ≤ k → k ≤ l.position → get_or l.places k (0, 0) ≡ (l.segment, l.byte);
}

abbrev pub decreases-loop-first : goal.decreases-loop-first
decreases-loop-first l = l.first
