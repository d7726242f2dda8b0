use Rattle.std.proofs.Common.{◌≡◌, ℕ, ◌-◌, ◌<◌, ◌≤◌, true}
use Rattle.gl_pool.specs.Kept.{is_open}
use Rattle.gl_pool.proofs.span.run_end.Given as goal

abbrev pub invariant-loop-end : goal.invariant-loop-end
invariant-loop-end l = record {
  from : l.first ≤ l.end;
  within : l.end ≤ l.limit;
  free : (p : ℕ) → l.first ≤ p → p < l.end → is_open l.frontier l.spans p ≡ true;
}

abbrev pub decreases-loop-end : goal.decreases-loop-end
decreases-loop-end l = l.limit - l.end
