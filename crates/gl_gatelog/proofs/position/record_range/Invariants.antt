use Rattle.std.proofs.Common.{◌≡◌, ℕ, ◌^◌, ◌<◌, ◌≤◌, List, length, drop}
use Rattle.std.specs.List.{All}
use Rattle.gl_gatelog.specs.Batch.{Batch, body}
use Rattle.gl_gatelog.proofs.position.record_range.Given as goal

abbrev pub invariant-loop-i : goal.invariant-loop-i
invariant-loop-i l = record {
  within : l.start ≤ length l.bytes;
  left : (rs : Batch) → body rs ≡ l.bytes → All (λ (r : List ℕ). length r ≤ 2 ^ 22) rs → l.index < length rs → drop l.start l.bytes ≡ body (drop l.i rs);
}
