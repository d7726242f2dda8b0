use Rattle.std.proofs.Common.{◌≡◌, ℕ, ◌<◌, None, length, slice_index_or}
use Rattle.gl_patterns.proofs.spans.clear_spans.Given as goal

abbrev pub invariant-groups : goal.invariant-groups
invariant-groups l = (length l.spans ≡ length l.fn.spans) × ((n : ℕ) → n < l.group → slice_index_or l.spans n None ≡ None)
