use Rattle.std.proofs.Common.{◌≡◌, ℕ, ◌<◌, None, length, slice_index_or}
use Rattle.gl_patterns.specs.Cells.{span_in_cells}
use Rattle.gl_patterns.proofs.spans.fill_spans.Given as goal

abbrev pub invariant-groups : goal.invariant-groups
invariant-groups l =
    (length l.spans ≡ length l.fn.spans) × ((n : ℕ) → n < l.group → slice_index_or l.spans n None ≡ span_in_cells l.whole l.cells n)
