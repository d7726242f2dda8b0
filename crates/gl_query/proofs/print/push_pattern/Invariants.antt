use Rattle.std.proofs.Common.{◌≡◌, ◌++◌, drop}
use Rattle.std.specs.List.{flat_map}
use Rattle.gl_query.specs.Printing.{piece_text}
use Rattle.gl_query.proofs.print.push_pattern.Given as goal

-- what was written, and what is left
abbrev pub invariant-loop-piece : goal.invariant-loop-piece
invariant-loop-piece l = l.out.items ++ flat_map piece_text (drop l.piece-index l.pattern) ≡ l.initial.out.items ++ flat_map piece_text l.pattern
