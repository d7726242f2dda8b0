use Rattle.std.proofs.Common.{◌≡◌, ◌++◌, drop}
use Rattle.std.specs.List.{flat_map}
use Rattle.gl_query.specs.Printing.{phrase_byte}
use Rattle.gl_query.proofs.print.push_phrase_bytes.Given as goal

-- what was written, and what is left
abbrev pub invariant-loop-b : goal.invariant-loop-b
invariant-loop-b l = l.out.items ++ flat_map phrase_byte (drop l.b-index l.text) ≡ l.initial.out.items ++ flat_map phrase_byte l.text
