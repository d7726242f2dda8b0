use Rattle.std.proofs.Common.{◌≡◌, ◌++◌, drop}
use Rattle.std.specs.List.{flat_map}
use Rattle.gl_query.specs.Printing.{name_byte}
use Rattle.gl_query.proofs.print.push_name.Given as goal

-- what was written, and what is left
abbrev pub invariant-loop-b : goal.invariant-loop-b
invariant-loop-b l = l.out.items ++ flat_map name_byte (drop l.b-index l.name) ≡ l.initial.out.items ++ flat_map name_byte l.name
