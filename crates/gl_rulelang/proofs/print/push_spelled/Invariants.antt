use Rattle.std.proofs.Common.{◌≡◌, ◌++◌, length}
use Rattle.std.specs.Str.{IsUtf8}
use Rattle.std.specs.String.{string_bytes}
use Rattle.std.specs.List.{flat_map}
use Rattle.gl_rulelang.specs.Printing.{spelled_byte}
use Rattle.gl_rulelang.proofs.print.push_spelled.Given as goal

-- what was written, and what is left
abbrev pub invariant-loop-rest : goal.invariant-loop-rest
invariant-loop-rest l = (string_bytes l.out ++ flat_map spelled_byte l.rest ≡ string_bytes l.initial.out ++ flat_map spelled_byte l.text) × IsUtf8 l.rest

abbrev pub decreases-loop-rest : goal.decreases-loop-rest
decreases-loop-rest l = length l.rest
