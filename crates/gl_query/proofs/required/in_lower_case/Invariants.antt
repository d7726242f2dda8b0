use Rattle.std.proofs.Common.{◌≡◌, ◌++◌, map, drop}
use Rattle.std.specs.Char.{to_ascii_lowercase}
use Rattle.gl_query.proofs.required.in_lower_case.Given as goal

-- what was written, and what is left
abbrev pub invariant-loop-b : goal.invariant-loop-b
invariant-loop-b l = l.lower.items ++ map to_ascii_lowercase (drop l.b-index l.token) ≡ map to_ascii_lowercase l.token
