use Rattle.std.proofs.Common.{◌≡◌, ◌++◌, length}
use Rattle.std.specs.Str.{IsUtf8}
use Rattle.std.specs.String.{string_bytes}
use Rattle.gl_rulelang.specs.Tokens.{unescaped}
use Rattle.gl_rulelang.proofs.text.unescape.Given as goal

-- what was written, and what is left to spell
abbrev pub invariant-loop-rest : goal.invariant-loop-rest
invariant-loop-rest l = (string_bytes l.out ++ unescaped l.rest ≡ unescaped l.spelled) × IsUtf8 l.rest

abbrev pub decreases-loop-rest : goal.decreases-loop-rest
decreases-loop-rest l = length l.rest
