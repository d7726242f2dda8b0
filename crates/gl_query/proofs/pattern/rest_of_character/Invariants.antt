use Rattle.std.proofs.Common.{◌≡◌, drop}
use Rattle.gl_query.specs.Patterns.{rest_of_character}
use Rattle.gl_query.proofs.pattern.rest_of_character.Given as goal

abbrev pub invariant-loop-n : goal.invariant-loop-n
invariant-loop-n l = rest_of_character (drop l.n l.text) ≡ rest_of_character l.text
