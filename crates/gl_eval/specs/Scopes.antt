-- What the code lends to expressions, as contracts see it.
use Rattle.std.specs.Prelude.{ℕ, List, map}
use Rattle.gl_check.specs.Values.{Value}
use Rattle.gl_functions.specs.Worlds.{known_of}
use Rattle.gl_eval.specs.declared.scope.Scope.{Scope as Lent}
use Rattle.gl_eval.specs.declared.scope.Variable.{Variable}
use Rattle.gl_eval.specs.declared.staged.Staged.{Staged}
use Rattle.gl_eval.specs.Meaning.{Scope}
use Rattle.gl_eval.specs.Actions.{Course}

abbrev pub named_value : Variable → List ℕ × Value
named_value v = (v.name.now, v.value)

abbrev pub scope_in : Lent → Scope
scope_in s = record {
  sight = record { world = known_of s.world.now; fields = s.fields.now; streams = s.streams.now };
  variables = map named_value s.variables.now;
}

abbrev pub course_of : Staged → List Variable → Course
course_of m variables = record { message = m; variables = map named_value variables }
