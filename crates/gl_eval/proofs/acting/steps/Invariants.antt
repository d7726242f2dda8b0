use Rattle.std.proofs.Common.{◌≡◌, drop, map, fold}
use Rattle.std.specs.List.{flat_map}
use Rattle.gl_rulelang.specs.Tree.{action_of}
use Rattle.gl_check.specs.Checking.{step_patterns}
use Rattle.gl_functions.specs.Worlds.{known_of}
use Rattle.gl_eval.specs.Actions.{course_behind, stepped_or_dropped}
use Rattle.gl_eval.specs.Patterns.{StandAt, StepsHavePatterns}
use Rattle.gl_eval.specs.Scopes.{course_of}
use Rattle.gl_eval.proofs.acting.steps.Given as goal

-- what is left leads from here to the same course, and its patterns are the next ones
abbrev pub invariant-loop-action : goal.invariant-loop-action
invariant-loop-action l =
    record {
      course : fold (stepped_or_dropped (known_of l.world)) (course_of l.state l.variables.items) (map action_of (drop l.action-index l.actions)) ≡ course_behind (known_of l.world) (map action_of l.actions) l.fn.state;
      lawful : StepsHavePatterns (map action_of (drop l.action-index l.actions));
      patterns : StandAt l.laid.next (flat_map step_patterns (map action_of (drop l.action-index l.actions))) l.laid.patterns.items;
      same : l.laid.patterns.items ≡ l.fn.laid.patterns.items;
    }
