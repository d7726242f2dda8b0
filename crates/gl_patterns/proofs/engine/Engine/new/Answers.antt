use Rattle.std.proofs.Common.{rules}
use Rattle.gl_patterns.proofs.engine.Engine.new.Goals as goal

pub invariant_of-result : goal.invariant_of-result
invariant_of-result c = record {
  forward_runs = c.in_ok-forward.ensures.own;
  reverse_runs = c.in_ok-reverse.ensures.own;
  forward_room = c.in_ok-forward.ensures.budget;
  reverse_room = c.in_ok-reverse.ensures.budget;
  pikevm_states = search rules;
  pikevm_groups = search rules;
}
