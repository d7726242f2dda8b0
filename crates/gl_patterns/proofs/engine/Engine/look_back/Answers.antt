use Rattle.std.proofs.Common.{◌∙◌, ap, option_map, subst}
use Rattle.regex_dfa.specs.Search.{IsLeast}
use Rattle.regex_meta.proofs.ProgramLemmas.{first_match_upto, span_from_least}
use Rattle.regex_nfa.specs.Paths.{Accepts}
use Rattle.regex_vm.specs.Found.{span}
use Rattle.gl_patterns.proofs.engine.Engine.look_back.Goals as goal

pub returns-in-At-clause-found : goal.returns-in-At-clause-found
returns-in-At-clause-found c =
    let p = c.args.self.now.program in
    let hay = c.args.hay.now in
    let h = subst (IsLeast (Accepts p.dfa.nfa hay c.args.end c.args.end p.dfa.nfa.start) c.args.floor c.args.end) c.in-At.is c.find_start.ensures.least in
    span_from_least p hay c.args.floor c.args.end c.in-At.from c.requires h.0 h.2 h.3

pub returns-in_default-clause-found : goal.returns-in_default-clause-found
returns-in_default-clause-found c =
    c.step_by_step.ensures.found ∙ ap (option_map span) (first_match_upto c.args.self.now.program c.args.hay.now c.args.floor c.args.end c.requires)

pub invariant_of-self : goal.invariant_of-self
invariant_of-self c = record {
  forward_runs = c.args.self.now.forward_runs;
  reverse_runs = c.find_start.ensures.own;
  forward_room = c.args.self.now.forward_room;
  reverse_room = c.find_start.ensures.budget 0x4_0000 c.args.self.now.reverse_room;
  pikevm_states = c.args.self.now.pikevm_states;
  pikevm_groups = c.args.self.now.pikevm_groups;
}
