use Rattle.std.proofs.Common.{refl, sym, ◌∙◌, ap, subst, false, length, option_map}
use Rattle.regex_dfa.specs.Search.{end_from, entry, IsEnd}
use Rattle.regex_meta.proofs.LeftmostLemmas.{are_bytes}
use Rattle.regex_meta.proofs.ProgramLemmas.{IsLocated_end, leftmost_no_end, first_match-leftmost}
use Rattle.regex_vm.specs.Found.{span}
use Rattle.gl_patterns.proofs.engine.Engine.find_span.Goals as goal

pub look_back-requires : goal.look_back-requires
look_back-requires c =
    let p = c.args.self.now.program in
    let hay = c.args.hay.now in
    let h = subst (IsEnd p.dfa.nfa hay c.args.start (length hay) false false (end_from p.dfa.nfa hay (length hay) (entry p.dfa.nfa false) c.args.start))
    c.in-At.is c.find_end.ensures.end in
    (IsLocated_end p hay (are_bytes hay c.type_inv.hay) c.args.start c.in-At.end false h.2 h.3 h.0 h.1).1 refl

pub returns-in-NoMatch-clause-found : goal.returns-in-NoMatch-clause-found
returns-in-NoMatch-clause-found c =
    let p = c.args.self.now.program in
    let hay = c.args.hay.now in
    let h = subst (IsEnd p.dfa.nfa hay c.args.start (length hay) false false (end_from p.dfa.nfa hay (length hay) (entry p.dfa.nfa false) c.args.start))
    c.in-NoMatch.is c.find_end.ensures.end in
    sym (ap (option_map span) (leftmost_no_end p hay (are_bytes hay c.type_inv.hay) c.args.start c.requires h))

pub returns-in-Idle-clause-found : goal.returns-in-Idle-clause-found
returns-in-Idle-clause-found c =
    c.step_by_step.ensures.found ∙ ap (option_map span) (first_match-leftmost c.args.self.now.program c.args.hay.now c.args.start)

pub invariant_of-self : goal.invariant_of-self
invariant_of-self c = record {
  forward_runs = c.find_end.ensures.own;
  reverse_runs = c.args.self.now.reverse_runs;
  forward_room = c.find_end.ensures.budget 0x4_0000 c.args.self.now.forward_room;
  reverse_room = c.args.self.now.reverse_room;
  pikevm_states = c.args.self.now.pikevm_states;
  pikevm_groups = c.args.self.now.pikevm_groups;
}
