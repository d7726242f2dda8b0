use Rattle.std.proofs.Common.{sym, ◌∙◌, ap, subst, false, true, is_some, length, option_map, arith}
use Rattle.regex_dfa.specs.Search.{end_from, entry, IsEnd}
use Rattle.regex_meta.proofs.LeftmostLemmas.{are_bytes}
use Rattle.regex_meta.proofs.ProgramLemmas.{IsLocated_end, leftmost_no_end, first_match-leftmost}
use Rattle.regex_meta.specs.Programs.{leftmost}
use Rattle.regex_syntax.proofs.Written.{is_some-option_map}
use Rattle.regex_vm.specs.Found.{span}
use Rattle.gl_patterns.proofs.engine.Engine.has_match.Goals as goal

pub returns-in-At-clause-found : goal.returns-in-At-clause-found
returns-in-At-clause-found c =
    let p = c.args.self.now.program in
    let hay = c.args.hay.now in
    let h = subst (IsEnd p.dfa.nfa hay 0 (length hay) false true (end_from p.dfa.nfa hay (length hay) (entry p.dfa.nfa false) 0)) c.in-At.is c.find_end.ensures.end in
    sym (IsLocated_end p hay (are_bytes hay c.type_inv.hay) 0 _ true h.2 h.3 h.0 h.1).0

pub returns-in-NoMatch-clause-found : goal.returns-in-NoMatch-clause-found
returns-in-NoMatch-clause-found c =
    let p = c.args.self.now.program in
    let hay = c.args.hay.now in
    let h = subst (IsEnd p.dfa.nfa hay 0 (length hay) false true (end_from p.dfa.nfa hay (length hay) (entry p.dfa.nfa false) 0)) c.in-NoMatch.is c.find_end.ensures.end in
    sym (ap is_some (leftmost_no_end p hay (are_bytes hay c.type_inv.hay) 0 (omega arith) h))

pub returns-in-Idle-clause-found : goal.returns-in-Idle-clause-found
returns-in-Idle-clause-found c =
    let p = c.args.self.now.program in
    let hay = c.args.hay.now in
    c.is_some.ensures ∙ ap is_some (c.step_by_step.ensures.found ∙ ap (option_map span) (first_match-leftmost p hay 0)) ∙ is_some-option_map span (leftmost p hay 0)

pub invariant_of-self : goal.invariant_of-self
invariant_of-self c = record {
  forward_runs = c.find_end.ensures.own;
  reverse_runs = c.args.self.now.reverse_runs;
  forward_room = c.find_end.ensures.budget 0x4_0000 c.args.self.now.forward_room;
  reverse_room = c.args.self.now.reverse_room;
  pikevm_states = c.args.self.now.pikevm_states;
  pikevm_groups = c.args.self.now.pikevm_groups;
}
