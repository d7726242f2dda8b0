use Rattle.std.proofs.Common.{◌≡◌, sym, ◌∙◌, ap, subst, length, option_map, IfSome, rules}
use Rattle.regex_meta.proofs.ProgramLemmas.{first_match_span, no_groups}
use Rattle.regex_meta.specs.declared.program.Program.{Program}
use Rattle.regex_vm.specs.Found.{first_match, group_cells, span}
use Rattle.gl_patterns.proofs.engine.Engine.find.Goals as goal

pub returns-then-is_empty-clause-cells : goal.returns-then-is_empty-clause-cells
returns-then-is_empty-clause-cells c = no_groups _ c.args.cells.now (search rules)

pub step_by_step-requires-clause-ordered : goal.step_by_step-requires-clause-ordered
step_by_step-requires-clause-ordered c =
    let h = first_match_span c.args.self.now.program c.args.hay.now c.args.start c.in_ok-from.from c.in_ok-from.end (sym c.in_ok-from.ensures.found) in
    (h.0, h.0, h.1)

pub returns-clause-found : goal.returns-clause-found
returns-clause-found c =
    let hay = c.args.hay.now in
    let h = first_match_span c.args.self.now.program hay c.args.start c.in_ok-from.from c.in_ok-from.end (sym c.in_ok-from.ensures.found) in
    let same = ap (λ (q : Program). first_match q.dfa.nfa hay c.in_ok-from.end c.in_ok-from.from c.in_ok-from.from) c.find_span.ensures.same ∙ h.2 in
    c.step_by_step.ensures.found ∙ ap (option_map span) same

pub returns-clause-cells : goal.returns-clause-cells
returns-clause-cells c =
    let hay = c.args.hay.now in
    let h = first_match_span c.args.self.now.program hay c.args.start c.in_ok-from.from c.in_ok-from.end (sym c.in_ok-from.ensures.found) in
    let same = ap (λ (q : Program). first_match q.dfa.nfa hay c.in_ok-from.end c.in_ok-from.from c.in_ok-from.from) c.find_span.ensures.same ∙ h.2 in
    subst (λ o. IfSome o (λ m. c.step_by_step.new.cells ≡ group_cells m (length c.args.cells.now))) same c.step_by_step.ensures.cells
