use Rattle.std.proofs.Common.{◌≡◌, None, Some, length, option_map, sym, ap, ◌∙◌, arith, rules}
use Rattle.regex_meta.specs.Programs.{pattern_of, leftmost}
use Rattle.regex_vm.specs.Found.{span, group_cells}
use Rattle.gl_patterns.proofs.Searches.{none_in_text, here_in_text, later_in_text, at_some}
use Rattle.gl_patterns.proofs.engine.Engine.find_in_text.Goals as goal

pub returns-in_err-from-clause-found : goal.returns-in_err-from-clause-found
returns-in_err-from-clause-found c =
    let re = pattern_of c.args.self.now.program in
    let hay = c.args.hay.now in
    let at = c.loop-from.at in
    let inv = c.loop-from.invariant in
    let none = inv.3 ∙ none_in_text re hay at (c.in_err-from.ensures.found ∙ ap (λ p. option_map span (leftmost p hay at)) inv.1) in
    let nothing : c.from_residual.result ≡ None = search rules in
    nothing ∙ sym (ap (option_map span) none)

pub returns-in_err-from-clause-cells : goal.returns-in_err-from-clause-cells
returns-in_err-from-clause-cells c =
    let re = pattern_of c.args.self.now.program in
    let hay = c.args.hay.now in
    let at = c.loop-from.at in
    let inv = c.loop-from.invariant in
    let none = inv.3 ∙ none_in_text re hay at (c.in_err-from.ensures.found ∙ ap (λ p. option_map span (leftmost p hay at)) inv.1) in
    rw none tt

pub returns-then-is_cut-clause-found : goal.returns-then-is_cut-clause-found
returns-then-is_cut-clause-found c =
    let re = pattern_of c.args.self.now.program in
    let hay = c.args.hay.now in
    let at = c.loop-from.at in
    let inv = c.loop-from.invariant in
    let found = c.in_ok-from.ensures.found ∙ ap (λ p. option_map span (leftmost p hay at)) inv.1 in
    let h = here_in_text re hay at c.in_ok-from.from c.in_ok-from.end found (sym c.is_cut.ensures ∙ c.if-is_cut.true) in
    sym (ap (option_map span) (inv.3 ∙ h.2) ∙ ap Some h.3)

pub returns-then-is_cut-clause-cells : goal.returns-then-is_cut-clause-cells
returns-then-is_cut-clause-cells c =
    let re = pattern_of c.args.self.now.program in
    let hay = c.args.hay.now in
    let at = c.loop-from.at in
    let inv = c.loop-from.invariant in
    let found = c.in_ok-from.ensures.found ∙ ap (λ p. option_map span (leftmost p hay at)) inv.1 in
    let h = here_in_text re hay at c.in_ok-from.from c.in_ok-from.end found (sym c.is_cut.ensures ∙ c.if-is_cut.true) in
    let filled = at_some (λ m. c.find.new.cells ≡ group_cells m (length c.loop-from.cells)) (leftmost c.loop-from.self.program hay at) h.0
    (ap (λ p. leftmost p hay at) inv.1 ∙ h.1) c.in_ok-from.ensures.cells in
    rw (inv.3 ∙ h.2) (filled ∙ ap (group_cells h.0) inv.2)

pub overflow_add-at : goal.overflow_add-at
overflow_add-at c =
    let re = pattern_of c.args.self.now.program in
    let hay = c.args.hay.now in
    let at = c.loop-from.at in
    let inv = c.loop-from.invariant in
    let found = c.in_ok-from.ensures.found ∙ ap (λ p. option_map span (leftmost p hay at)) inv.1 in
    let h = later_in_text re hay at c.in_ok-from.from c.in_ok-from.end found (sym c.is_cut.ensures ∙ c.if-is_cut.false) in
    omega (arith, h.1)

pub loop-from-smaller : goal.loop-from-smaller
loop-from-smaller c =
    let re = pattern_of c.args.self.now.program in
    let hay = c.args.hay.now in
    let at = c.loop-from.at in
    let inv = c.loop-from.invariant in
    let found = c.in_ok-from.ensures.found ∙ ap (λ p. option_map span (leftmost p hay at)) inv.1 in
    let h = later_in_text re hay at c.in_ok-from.from c.in_ok-from.end found (sym c.is_cut.ensures ∙ c.if-is_cut.false) in
    omega (arith, h.0, h.1)

pub loop-from-preserved : goal.loop-from-preserved
loop-from-preserved c =
    let re = pattern_of c.args.self.now.program in
    let hay = c.args.hay.now in
    let at = c.loop-from.at in
    let inv = c.loop-from.invariant in
    let found = c.in_ok-from.ensures.found ∙ ap (λ p. option_map span (leftmost p hay at)) inv.1 in
    let h = later_in_text re hay at c.in_ok-from.from c.in_ok-from.end found (sym c.is_cut.ensures ∙ c.if-is_cut.false) in
    (omega (arith, h.1), c.in_ok-from.ensures.same ∙ inv.1, c.in_ok-from.ensures.size ∙ inv.2, inv.3 ∙ h.2)
