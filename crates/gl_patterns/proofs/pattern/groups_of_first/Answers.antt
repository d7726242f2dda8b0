use Rattle.std.proofs.Common.{◌≡◌, ℕ, IfSome, None, Option, Some, is_some, length, sym, ap, ◌∙◌, subst, option_map}
use Rattle.regex_hir.specs.Find.{find_str}
use Rattle.regex_meta.proofs.LeftmostLemmas.{are_bytes}
use Rattle.regex_meta.proofs.ProgramLemmas.{none_of_option_map, value_of_option_map}
use Rattle.regex_meta.specs.Programs.{pattern_of}
use Rattle.regex_vm.specs.Found.{span}
use Rattle.gl_patterns.specs.Patterns.{CutsIn}
use Rattle.gl_patterns.proofs.Groups.{first_group_in, no_group}
use Rattle.gl_patterns.proofs.pattern.groups_of_first.Goals as goal

pub returns-clause-found : goal.returns-clause-found
returns-clause-found c =
    let re = pattern_of c.args.engine.now.program in
    let found = subst (λ h. Some c.in-Some.whole ≡ option_map span (find_str re h 0)) c.as_bytes.ensures.value c.in-Some.ensures.found in
    let v = value_of_option_map span (find_str re c.args.text.now 0) c.in-Some.whole (sym found) in
    sym (ap is_some v.1)

pub returns-clause-each : goal.returns-clause-each
returns-clause-each c n low =
    let found = c.in-Some.ensures in
    let s = first_group_in (pattern_of c.args.engine.now.program) c.as_bytes.result.now c.args.text.now c.as_bytes.ensures.value (are_bytes c.args.text.now c.type_inv.text)
    c.as_bytes.ensures.utf8 c.requires.parts (length c.args.cells.now) n c.in-Some.whole c.find_in_text.new.cells c.requires.fits found.found found.cells in
    c.fill_spans.ensures.each n low ∙ s.0

pub returns-clause-cuts : goal.returns-clause-cuts
returns-clause-cuts c n low =
    let found = c.in-Some.ensures in
    let s = first_group_in (pattern_of c.args.engine.now.program) c.as_bytes.result.now c.args.text.now c.as_bytes.ensures.value (are_bytes c.args.text.now c.type_inv.text)
    c.as_bytes.ensures.utf8 c.requires.parts (length c.args.cells.now) n c.in-Some.whole c.find_in_text.new.cells c.requires.fits found.found found.cells in
    subst (λ (o : Option (ℕ × ℕ)). IfSome o (CutsIn c.args.text.now)) (sym (c.fill_spans.ensures.each n low)) s.1

pub returns-in_default-clause-found : goal.returns-in_default-clause-found
returns-in_default-clause-found c =
    let re = pattern_of c.args.engine.now.program in
    let found = subst (λ h. None ≡ option_map span (find_str re h 0)) c.as_bytes.ensures.value c.in_default.ensures.found in
    sym (ap is_some (none_of_option_map span (find_str re c.args.text.now 0) (sym found)))

pub returns-in_default-clause-each : goal.returns-in_default-clause-each
returns-in_default-clause-each c n low =
    let re = pattern_of c.args.engine.now.program in
    let found = subst (λ h. None ≡ option_map span (find_str re h 0)) c.as_bytes.ensures.value c.in_default.ensures.found in
    c.clear_spans.ensures.each n low ∙ sym (no_group re c.args.text.now n found)

pub returns-in_default-clause-cuts : goal.returns-in_default-clause-cuts
returns-in_default-clause-cuts c n low =
    subst (λ (o : Option (ℕ × ℕ)). IfSome o (CutsIn c.args.text.now)) (sym (c.clear_spans.ensures.each n low)) tt
