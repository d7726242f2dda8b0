use Rattle.std.proofs.Common.{ℕ, IfSome, Option, length, sym, ◌∙◌, subst}
use Rattle.regex_meta.proofs.LeftmostLemmas.{are_bytes}
use Rattle.regex_meta.specs.Programs.{pattern_of}
use Rattle.gl_patterns.specs.Patterns.{CutsIn}
use Rattle.gl_patterns.proofs.Groups.{first_group_in}
use Rattle.gl_patterns.proofs.pattern.group_of_first.Goals as goal

pub returns-clause-value : goal.returns-clause-value
returns-clause-value c =
    let found = c.in_ok-whole.ensures in
    let s = first_group_in (pattern_of c.args.engine.now.program) c.as_bytes.result.now c.args.text.now c.as_bytes.ensures.value (are_bytes c.args.text.now c.type_inv.text)
    c.as_bytes.ensures.utf8 c.requires.parts (length c.args.cells.now) c.args.index c.in_ok-whole.whole c.find_in_text.new.cells c.requires.fits found.found found.cells in
    c.span_of.ensures ∙ s.0

pub returns-clause-cuts : goal.returns-clause-cuts
returns-clause-cuts c =
    let found = c.in_ok-whole.ensures in
    let s = first_group_in (pattern_of c.args.engine.now.program) c.as_bytes.result.now c.args.text.now c.as_bytes.ensures.value (are_bytes c.args.text.now c.type_inv.text)
    c.as_bytes.ensures.utf8 c.requires.parts (length c.args.cells.now) c.args.index c.in_ok-whole.whole c.find_in_text.new.cells c.requires.fits found.found found.cells in
    subst (λ (o : Option (ℕ × ℕ)). IfSome o (CutsIn c.args.text.now)) (sym c.span_of.ensures) s.1
