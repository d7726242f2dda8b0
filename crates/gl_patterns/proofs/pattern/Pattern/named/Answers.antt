use Rattle.std.proofs.Common.{None, Some, string_bytes, refl, subst, ◌∙◌}
use Rattle.regex.specs.Names.{names_of, IsIndexOf}
use Rattle.regex_meta.proofs.LeftmostLemmas.{are_bytes}
use Rattle.gl_patterns.proofs.Patterns.{group_is, index_is}
use Rattle.gl_patterns.proofs.pattern.Pattern.named.Goals as goal

pub returns-in_default-clause-value : goal.returns-in_default-clause-value
returns-in_default-clause-value c =
    let p = c.self.inside in
    let called = rw c.self.view_is at (index_is (string_bytes p.source) p.engine.program.hir (names_of p.names.items) c.self.invariant.read c.args.name.now None
    (subst (λ l. IsIndexOf (names_of l) c.args.name.now None) c.deref.ensures.value c.in_default.ensures)) in
    rw (← called) refl

pub returns-clause-value : goal.returns-clause-value
returns-clause-value c =
    let p = c.self.inside in
    let called = rw c.self.view_is at (index_is (string_bytes p.source) p.engine.program.hir (names_of p.names.items) c.self.invariant.read c.args.name.now (Some c.in-Some.index)
    (subst (λ l. IsIndexOf (names_of l) c.args.name.now (Some c.in-Some.index)) c.deref.ensures.value c.in-Some.ensures)) in
    let is = rw c.self.view_is at (group_is (string_bytes p.source) p.engine.program.hir (names_of p.names.items) c.self.invariant.read c.args.text.now
    (are_bytes c.args.text.now c.type_inv.text) c.in-Some.index) in
    rw (← called) (c.group_of_first.ensures.value ∙ is)
