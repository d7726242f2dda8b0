use Rattle.std.proofs.Common.{None, Some, string_bytes, subst}
use Rattle.regex.specs.Names.{names_of, IsIndexOf}
use Rattle.gl_patterns.proofs.Patterns.{index_is}
use Rattle.gl_patterns.proofs.pattern.Pattern.group_of_name.Goals as goal

pub returns-in-Some : goal.returns-in-Some
returns-in-Some c =
    let p = c.self.inside in
    rw c.self.view_is at (index_is (string_bytes p.source) p.engine.program.hir (names_of p.names.items) c.self.invariant.read c.args.name.now (Some c.in-Some.index)
    (subst (λ l. IsIndexOf (names_of l) c.args.name.now (Some c.in-Some.index)) c.deref.ensures.value c.in-Some.ensures))

pub returns-in-None : goal.returns-in-None
returns-in-None c =
    let p = c.self.inside in
    rw c.self.view_is at (index_is (string_bytes p.source) p.engine.program.hir (names_of p.names.items) c.self.invariant.read c.args.name.now None
    (subst (λ l. IsIndexOf (names_of l) c.args.name.now None) c.deref.ensures.value c.in-None.ensures))
