use Rattle.std.proofs.Common.{string_bytes, ◌∙◌}
use Rattle.regex.specs.Names.{names_of}
use Rattle.regex_meta.proofs.LeftmostLemmas.{are_bytes}
use Rattle.gl_patterns.proofs.Patterns.{found_is, group_is}
use Rattle.gl_patterns.proofs.pattern.Pattern.groups.Goals as goal

pub returns-clause-found : goal.returns-clause-found
returns-clause-found c =
    let p = c.self.inside in
    rw (← c.self.view_is) (c.groups_of_first.ensures.found
    ∙ found_is (string_bytes p.source) p.engine.program.hir (names_of p.names.items) c.self.invariant.read c.args.text.now (are_bytes c.args.text.now c.type_inv.text))

pub returns-clause-each : goal.returns-clause-each
returns-clause-each c n low =
    let p = c.self.inside in
    rw (← c.self.view_is) (c.groups_of_first.ensures.each n low
    ∙ group_is (string_bytes p.source) p.engine.program.hir (names_of p.names.items) c.self.invariant.read c.args.text.now (are_bytes c.args.text.now c.type_inv.text) n)
