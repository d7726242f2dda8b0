use Rattle.std.proofs.Common.{string_bytes, ◌∙◌}
use Rattle.regex.specs.Names.{names_of}
use Rattle.regex_meta.proofs.LeftmostLemmas.{are_bytes}
use Rattle.gl_patterns.proofs.Patterns.{group_is}
use Rattle.gl_patterns.proofs.pattern.Pattern.group.Goals as goal

pub returns-clause-value : goal.returns-clause-value
returns-clause-value c =
    let p = c.self.inside in
    rw (← c.self.view_is) (c.group_of_first.ensures.value
    ∙ group_is (string_bytes p.source) p.engine.program.hir (names_of p.names.items) c.self.invariant.read c.args.text.now (are_bytes c.args.text.now c.type_inv.text) c.args.group)
