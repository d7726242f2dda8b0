use Rattle.std.proofs.Common.{◌≡◌, ◌<◌, IfSome, length, option_map, string_bytes, subst, arith}
use Rattle.std.proofs.lemmas.List.{length-map}
use Rattle.regex.specs.Names.{names_of}
use Rattle.gl_patterns.specs.Patterns.{group_called}
use Rattle.gl_patterns.proofs.Patterns.{index_within}
use Rattle.gl_patterns.proofs.pattern.Pattern.group_count.Goals as goal

pub returns : goal.returns
returns c name =
    let p = c.self.inside in
    let size : length (names_of p.names.items) ≡ c.len.result = omega (arith, p.names.ok.0, length-map p.names.items (option_map string_bytes)) in
    rw (← c.self.view_is) (subst (λ most. IfSome (group_called (string_bytes p.source) name) (λ n. n < most)) size
    (index_within (string_bytes p.source) p.engine.program.hir (names_of p.names.items) c.self.invariant.read name))
