use Rattle.std.proofs.Common.{◌≡◌, is_some, string_bytes, ◌∙◌, subst}
use Rattle.regex.specs.Names.{names_of}
use Rattle.regex_hir.specs.Find.{find_str}
use Rattle.regex_meta.proofs.LeftmostLemmas.{are_bytes}
use Rattle.regex_meta.specs.Programs.{pattern_of}
use Rattle.gl_patterns.proofs.Patterns.{found_is}
use Rattle.gl_patterns.proofs.pattern.Pattern.found.Goals as goal

pub returns-clause-value : goal.returns-clause-value
returns-clause-value c =
    let p = c.self.inside in
    let re = pattern_of p.engine.program in
    let text = c.args.text.now in
    let found = subst (λ h. c.has_match_in_text.result ≡ is_some (find_str re h 0)) c.as_bytes.ensures.value c.has_match_in_text.ensures.found in
    rw (← c.self.view_is) (found
    ∙ found_is (string_bytes p.source) p.engine.program.hir (names_of p.names.items) c.self.invariant.read text (are_bytes text c.type_inv.text))
