use Rattle.std.proofs.Common.{◌∙◌, ap, is_some, arith}
use Rattle.regex_hir.specs.Find.{find_str}
use Rattle.regex_meta.proofs.LeftmostLemmas.{are_bytes}
use Rattle.regex_meta.proofs.ProgramLemmas.{no_shorter_lem}
use Rattle.regex_meta.specs.Programs.{pattern_of}
use Rattle.regex_syntax.proofs.Written.{is_some-option_map}
use Rattle.regex_vm.specs.Found.{span}
use Rattle.regex.proofs.Utf8Lemmas.{find_str_of_filled}
use Rattle.gl_patterns.proofs.engine.Engine.has_match_in_text.Goals as goal

pub returns-then-self-eq0-clause-found : goal.returns-then-self-eq0-clause-found
returns-then-self-eq0-clause-found c =
    c.is_some.ensures ∙ ap is_some c.find_in_text.ensures.found ∙ is_some-option_map span (find_str (pattern_of c.args.self.now.program) c.args.hay.now 0)

pub returns-clause-found : goal.returns-clause-found
returns-clause-found c =
    let p = c.args.self.now.program in
    let hay = c.args.hay.now in
    let filled = c.if-self-eq0.false in
    c.has_match.ensures.found ∙ ap is_some (find_str_of_filled (pattern_of p) hay (are_bytes hay c.type_inv.hay) ∣ c.requires ∣₁
    (λ i t e. let long = no_shorter_lem p hay i t e in omega arith) 0)
