use Rattle.std.proofs.Common.{ap, reverse, ◌∙◌, lit<, rules}
use Rattle.std.proofs.lemmas.Str.Pattern.{strip_suffix_char}
use Rattle.gl_text.proofs.Spaces.{passed_last, none_last}
use Rattle.gl_text.proofs.trimming.before_spaces.Goals as goal

pub loop-before-preserved : goal.loop-before-preserved
loop-before-preserved c =
    let cut = strip_suffix_char 32 c.loop-before.rest.now c.strip_suffix.result c.strip_suffix.ensures.cases (lit< tt) in
    record { same = passed_last c.loop-before.rest.now c.in-Some.before.now (rw c.in-Some.is at cut) ∙ c.loop-before.invariant.same; utf8 = search rules }

pub returns : goal.returns
returns c =
    let cut = strip_suffix_char 32 c.loop-before.rest.now c.strip_suffix.result c.strip_suffix.ensures.cases (lit< tt) in
    none_last c.loop-before.rest.now (rw c.in_default.is at cut) ∙ ap reverse c.loop-before.invariant.same
