use Rattle.std.proofs.Common.{◌∙◌, lit<, rules}
use Rattle.std.proofs.lemmas.Str.Pattern.{strip_prefix_char}
use Rattle.gl_text.proofs.Spaces.{passed, none_left}
use Rattle.gl_text.proofs.trimming.past_spaces.Goals as goal

pub loop-behind-preserved : goal.loop-behind-preserved
loop-behind-preserved c =
    let cut = strip_prefix_char 32 c.loop-behind.rest.now c.strip_prefix.result c.strip_prefix.ensures.cases (lit< tt) in
    record { same = passed c.loop-behind.rest.now c.in-Some.behind.now (rw c.in-Some.is at cut) ∙ c.loop-behind.invariant.same; utf8 = search rules }

pub returns : goal.returns
returns c =
    let cut = strip_prefix_char 32 c.loop-behind.rest.now c.strip_prefix.result c.strip_prefix.ensures.cases (lit< tt) in
    none_left c.loop-behind.rest.now (rw c.in_default.is at cut) ∙ c.loop-behind.invariant.same
