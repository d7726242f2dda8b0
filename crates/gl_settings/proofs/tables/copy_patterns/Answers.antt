use Rattle.std.proofs.lemmas.Result.{MatchResult-weaker}
use Rattle.gl_settings.proofs.Mapping.{cloned}
use Rattle.gl_settings.proofs.tables.copy_patterns.Goals as goal

pub returns : goal.returns
returns c = MatchResult-weaker c.clone.result c.clone.ensures.cases (λ copies h. cloned c.args.groks.now.entries copies.entries h) (λ e h. tt)
