use Rattle.std.proofs.Common.{◌∙◌}
use Rattle.gl_streams.proofs.Gathering.{pattern_at}
use Rattle.gl_streams.proofs.walking.all_hold.Goals as goal

pub rule_matches-requires : goal.rule_matches-requires
rule_matches-requires c =
    pattern_at c.args.rules.now c.loop-i.patterns c.loop-i.i c.index-rules-i.result c.index-patterns-i.result (c.loop-i.invariant.same ∙ c.requires) c.loop-i-test.true c.index-rules-i.is
