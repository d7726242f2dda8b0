use Rattle.std.proofs.Common.{◌∙◌}
use Rattle.gl_covers.proofs.Gathering.{whole}
use Rattle.gl_covers.proofs.finding.suspects.Goals as goal

pub returns : goal.returns
returns c = λ rows t stands is.
    whole c.args.words.now c.in_ok-found.found _ c.as_slice.result.now c.in_ok-found.ensures.found rows stands t (c.as_slice.ensures.nodes ∙ is)
