use Rattle.std.proofs.Common.{sym, ◌∙◌}
use Rattle.gl_json.specs.Chars.{is_plain}
use Rattle.gl_json.proofs.Taking.{past_group}
use Rattle.gl_json.proofs.chars.behind_group.Goals as goal

pub returns-then-are_plain-clause-same : goal.returns-then-are_plain-clause-same
returns-then-are_plain-clause-same c =
    past_group is_plain c.args.bytes.now c.split_at.result.0.now c.split_at.result.1.now 16 c.split_at.ensures.front c.split_at.ensures.back (sym c.are_plain.ensures ∙ c.if-are_plain.true)
