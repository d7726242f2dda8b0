use Rattle.std.proofs.Common.{◌∙◌}
use Rattle.gl_settings.proofs.Placing.{placed_by}
use Rattle.gl_settings.proofs.named.placed.Goals as goal

pub returns : goal.returns
returns g c =
    placed_by g.T.Named.name_of c.args.item c.args.items.now c.as_str.result.now c.as_str-2.result.now c.in_ok-all.all c.push.new.self c.push_behind.new.copies
    (c.as_str.ensures ∙ c.in_ok-name.ensures ∙ c.name.ensures)
    (c.as_str-2.ensures ∙ c.in_ok-name.ensures ∙ c.name.ensures)
    c.in_ok-all.ensures c.in_ok-push.ensures.ok c.in_ok-push_behind.ensures
