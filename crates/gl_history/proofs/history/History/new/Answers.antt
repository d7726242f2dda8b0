use Rattle.std.proofs.Common.{refl, ap, ◌∙◌, List, ◌++◌, ◌∷◌, [], length}
use Rattle.gl_history.specs.Keeping.{kept_of}
use Rattle.gl_settings.specs.Settings.{Settings}
use Rattle.gl_history.proofs.Remembering.{remembers_none}
use Rattle.gl_history.proofs.history.History.new.Goals as goal

pub returns : goal.returns
returns c =
    remembers_none (kept_of (record { from = 0; configs = c.push_back.new.self; commands = c.new.result; counts = c.push.new.self })) c.args.config c.requires refl
    (c.in_ok-push_back.ensures.items ∙ ap (λ (cs : List Settings). cs ++ c.args.config ∷ []) c.new-configs.ensures.items)
    c.new.ensures.items
    (c.in_ok-push.ensures.items ∙ (λ i. c.new-counts.ensures.items i ++ length (c.streams.ensures i) ∷ []))
