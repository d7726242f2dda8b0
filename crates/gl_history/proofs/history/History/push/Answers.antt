use Rattle.std.proofs.Common.{refl, sym, subst, ◌∙◌, ◌++◌, ◌∷◌, [], length}
use Rattle.gl_history.specs.History.{Kept, Remembers}
use Rattle.gl_history.specs.Keeping.{kept_of}
use Rattle.gl_history.proofs.Remembering.{remembers_command}
use Rattle.gl_history.proofs.history.History.push.Goals as goal

pub returns : goal.returns
returns c = λ journal text from r at is.
    remembers_command (kept_of c.self.inside)
    (kept_of (record { from = c.self.inside.from; configs = c.push_back_reserved.new.self; commands = c.push_reserved-2.new.self; counts = c.push_reserved.new.self }))
    journal text from c.args.position c.args.config (subst (λ (k : Kept). Remembers k journal from) (sym c.self.view_is) r) at is refl
    c.push_back_reserved.ensures.items c.push_reserved-2.ensures.items
    (c.push_reserved.ensures.items ∙ (λ i. c.self.inside.counts.items ++ length (c.streams.ensures i) ∷ []))
