use Rattle.std.proofs.Common.{refl, sym, subst, ◌<◌, ◌+◌, length}
use Rattle.gl_history.specs.History.{Kept, Remembers}
use Rattle.gl_history.specs.Keeping.{kept_of}
use Rattle.gl_history.proofs.Remembering.{remembers_later}
use Rattle.gl_history.proofs.history.History.forget_below.Goals as goal

pub returns-then-self-version-clause-remembers : goal.returns-then-self-version-clause-remembers
returns-then-self-version-clause-remembers c = λ journal from r.
    remembers_later (kept_of c.self.inside)
    (kept_of (record { from = c.args.version; configs = c.drop_front.new.configs; commands = c.self.inside.commands; counts = c.self.inside.counts }))
    journal from c.args.version (subst (λ (k : Kept). Remembers k journal from) (sym c.self.view_is) r)
    c.if-self-version.true
    (subst (λ (k : Kept). c.args.version < k.from + length k.configs) (sym c.self.view_is) c.requires)
    refl c.drop_front.ensures.items refl refl
