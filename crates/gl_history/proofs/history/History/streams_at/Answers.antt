use Rattle.std.proofs.Common.{sym, subst, ◌∙◌, ◌<◌, ◌+◌, length, arith}
use Rattle.gl_history.specs.History.{Kept, Remembers}
use Rattle.gl_history.specs.Keeping.{kept_of}
use Rattle.gl_history.proofs.Remembering.{streams_there}
use Rattle.gl_history.proofs.history.History.streams_at.Goals as goal

pub returns : goal.returns
returns c = λ journal from r.
    let within : c.args.version < c.self.inside.from + length c.self.inside.configs.items
    = subst (λ (k : Kept). c.args.version < k.from + length k.configs) (sym c.self.view_is) c.requires in
    let counted : c.args.version < length c.self.inside.counts.items = omega (arith, within, c.self.invariant.counts) in
    c.index.ensures
    ∙ streams_there (kept_of c.self.inside) journal from c.args.version c.index.result.now (subst (λ (k : Kept). Remembers k journal from) (sym c.self.view_is) r) counted
