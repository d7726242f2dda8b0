use Rattle.std.proofs.Common.{sym, subst, ap, ◌∙◌, ◌-◌, ◌≡◌, ℕ, length, get_or, arith}
use Rattle.gl_history.specs.History.{Kept, Remembers}
use Rattle.gl_history.specs.Keeping.{kept_of}
use Rattle.gl_history.proofs.Remembering.{present_there}
use Rattle.gl_history.proofs.history.History.present.Goals as goal

pub returns : goal.returns
returns c = λ journal from r.
    let last : c.len.result - 1 ≡ length c.self.inside.configs.items - 1 = omega (arith, c.len.ensures, c.self.inside.configs.ok) in
    c.index.ensures
    ∙ ap (λ (n : ℕ). get_or c.self.inside.configs.items n c.index.result.now) last
    ∙ present_there (kept_of c.self.inside) journal from c.index.result.now (subst (λ (k : Kept). Remembers k journal from) (sym c.self.view_is) r)
