use Rattle.std.proofs.Common.{sym, subst, ap, ◌∙◌, ℕ, List, nat_lt}
use Rattle.std.specs.List.{prefix_len}
use Rattle.gl_history.specs.History.{Kept, Remembers}
use Rattle.gl_history.specs.Keeping.{kept_of}
use Rattle.gl_history.proofs.Remembering.{version_there}
use Rattle.gl_history.proofs.history.History.version_of.Goals as goal

pub returns : goal.returns
returns c = λ journal from r. c.commands_before.ensures
    ∙ ap (λ (xs : List ℕ). prefix_len (λ (command : ℕ). nat_lt command c.args.position) xs) c.as_slice.ensures.value
    ∙ version_there (kept_of c.self.inside) journal from c.args.position (subst (λ (k : Kept). Remembers k journal from) (sym c.self.view_is) r)
