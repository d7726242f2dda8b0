use Rattle.std.proofs.Common.{◌≡◌, subst, ◌+◌, length, arith}
use Rattle.gl_history.specs.History.{Kept}
use Rattle.gl_history.proofs.history.History.last_version.Goals as goal

pub returns : goal.returns
returns c =
    let last : c.len.result + 1 ≡ c.self.inside.from + length c.self.inside.configs.items
    = omega (arith, c.self.invariant.counts, c.self.invariant.commands, c.len.ensures) in
    subst (λ (k : Kept). c.len.result + 1 ≡ k.from + length k.configs) c.self.view_is last
