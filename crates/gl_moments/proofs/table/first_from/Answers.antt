use Rattle.std.proofs.Common.{ℕ, List, sym, subst}
use Rattle.gl_moments.specs.Inside.{IsFirst, kept_at}
use Rattle.gl_moments.proofs.Ranging.{first_is, none_is}
use Rattle.gl_moments.proofs.table.first_from.Goals as goal

pub returns-in-Some : goal.returns-in-Some
returns-in-Some c =
    subst (λ (ps : List ℕ). IsFirst (kept_at c.args.minutes.now) c.args.low c.in-Some.minute.now ps) (sym c.as_slice.ensures)
    (first_is c.args.minutes.now c.args.low c.in-Some.minute.now c.in-Some.positions.now c.next.new.self c.range.result c.in-Some.ensures.steps (c.range.ensures.in_range tt))

pub returns-in-None : goal.returns-in-None
returns-in-None c = none_is c.args.minutes.now c.args.low c.range.result c.in-None.ensures.steps.0 (c.range.ensures.in_range tt)
