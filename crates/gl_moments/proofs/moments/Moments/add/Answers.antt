use Rattle.std.proofs.Common.{subst, ℕ}
use Rattle.std.proofs.lemmas.Result.{on_err_weaker, on_ok_weaker}
use Rattle.gl_moments.specs.Inside.{Changes, kept_at}
use Rattle.gl_words.specs.Positions.{with_position}
use Rattle.gl_moments.proofs.Standing.{comes, stays}
use Rattle.gl_moments.proofs.moments.Moments.add.Goals as goal

pub returns-clause-ok : goal.returns-clause-ok
returns-clause-ok c = λ rows h below.
    on_ok_weaker c.put.result
    (λ change. comes (kept_at c.args.self.now.minutes) (kept_at c.put.new.minutes) rows c.args.row.now h below
    (subst (λ (m : ℕ). Changes (with_position c.args.row.now.position) m (kept_at c.args.self.now.minutes) (kept_at c.put.new.minutes)) c.minute_of.ensures change))
    c.put.ensures.ok

pub returns-clause-err : goal.returns-clause-err
returns-clause-err c = λ rows h.
    on_err_weaker c.put.result (λ same. stays (kept_at c.args.self.now.minutes) (kept_at c.put.new.minutes) rows h same) c.put.ensures.err
