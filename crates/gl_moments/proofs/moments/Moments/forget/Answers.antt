use Rattle.std.proofs.Common.{subst, ℕ}
use Rattle.gl_moments.specs.Inside.{Changes, kept_at}
use Rattle.gl_words.specs.Positions.{without_position}
use Rattle.gl_moments.proofs.Standing.{goes}
use Rattle.gl_moments.proofs.moments.Moments.forget.Goals as goal

pub returns : goal.returns
returns c = λ rows h held.
    goes (kept_at c.args.self.now.minutes) (kept_at c.take.new.minutes) rows c.args.row.now h held
    (subst (λ (m : ℕ). Changes (without_position c.args.row.now.position) m (kept_at c.args.self.now.minutes) (kept_at c.take.new.minutes)) c.minute_of.ensures c.take.ensures)
