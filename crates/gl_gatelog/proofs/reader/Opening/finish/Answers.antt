use Rattle.std.proofs.Common.{sym, ◌∙◌, ap}
use Rattle.gl_gatelog.specs.Progress.{OpeningView}
use Rattle.gl_gatelog.proofs.Standing.{same_view}
use Rattle.gl_gatelog.proofs.TakenUp.{taken_up_read}
use Rattle.gl_gatelog.proofs.reader.Opening.finish.Goals as goal

pub returns-then-self-clause-stands : goal.returns-then-self-clause-stands
returns-then-self-clause-stands g c tells b so_far empty =
    same_view _ c.args.self.log b (g.D.Disk.state c.args.disk.now) (ap (λ (x : OpeningView). x.log) c.self.view_is)
    (taken_up_read c.args.self b (g.D.Disk.state c.args.disk.now) so_far (sym (ap (λ (x : OpeningView). x.has_begin) c.self.view_is) ∙ c.if-self.true) (c.requires.ended tells) empty)
