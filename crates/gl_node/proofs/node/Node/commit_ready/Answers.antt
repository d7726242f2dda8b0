use Rattle.std.proofs.Common.{Bool, IsTrue, refl, sym, ◌∙◌, subst}
use Rattle.gl_node.specs.declared.committing.Step.{Step}
use Rattle.gl_node.specs.State.{Committed, happened, state_after}
use Rattle.gl_node.specs.Claims.{commits}
use Rattle.gl_node.specs.Commits.{IsStep}
use Rattle.gl_node.proofs.Ready.{started, went_on, stayed}
use Rattle.gl_node.proofs.Finishes.{on_err, ended}
use Rattle.gl_node.proofs.Moments.{nothing_yet, more_commits}
use Rattle.gl_node.proofs.node.Node.commit_ready.Goals as goal

pub loop-at-init : goal.loop-at-init
loop-at-init g c = record {
  running = c.requires.running;
  some = λ s k. started s c.args.self.now k;
  keeps = c.requires.keeps;
  same = (refl, refl);
  ready = c.requires.ready;
  stands = λ tells on. on;
  moments = λ tells on s k. nothing_yet c.args.self.now s k (g.D.Disk.state c.args.disk.now) on (commits s);
  tells = refl;
  faults = refl;
}

pub returns-in_err-commit_one-clause-went_on : goal.returns-in_err-commit_one-clause-went_on
returns-in_err-commit_one-clause-went_on g c =
    on_err c.from_residual.result _ (λ s k.
    let so = c.loop-at.invariant.some s k in
    stayed s c.loop-at.self c.commit_one.new.self so (c.in_err-commit_one.ensures.refused (state_after s so.done) so.keeps))

pub loop-at-preserved : goal.loop-at-preserved
loop-at-preserved g c =
    let before = c.loop-at.invariant in
    let now = c.commit_one.ensures in
    let here = before.keeps in
    let step = subst (λ (st : Step). IsStep here.0 c.commit_one.new.self st) c.in-Committed.is (c.in_ok-commit_one.ensures.step here.0 here.1) in
    record {
      running = c.in_ok-commit_one.ensures.running;
      some = λ s k.
          let so = before.some s k in
          went_on s c.loop-at.self c.commit_one.new.self so
          (subst (λ (st : Step). IsStep (state_after s so.done) c.commit_one.new.self st) c.in-Committed.is (c.in_ok-commit_one.ensures.step (state_after s so.done) so.keeps));
      keeps = (happened here.0 (Committed step.mark), step.keeps);
      same = (c.in_ok-commit_one.ensures.same.0 ∙ before.same.0, c.in_ok-commit_one.ensures.same.1 ∙ before.same.1);
      ready = λ tells. now.ready (subst (λ (b : Bool). IsTrue b) now.tells tells) c.in_ok-commit_one.ensures.running;
      stands = λ tells on.
          let told = subst (λ (b : Bool). IsTrue b) now.tells tells in
          now.stands told c.in_ok-commit_one.ensures.running (before.stands told on);
      moments = λ tells on s k.
          let told = subst (λ (b : Bool). IsTrue b) (sym before.tells) tells in
          let so = before.some s k in
          more_commits s c.loop-at.self so (g.D.Disk.state c.args.disk.now) (g.D.Disk.state c.loop-at.disk) (g.D.Disk.state c.commit_one.new.disk) (before.moments tells on s k)
          (now.any_moment told (before.stands told on) (state_after s so.done) so.keeps);
      tells = now.tells ∙ before.tells;
      faults = (c.in_ok-commit_one.ensures.faults.steady (λ f h. cc h)).0 ∙ before.faults;
    }

pub returns-clause-answer : goal.returns-clause-answer
returns-clause-answer g c = λ s k.
    ended s c.loop-at.self (c.loop-at.invariant.some s k) (sym c.ready.ensures ∙ c.in_default.is) c.len.result c.len.ensures

pub returns-in_err-commit_one-clause-any_moment : goal.returns-in_err-commit_one-clause-any_moment
returns-in_err-commit_one-clause-any_moment g c = λ tells on s k.
    let before = c.loop-at.invariant in
    let told = subst (λ (b : Bool). IsTrue b) (sym before.tells) tells in
    let so = before.some s k in
    more_commits s c.loop-at.self so (g.D.Disk.state c.args.disk.now) (g.D.Disk.state c.loop-at.disk) (g.D.Disk.state c.commit_one.new.disk) (before.moments tells on s k)
    (c.commit_one.ensures.any_moment told (before.stands told on) (state_after s so.done) so.keeps)

pub returns-in-Full-clause-any_moment : goal.returns-in-Full-clause-any_moment
returns-in-Full-clause-any_moment g c = λ tells on s k.
    let before = c.loop-at.invariant in
    let told = subst (λ (b : Bool). IsTrue b) (sym before.tells) tells in
    let so = before.some s k in
    more_commits s c.loop-at.self so (g.D.Disk.state c.args.disk.now) (g.D.Disk.state c.loop-at.disk) (g.D.Disk.state c.commit_one.new.disk) (before.moments tells on s k)
    (c.commit_one.ensures.any_moment told (before.stands told on) (state_after s so.done) so.keeps)
