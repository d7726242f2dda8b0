use Rattle.std.proofs.Common.{ℕ, ◌∷◌, [], ◌++◌, ◌∙◌, ap, subst, Option, MatchOption, Vec}
use Rattle.std.specs.declared.alloc.Global.{Global}
use Rattle.std.proofs.lemmas.Result.{err_from_is_err_and}
use Rattle.gl_outside.proofs.Telling.{still}
use Rattle.gl_gatelog.specs.Batch.{Batch}
use Rattle.gl_gatelog.specs.View.{GateView, batch_of}
use Rattle.gl_gatelog.specs.Progress.{OpeningView, HasRead, HasEnded, IsOfOne, IsFurther, IsNoFurther}
use Rattle.gl_gatelog.proofs.Reopening.{fault_reads, only_read_on, unchanged_on}
use Rattle.gl_gatelog.proofs.open.read_to_end.Goals as goal

of_further : (batch : Batch) (u v w : OpeningView) → IsOfOne u v → IsFurther batch v w → IsOfOne u w
of_further batch u v w same is = record {
  log = ap (λ (x : GateView). x.log) is.log ∙ same.log;
  segment_size = ap (λ (x : GateView). x.segment_size) is.log ∙ same.segment_size;
  limit = ap (λ (x : GateView). x.limit) is.log ∙ same.limit;
  has_begin = is.has_begin ∙ same.has_begin;
}

pub returns-in_err-next-clause-cause : goal.returns-in_err-next-clause-cause
returns-in_err-next-clause-cause g c tells b read =
    let p = err_from_is_err_and c.from_residual.result c.from_residual.ensures.1 in
    let s0 = g.D.Disk.state c.args.disk.now in
    let s1 = g.D.Disk.state c.loop.disk in
    let so_far = c.loop.invariant.read tells b read in
    rw (p.1, p.2)
    (fault_reads c.loop.opening so_far.0 s1 c.args.opening.now.log.log s0.reads c.in_err-next.field-0.0 c.next.result c.in_err-next.was c.loop.invariant.same.log (c.loop.invariant.unchanged tells).reads so_far.1
    c.in_err-next.ensures.cause (c.next.ensures.damaged (still s0 s1 c.loop.invariant.tells tells) so_far.0 so_far.1))

pub returns-in-None-clause-read : goal.returns-in-None-clause-read
returns-in-None-clause-read g c tells b read =
    let s0 = g.D.Disk.state c.args.disk.now in
    let s1 = g.D.Disk.state c.loop.disk in
    let s2 = g.D.Disk.state c.next.new.disk in
    let so_far = c.loop.invariant.read tells b read in
    let found = subst (λ (o : Option (Vec (Vec ℕ Global) Global)). MatchOption o (HasRead c.next.new.self so_far.0 s2 × HasEnded c.next.new.self s2) (λ v. HasRead c.next.new.self (so_far.0 ++ batch_of v.items ∷ []) s2)) c.in-None.is (c.in_ok-next.ensures.read (still s0 s1 c.loop.invariant.tells tells) so_far.0 so_far.1) in
    (so_far.0, found.0, found.1)

pub loop-preserved-in-Some : goal.loop-preserved-in-Some
loop-preserved-in-Some g c =
    let s0 = g.D.Disk.state c.args.disk.now in
    let s1 = g.D.Disk.state c.loop.disk in
    let s2 = g.D.Disk.state c.next.new.disk in
    let is : IsFurther (batch_of c.in-Some.field-0.items) c.loop.opening c.next.new.self =
    subst (λ (o : Option (Vec (Vec ℕ Global) Global)). MatchOption o (IsNoFurther c.loop.opening c.next.new.self) (λ v. IsFurther (batch_of v.items) c.loop.opening c.next.new.self)) c.in-Some.is c.in_ok-next.ensures.value in
    record {
      same = of_further (batch_of c.in-Some.field-0.items) c.args.opening.now c.loop.opening c.next.new.self c.loop.invariant.same is;
      read = λ tells b read.
          let so_far = c.loop.invariant.read tells b read in (
            so_far.0 ++ batch_of c.in-Some.field-0.items ∷ [],
            subst (λ (o : Option (Vec (Vec ℕ Global) Global)). MatchOption o (HasRead c.next.new.self so_far.0 s2 × HasEnded c.next.new.self s2) (λ v. HasRead c.next.new.self (so_far.0 ++ batch_of v.items ∷ []) s2)) c.in-Some.is
                (c.in_ok-next.ensures.read (still s0 s1 c.loop.invariant.tells tells) so_far.0 so_far.1),
          );
      unchanged = λ tells. unchanged_on s0 s1 s2 (c.loop.invariant.unchanged tells) (c.next.ensures.unchanged (still s0 s1 c.loop.invariant.tells tells));
      only_read = λ tells. only_read_on s0 s1 s2 (c.loop.invariant.only_read tells) (c.loop.invariant.unchanged tells) (c.next.ensures.only_read (still s0 s1 c.loop.invariant.tells tells));
      tells = c.next.ensures.tells ∙ c.loop.invariant.tells;
      faults = c.next.ensures.faults.steady (λ e. cc (c.in_ok-next.was, e)) ∙ c.loop.invariant.faults;
    }
