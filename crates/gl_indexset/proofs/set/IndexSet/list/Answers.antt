use Rattle.std.proofs.Common.{◌+◌, ◌-◌, ◌≤◌, ◌++◌, List, ℕ, length, refl, sym, ◌∙◌, ap, subst, arith}
use Rattle.gl_indexset.specs.Inside.{set_kept}
use Rattle.gl_indexset.specs.SetKept.{SetKept, indexes_kept}
use Rattle.gl_indexset.specs.Summary.{index_name}
use Rattle.gl_indexset.proofs.Listing.{listed_more, listed_all}
use Rattle.gl_indexset.proofs.set.IndexSet.list.Goals as goal

pub loop-at-preserved : goal.loop-at-preserved
loop-at-preserved c =
    let set = set_kept c.self.inside in
    listed_more c.args.found.now c.loop-at.found c.push.new.self set.rule.name c.in_ok-closed.closed (set.number - c.len.result) c.loop-at.at c.index.result.now.rows set.closed c.index.result.now
    (omega (arith, c.loop-at-test.true, c.len-at-end.ensures, c.self.inside.closed.ok.0)) (sym c.index.ensures) c.loop-at.invariant
    (c.in_ok-closed.ensures ∙ ap (λ (n : List ℕ). index_name n (set.number - c.len.result + c.loop-at.at)) c.as_str-name.ensures) refl c.in_ok-push.ensures.ok

pub returns : goal.returns
returns c =
    let set = set_kept c.self.inside in
    listed_all set c.args.found.now c.loop-at.found c.push-2.new.self c.in_ok-newest.newest (set.number - c.len.result) c.loop-at.at c.if-self-eq0.false
    (subst (λ (s : SetKept). length s.closed ≤ s.number) (sym c.self.view_is) c.requires) (omega (arith, c.len.ensures, c.self.inside.closed.ok.0))
    (omega (arith, c.loop-at-test.false, c.len-at-end.ensures, c.self.inside.closed.ok.0)) c.loop-at.invariant
    (c.in_ok-newest.ensures ∙ ap (λ (n : List ℕ). index_name n set.number) c.as_str-name.ensures) c.in_ok-push-2.ensures.ok
    ∙ ap (λ (s : SetKept). c.args.found.now ++ indexes_kept s) c.self.view_is
