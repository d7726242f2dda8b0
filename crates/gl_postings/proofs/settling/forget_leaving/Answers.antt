-- The next that leaves is taken out.
use Rattle.std.proofs.Common.{◌<◌, ◌≤◌, ◌∷◌, ◌++◌, List, length, subst, arith}
use Rattle.gl_indexset.specs.declared.row.Row.{Row}
use Rattle.gl_indexset.specs.Kept.{rules_of}
use Rattle.gl_indexset.specs.Retention.{live_rows}
use Rattle.gl_postings.specs.Postings.{StandsFor}
use Rattle.gl_postings.proofs.Coming.{forgotten}
use Rattle.gl_postings.proofs.settling.forget_leaving.Goals as goal

pub loop-n-smaller : goal.loop-n-smaller
loop-n-smaller g c =
    let next : c.loop-n.from ≤ c.in-Some.n = (c.in-Some.ensures.leaving c.requires.stands.0 c.requires.stands.1).0 in
    let within : c.in-Some.n < length c.args.sets.now.rows = c.in-Some.ensures.within in
    omega (arith, next, within)

pub loop-n-preserved : goal.loop-n-preserved
loop-n-preserved g c = λ all rest stands words.
    forgotten (live_rows (rules_of c.args.sets.now) (c.args.row.now ∷ all)) c.args.sets.now.rows rest c.loop-n.from c.in-Some.n c.row.result.now c.loop-n.words c.forget.new.self
    (c.in-Some.ensures.leaving all stands).0 c.in-Some.ensures.within c.row.ensures.row (c.in-Some.ensures.steps all stands) (c.loop-n.invariant all rest stands words) c.forget.ensures

pub loop-n-init : goal.loop-n-init
loop-n-init g c = λ all rest stands words. words

pub returns : goal.returns
returns g c = λ all rest stands words.
    subst (λ (xs : List Row). StandsFor c.loop-n.words (xs ++ rest)) (c.in_default.ensures.steps all stands) (c.loop-n.invariant all rest stands words)
