-- One position more.
use Rattle.std.proofs.Common.{◌++◌, List, ℕ, sym, ap, ◌∙◌, subst}
use Rattle.gl_words.specs.Candidates.{positions}
use Rattle.gl_covers.specs.Covers.{covered}
use Rattle.gl_covers.proofs.Union.{IsMerging, all_merged, fewer_left, more_merged}
use Rattle.gl_covers.proofs.merging.merged.Goals as goal

pub loop-position-init : goal.loop-position-init
loop-position-init c = λ rows a b rising one_is other_is. record {
  rest = rows;
  rising = rising;
  one_is = one_is;
  other_is = other_is;
  so_far = ap (λ (ps : List ℕ). ps ++ positions (covered rows (a ++ b))) c.new-found.ensures;
}

pub loop-position-preserved : goal.loop-position-preserved
loop-position-preserved c = λ rows a b rising one_is other_is.
    let v = more_merged rows a b c.loop-position.found c.loop-position.one.now c.loop-position.other.now c.in-Some.position (sym c.least_of.ensures ∙ c.in-Some.is) (c.loop-position.invariant rows a b rising one_is other_is) in
    record {
      rest = v.rest;
      rising = v.rising;
      one_is = c.behind-one.ensures ∙ v.one_is;
      other_is = c.behind-other.ensures ∙ v.other_is;
      so_far = ap (λ (ps : List ℕ). ps ++ positions (covered v.rest (a ++ b))) c.in_ok-push.ensures.ok ∙ v.so_far;
    }

pub returns : goal.returns
returns c = λ rows a b rising one_is other_is.
    all_merged rows a b c.loop-position.found c.loop-position.one.now c.loop-position.other.now (sym c.least_of.ensures ∙ c.in_default.is) (c.loop-position.invariant rows a b rising one_is other_is)
