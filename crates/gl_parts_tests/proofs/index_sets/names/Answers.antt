use Rattle.std.proofs.Common.{◌≡◌, ℕ, true, List, sym, ◌∙◌, ap, subst}
use Rattle.std.proofs.lemmas.List.Elements.{All-push}
use Rattle.gl_indexset.specs.Kept.{AreKnown, is_known, rules_of}
use Rattle.gl_parts_tests.proofs.index_sets.names.Goals as goal
use Rattle.gl_parts_tests.proofs.index_sets.names.Goals.{then-has_set+in_ok-from_str+in_ok-push, else-has_set}

pub loop-name-preserved : goal.loop-name-preserved
loop-name-preserved c =
    let rules = rules_of c.args.all.now in
    elim c.if-has_set.branch [
      | then-has_set+in_ok-from_str+in_ok-push w ↦ subst (λ (l : List (List ℕ)). AreKnown rules l) (sym (w.found-is ∙ w.in_ok-push.ensures.ok))
          (All-push (λ (n : List ℕ). is_known rules n ≡ true) c.loop-name.found w.in_ok-from_str.field-0 c.loop-name.invariant
          (ap (λ (n : List ℕ). is_known rules n) w.in_ok-from_str.ensures ∙ sym c.has_set.ensures ∙ w.if-has_set.true))
      | else-has_set w ↦ subst (λ (l : List (List ℕ)). AreKnown rules l) (sym w.found-is) c.loop-name.invariant
    ]
