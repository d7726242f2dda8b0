-- A tree that is read as text reads whole characters.
use Rattle.std.proofs.Common.{true, map, All, refl, sym, ap, ◌∙◌, subst}
use Rattle.std.proofs.lemmas.List.Elements.{All-nil, All-cons}
use Rattle.regex_hir.specs.Re.{Re}
use Rattle.regex_hir.specs.Meaning.{meaning, node_meaning, cat_all, alt_all}
use Rattle.regex_hir.specs.declared.hir.Hir.{Hir, Empty, Literal, Bytes, Chars, Look, Repetition', Capture', Concat', Alternation', Row_of-Hir, end_of-Hir, more_of-Hir, items-the_row-Hir, items_shown-the_row-Hir-0, map-Hir, fold_out-Hir}
use Rattle.regex_hir.specs.declared.hir.Hir.TheVariants.{outs-Concat', outs-Alternation'}
use Rattle.regex_hir.proofs.MeaningLemmas.{meaning-Empty, meaning-Literal, meaning-Bytes, meaning-Chars, meaning-Look, meaning-Repetition, meaning-Capture}
use Rattle.regex_syntax.specs.WellFormed.{IsWellFormed, AreWellFormed}
use Rattle.regex.specs.Writes.{HasTextParts}
use Rattle.regex.proofs.WritesLemmas.{HasTextParts-repeat, HasTextParts-cat_all, HasTextParts-alt_all}

mutual
  pub parts_of : (tree : Hir) → IsWellFormed true tree → HasTextParts (meaning tree)
  parts_of Empty formed = rw meaning-Empty tt
  parts_of (Literal bytes) formed = rw meaning-Literal (formed refl)
  parts_of (Bytes class) formed = rw meaning-Bytes formed
  parts_of (Chars class) formed = rw meaning-Chars tt
  parts_of (Look l) formed = rw meaning-Look tt
  parts_of (Repetition' least most greedy place sub) formed =
      subst HasTextParts (sym (meaning-Repetition least most greedy (record { ptr = place.ptr; alloc = place.alloc; value = sub })))
      (HasTextParts-repeat least most greedy _ (parts_of sub formed.1))
  parts_of (Capture' index place sub) formed =
      subst HasTextParts (sym (meaning-Capture index (record { ptr = place.ptr; alloc = place.alloc; value = sub }))) (parts_of sub formed)
  parts_of (Concat' shape subs) formed =
      subst HasTextParts (sym (fold_out-Hir Re node_meaning _ ∙ ap (λ x. node_meaning (map-Hir Hir Re meaning x)) (outs-Concat' shape subs)
      ∙ ap (λ l. cat_all (map meaning l)) (items_shown-the_row-Hir-0 shape subs)))
      (HasTextParts-cat_all _ (parts_of_all _ subs formed))
  parts_of (Alternation' shape subs) formed =
      subst HasTextParts (sym (fold_out-Hir Re node_meaning _ ∙ ap (λ x. node_meaning (map-Hir Hir Re meaning x)) (outs-Alternation' shape subs)
      ∙ ap (λ l. alt_all (map meaning l)) (items_shown-the_row-Hir-0 shape subs)))
      (HasTextParts-alt_all _ (parts_of_all _ subs formed))

  parts_of_all : (n : _) (row : Row_of-Hir n) → AreWellFormed true row → All HasTextParts (map meaning (items-the_row-Hir n row))
  parts_of_all n end_of-Hir formed = All-nil HasTextParts
  parts_of_all n (more_of-Hir sub rest) formed = All-cons HasTextParts _ _ (parts_of sub formed.0) (parts_of_all _ rest formed.1)
