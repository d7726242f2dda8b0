-- What a named group spans, where the spans of all groups are known.
use Rattle.std.proofs.Common.{◌≡◌, ◌∙◌, ℕ, ◌<◌, List, length, get_or, Option, Some, None, IfSome, sym, ap, subst}
use Rattle.std.specs.Prelude.{option_and_then}
use Rattle.gl_patterns.specs.Patterns.{group_in, group_called, named_in, CutsIn}
use Rattle.gl_extract.specs.Groups.{AreGroups}

module _ (pattern text name : List ℕ) (spans : List (Option (ℕ × ℕ))) (groups : AreGroups pattern text spans) (called : Option ℕ) (is : called ≡ group_called pattern name) where
  pub within : (n : ℕ) → called ≡ Some n → n < length spans
  within n some = subst (λ (o : Option ℕ). IfSome o (λ m. m < length spans)) (sym is ∙ some) (groups.all name)

  pub named_at : (n : ℕ) → called ≡ Some n → get_or spans n None ≡ named_in pattern text name
  named_at n some = groups.each n (within n some) ∙ ap (option_and_then (group_in pattern text)) (sym (sym is ∙ some))

  pub cuts_at : (n : ℕ) → called ≡ Some n → IfSome (get_or spans n None) (CutsIn text)
  cuts_at n some = groups.cuts n (within n some)
