-- The patterns of a configuration are built one kind behind another.
use Rattle.std.proofs.Common.{◌≡◌, ℕ, List, ◌++◌, sym, subst}
use Rattle.std.specs.Prelude.{Contains}
use Rattle.std.proofs.lemmas.List.Elements.{Contains-append_left, Contains-append_right}
use Rattle.gl_settings.specs.Settings.{Settings}
use Rattle.gl_building.proofs.Causes.{IsSteady, both_built}
use Rattle.gl_outcome.specs.declared.compiled.BuiltParts.{BuiltParts}
use Rattle.gl_outcome.specs.Compiling.{IsBuiltOf}

module _ (a b c : List (List ℕ)) where
  pub first_among : (text : List ℕ) → Contains a text → Contains (a ++ b ++ c) text
  first_among text found = Contains-append_left (a ++ b) c text (Contains-append_left a b text found)

  pub second_among : (text : List ℕ) → Contains b text → Contains (a ++ b ++ c) text
  second_among text found = Contains-append_left (a ++ b) c text (Contains-append_right a b text found)

  pub third_among : (text : List ℕ) → Contains c text → Contains (a ++ b ++ c) text
  third_among text found = Contains-append_right (a ++ b) c text found

-- what was built is that of what it holds
pub built_of_own : (c : Settings) (built : BuiltParts) → IsBuiltOf c built → IsBuiltOf built.parts built
built_of_own c built is = subst (λ (own : Settings). IsBuiltOf own built) (sym is.parts) is
