-- What a call that builds patterns by a shop says (this project).
use Rattle.std.specs.Prelude.{◌≡◌, ℕ, List, option_to_list, Result, IsOk, IsErrOf, Contains}
use Rattle.std.specs.List.{All, flat_map}
use Rattle.gl_base.specs.Counts.{HasCause}
use Rattle.gl_patterns.specs.Patterns.{IsPattern}
use Rattle.gl_streams.specs.declared.stream.StreamRule.{StreamRule}
use Rattle.gl_streams.specs.Matching.{pattern_of}
use Rattle.gl_building.specs.declared.fault.StageFault.{StageFault}
use Rattle.gl_building.specs.declared.fault.StageFault.TheVariants.{PatternFault}

-- Where the call succeeds, each of the texts is a pattern. It is refused only where the shop's count of refusals rose, and the
-- shop then tells one of the texts; else count and text are as before.
pub record Builds {T : Type 0} (texts : List (List ℕ)) (faults_before faults_now : ℕ) (refused_before refused_now : List ℕ) (result : Result T StageFault) : Type 0 where
  pub patterns : IsOk result → All IsPattern texts
  pub cause : HasCause PatternFault faults_before faults_now result
  pub refused : IsErrOf result PatternFault → Contains texts refused_now
  pub kept : (IsErrOf result PatternFault → ⊥) → refused_now ≡ refused_before

-- the values of these rules of a stream that search for a pattern
abbrev pub rule_patterns : List StreamRule → List (List ℕ)
rule_patterns rules = flat_map (λ rule. option_to_list (pattern_of rule.test)) rules
