-- What happens at one stage number of a round of pipelines (this project).
use Rattle.std.specs.Prelude.{ℕ, Bool, false, not, ◌==◌, List, [], ◌++◌, map, filter, filter_map, find, flat_map, fold, Option, Some, None, if◌then◌else◌}
use Rattle.std.specs.List.{list_all, list_any}
use Rattle.std.specs.Str.{bytes_eq}
use Rattle.gl_rulelang.specs.declared.pipeline.Mode.{Mode}
use Rattle.gl_rulelang.specs.declared.pipeline.Mode.TheVariants.{All, Either, Pass}
use Rattle.gl_rulelang.specs.declared.pipeline.Stage.{Stage}
use Rattle.gl_rulelang.specs.declared.pipeline.Pipeline.{Pipeline}
use Rattle.gl_rulelang.specs.Tree.{RuleTree}
use Rattle.gl_functions.specs.Worlds.{Known}
use Rattle.gl_eval.specs.declared.staged.Staged.{Staged}
use Rattle.gl_eval.specs.Meaning.{condition_holds}
use Rattle.gl_eval.specs.Actions.{acted}

-- what stages go by, which no message changes: streams and lookup tables, and the rules
pub record Scene : Type 0 where
  pub world : Known
  pub rules : List RuleTree

-- a message in a round of pipelines, and the names of those that have stopped
pub record Moving : Type 0 where
  pub message : Staged
  pub stopped : List (List ℕ)

abbrev pub is_among : List (List ℕ) → List ℕ → Bool
is_among names name = list_any (λ other. bytes_eq name other) names

-- The stages at a number, and their rules.

-- the stage of this number of a pipeline that hasn't stopped
abbrev pub reached : ℕ → List (List ℕ) → Pipeline → Option Stage
reached n stopped pipeline = if is_among stopped pipeline.name then None else find (λ stage. stage.number == n) pipeline.stages

abbrev pub rule_named : List RuleTree → List ℕ → Option RuleTree
rule_named rules name = find (λ rule. bytes_eq name rule.name) rules

abbrev pub rules_of : Scene → Stage → List RuleTree
rules_of scene stage = filter_map (rule_named scene.rules) stage.rules

-- What is told by the message as it stands before the number.

-- the rule's condition is true of the message
abbrev pub holds_of : Scene → Staged → RuleTree → Bool
holds_of scene message rule = condition_holds scene.world message.fields message.streams rule

-- the rules of a stage that hold, in their order
abbrev pub held_at : Scene → Staged → Option Stage → List RuleTree
held_at scene message None = []
held_at scene message (Some stage) = filter (holds_of scene message) (rules_of scene stage)

-- a pipeline goes no further where its stage asks for each rule and one didn't hold, or for one and none did
abbrev pub is_last : Mode → Bool → Bool → Bool
is_last All each one = not each
is_last Either each one = not one
is_last Pass each one = false

abbrev pub stops_at : Scene → Staged → Option Stage → Bool
stops_at scene message None = false
stops_at scene message (Some stage) =
    is_last stage.mode (list_all (holds_of scene message) (rules_of scene stage)) (list_any (holds_of scene message) (rules_of scene stage))

-- the rules that hold at a number, by the order of the pipelines and then their place in the stage
abbrev pub held : Scene → List Pipeline → ℕ → Moving → List RuleTree
held scene round n m = flat_map (λ pipeline. held_at scene m.message (reached n m.stopped pipeline)) round

-- the names of the pipelines that stop at a number
abbrev pub stops : Scene → List Pipeline → ℕ → Moving → List (List ℕ)
stops scene round n m = map (λ pipeline. pipeline.name) (filter (λ pipeline. stops_at scene m.message (reached n m.stopped pipeline)) round)

-- The message behind the number.

-- the message after the actions of these rules, one behind the other
abbrev pub acted_all : Known → List RuleTree → Staged → Staged
acted_all world rules message = fold (λ m rule. acted world rule m) message rules

-- Which rules hold and which pipelines stop is told by the message as it stood before; then the rules that held act.
abbrev pub at_number : Scene → List Pipeline → ℕ → Moving → Moving
at_number scene round n m = record {
  message = acted_all scene.world (held scene round n m) m.message;
  stopped = m.stopped ++ stops scene round n m;
}
