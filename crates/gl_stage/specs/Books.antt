-- Rules with the patterns that were built for them (this project).
use Rattle.std.specs.Prelude.{◌≡◌, ℕ, List, map, filter_map, slice_get}
use Rattle.gl_rulelang.specs.declared.pipeline.Pipeline.{Pipeline}
use Rattle.gl_rulelang.specs.Tree.{RuleTree}
use Rattle.gl_check.specs.Checking.{pattern_texts}
use Rattle.gl_functions.specs.Worlds.{Known}
use Rattle.gl_stage.specs.Stages.{Scene}
use Rattle.gl_stage.specs.Rounds.{Layout}

-- rules, each with the texts of the patterns that were built for it
abbrev pub Book : Type 0
Book = List (RuleTree × List (List ℕ))

-- the patterns are those of the rule
abbrev pub Fits : RuleTree × List (List ℕ) → Type 0
Fits kept = kept.1 ≡ pattern_texts kept.0

abbrev pub rules_in : Book → List RuleTree
rules_in book = map (λ kept. kept.0) book

-- the rules at these places
abbrev pub rules_at : Book → List ℕ → List RuleTree
rules_at book places = filter_map (slice_get (rules_in book)) places

abbrev pub scene_of : Known → Book → Scene
scene_of world book = record { world = world; rules = rules_in book }

abbrev pub layout_of : List Pipeline → List (ℕ × List (List ℕ)) → Layout
layout_of pipelines connections = record { pipelines = pipelines; connections = connections }
