-- The grammar of rules and pipelines, apart from how they are read.
use Rattle.std.specs.Prelude.{◌≡◌, ℕ, suc, ◌≤◌, ◌<◌, pos, List, [], ◌∷◌, ◌++◌, map, Ok}
use Rattle.std.specs.List.{flat_map, AllByRecursion}
use Rattle.std.specs.List.Sorted.{IsPermutation}
use Rattle.gl_rulelang.specs.declared.token.Sign.{Sign}
use Rattle.gl_rulelang.specs.declared.token.Sign.TheVariants as signs
use Rattle.gl_rulelang.specs.declared.pipeline.Mode.{Mode}
use Rattle.gl_rulelang.specs.declared.pipeline.Mode.TheVariants as modes
use Rattle.gl_rulelang.specs.declared.pipeline.Stage.{Stage}
use Rattle.gl_rulelang.specs.declared.pipeline.Pipeline.{Pipeline}
use Rattle.gl_rulelang.specs.Tree.{Tree, height, heights, row, Step, assign, perform, RuleTree}
use Rattle.gl_rulelang.specs.Tokens.{Lexeme, name, string, number, sign, Tokens, end, token}
use Rattle.gl_rulelang.specs.Nesting.{deepest}
use Rattle.gl_rulelang.specs.Cutting.{tokens_of}
use Rattle.gl_rulelang.specs.Pipelines.{last_stage}
use Rattle.gl_rulelang.specs.Grammar.{Form, Forms, spelled, first_spelled, meant, pairs, IsLawful, AreLawful, nested, all_nested, Begins}

-- the tokens of a text without their places
abbrev pub lexemes : Tokens → List Lexeme
lexemes (end at) = []
lexemes (token l at ts) = l ∷ lexemes ts

-- This text is cut into these tokens.
pub record IsCut (text : List ℕ) (xs : List Lexeme) : Type 0 where
  pub tokens : Tokens
  pub read : tokens_of text ≡ Ok tokens
  pub same : lexemes tokens ≡ xs

-- a lawful form within the limits: 64 expressions inside one another, and 64 open parentheses
pub record IsExpression (f : Form) : Type 0 where
  pub lawful : IsLawful f
  pub high : height (meant f) ≤ deepest
  pub nests : nested f ≤ deepest

-- the arguments of an action; its call is no expression, but its parenthesis counts
pub record AreArguments (given : Forms) : Type 0 where
  pub lawful : AreLawful given
  pub high : heights (row (pairs given)) ≤ deepest
  pub nests : all_nested given < deepest

-- an action: `let` NAME = EXPRESSION ; or NAME ( ARGUMENTS ) ;
pub data ActionForm : Type 0 where
  giving : List ℕ → Form → ActionForm
  doing : List ℕ → Forms → ActionForm

abbrev pub action_spelled : ActionForm → List Lexeme
action_spelled (giving x f) = sign signs.Let ∷ name x ∷ sign signs.Assign ∷ (spelled f ++ sign signs.Semicolon ∷ [])
action_spelled (doing f given) = name f ∷ sign signs.Open ∷ (first_spelled given ++ sign signs.Semicolon ∷ [])

abbrev pub action_meant : ActionForm → Step
action_meant (giving x f) = assign x (meant f)
action_meant (doing f given) = perform f (row (pairs given))

abbrev pub IsAction : ActionForm → Type 0
IsAction (giving x f) = IsExpression f
IsAction (doing f given) = AreArguments given

-- `rule` STRING `when` EXPRESSION `then` ACTIONS `end`
pub record RuleForm : Type 0 where
  pub name : List ℕ
  pub condition : Form
  pub actions : List ActionForm

abbrev pub rule_spelled : RuleForm → List Lexeme
rule_spelled r = sign signs.Rule ∷ string r.name ∷ sign signs.When ∷ (spelled r.condition ++ sign signs.Then ∷ (flat_map action_spelled r.actions ++ sign signs.End ∷ []))

abbrev pub rule_meant : RuleForm → RuleTree
rule_meant r = record { name = r.name; condition = meant r.condition; steps = map action_meant r.actions }

-- The tokens of this text are those of a lawful rule, which means this one.
pub record IsRule (text : List ℕ) (rule : RuleTree) : Type 0 where
  pub form : RuleForm
  pub condition : IsExpression form.condition
  pub actions : AllByRecursion IsAction form.actions
  pub spells : IsCut text (rule_spelled form)
  pub means : rule_meant form ≡ rule

-- `rule` STRING ;
abbrev pub member_spelled : List ℕ → List Lexeme
member_spelled n = sign signs.Rule ∷ string n ∷ sign signs.Semicolon ∷ []

abbrev pub mode_sign : Mode → Sign
mode_sign modes.All = signs.All
mode_sign modes.Either = signs.Either
mode_sign modes.Pass = signs.Pass

-- `stage` NUMBER `match` MODE, and its rules
abbrev pub stage_spelled : Stage → List Lexeme
stage_spelled s = sign signs.Stage ∷ number (pos s.number) ∷ sign signs.Match ∷ sign (mode_sign s.mode) ∷ flat_map member_spelled s.rules

-- `pipeline` STRING STAGES `end`
abbrev pub pipeline_spelled : List ℕ → List Stage → List Lexeme
pipeline_spelled n stages = sign signs.Pipeline ∷ string n ∷ (flat_map stage_spelled stages ++ sign signs.End ∷ [])

-- each number is above those before it
abbrev pub IsRising : List Stage → Type 0
IsRising [] = Unit {0}
IsRising (s ∷ more) = AllByRecursion (λ t. s.number < t.number) more × IsRising more

-- The tokens of this text are those of stages in some order, and these are the stages by rising number, so that no
-- number stands twice.
pub record IsPipeline (text : List ℕ) (p : Pipeline) : Type 0 where
  pub stages : List Stage
  pub numbers : AllByRecursion (λ s. s.number ≤ last_stage) stages
  pub spells : IsCut text (pipeline_spelled p.name stages)
  pub rising : IsRising p.stages
  pub same : IsPermutation stages p.stages
