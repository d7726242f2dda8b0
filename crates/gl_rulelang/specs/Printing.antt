-- The printed text of rules and pipelines.
use Rattle.std.specs.Prelude.{ℕ, Bool, true, false, List, [], ◌∷◌, ◌++◌, Option, Some, None, ◌==◌, if◌then◌else◌, codes}
use Rattle.std.specs.List.{flat_map}
use Rattle.std.specs.Fmt.{decimal as decimal_text, signed_decimal}
use Rattle.gl_rulelang.specs.declared.rule.Unary.{Unary}
use Rattle.gl_rulelang.specs.declared.rule.Unary.TheVariants as prefixes
use Rattle.gl_rulelang.specs.declared.rule.Binary.{Binary}
use Rattle.gl_rulelang.specs.declared.rule.Binary.TheVariants as ops
use Rattle.gl_rulelang.specs.declared.pipeline.Mode.{Mode}
use Rattle.gl_rulelang.specs.declared.pipeline.Mode.TheVariants as modes
use Rattle.gl_rulelang.specs.declared.pipeline.Stage.{Stage}
use Rattle.gl_rulelang.specs.declared.pipeline.Pipeline.{Pipeline}
use Rattle.gl_rulelang.specs.Tree.{Tree, text, whole, boolean, field, variable, unary, binary, call, Arguments, none, argument, Step, assign, perform, RuleTree, is_operation}

-- a byte of a string: five are written behind a backslash, all others stand
abbrev pub spelled_byte : ℕ → List ℕ
spelled_byte b =
    if b == 34 then 92 ∷ 34 ∷ []
    else if b == 92 then 92 ∷ 92 ∷ []
    else if b == 10 then 92 ∷ 110 ∷ []
    else if b == 13 then 92 ∷ 114 ∷ []
    else if b == 9 then 92 ∷ 116 ∷ []
    else b ∷ []

-- a string in its quotes
abbrev pub quote : List ℕ → List ℕ
quote s = 34 ∷ (flat_map spelled_byte s ++ 34 ∷ [])

abbrev pub prefix_text : Unary → List ℕ
prefix_text prefixes.Minus = codes "-"
prefix_text prefixes.Not = codes "!"

abbrev pub infix_text : Binary → List ℕ
infix_text ops.Or = codes " || "
infix_text ops.And = codes " && "
infix_text ops.Equal = codes " == "
infix_text ops.NotEqual = codes " != "
infix_text ops.Less = codes " < "
infix_text ops.AtMost = codes " <= "
infix_text ops.Greater = codes " > "
infix_text ops.AtLeast = codes " >= "
infix_text ops.Plus = codes " + "
infix_text ops.Minus = codes " - "
infix_text ops.Times = codes " * "
infix_text ops.Divide = codes " / "
infix_text ops.Remainder = codes " % "

-- an operand that is itself an operation stands in parentheses
abbrev pub operand : Bool → List ℕ → List ℕ
operand true e = codes "(" ++ (e ++ codes ")")
operand false e = e

abbrev pub name_text : Option (List ℕ) → List ℕ
name_text None = []
name_text (Some n) = n ++ codes ": "

abbrev mutual
  pub tree_text : Tree → List ℕ
  tree_text (text s) = quote s
  tree_text (whole n) = signed_decimal n
  tree_text (boolean true) = codes "true"
  tree_text (boolean false) = codes "false"
  tree_text (field f) = codes "$message." ++ f
  tree_text (variable x) = x
  tree_text (unary sign e) = prefix_text sign ++ operand (is_operation e) (tree_text e)
  tree_text (binary sign a b) = operand (is_operation a) (tree_text a) ++ (infix_text sign ++ operand (is_operation b) (tree_text b))
  tree_text (call f given) = f ++ (codes "(" ++ (listed [] given ++ codes ")"))

  -- arguments, the first behind this text and each other behind a comma
  pub listed : List ℕ → Arguments → List ℕ
  listed before none = []
  listed before (argument n e more) = before ++ (name_text n ++ (tree_text e ++ listed (codes ", ") more))

-- a call: its name, and its arguments in parentheses
abbrev pub call_text : List ℕ → Arguments → List ℕ
call_text f given = f ++ (codes "(" ++ (listed [] given ++ codes ")"))

abbrev pub step_text : Step → List ℕ
step_text (assign x e) = codes "  let " ++ (x ++ (codes " = " ++ (tree_text e ++ codes ";\n")))
step_text (perform f given) = codes "  " ++ (call_text f given ++ codes ";\n")

abbrev pub rule_print : RuleTree → List ℕ
rule_print r = codes "rule " ++ (quote r.name ++ (codes "\nwhen\n  " ++ (tree_text r.condition ++ (codes "\nthen\n" ++ (flat_map step_text r.steps ++ codes "end\n")))))

abbrev pub mode_text : Mode → List ℕ
mode_text modes.All = codes "all"
mode_text modes.Either = codes "either"
mode_text modes.Pass = codes "pass"

abbrev pub rule_line : List ℕ → List ℕ
rule_line r = codes "  rule " ++ (quote r ++ codes ";\n")

abbrev pub stage_text : Stage → List ℕ
stage_text s = codes "stage " ++ (decimal_text s.number ++ (codes " match " ++ (mode_text s.mode ++ (codes "\n" ++ flat_map rule_line s.rules))))

abbrev pub pipeline_print : Pipeline → List ℕ
pipeline_print p = codes "pipeline " ++ (quote p.name ++ (codes "\n" ++ (flat_map stage_text p.stages ++ codes "end\n")))
