-- What the values of expressions are made of, as contracts see it (this project).
use Rattle.std.specs.Prelude.{ℕ, ℤ, List, [], Option, Some, None}
use Rattle.std.specs.Cow.{cow_str_bytes}
use Rattle.gl_fields.specs.declared.value.Value.{Value as Held}
use Rattle.gl_fields.specs.declared.value.Value.TheVariants as held
use Rattle.gl_check.specs.Values.{Value, text, whole, truth, missing, truth_text}
use Rattle.gl_functions.specs.declared.content.Content.{Content}
use Rattle.gl_functions.specs.declared.content.Content.TheVariants as contents

abbrev pub value_in : Content → Value
value_in (contents.Text t) = text (cow_str_bytes t)
value_in (contents.Whole n) = whole n
value_in (contents.Truth b) = truth b
value_in contents.Missing = missing

-- what a field holds, if it is there
abbrev pub held_or_missing : Option Held → Value
held_or_missing None = missing
held_or_missing (Some (held.Text t)) = text t
held_or_missing (Some (held.Whole n)) = whole n

-- what is set in a field: a truth value as its text, and nothing for what is missing
abbrev pub to_hold : Value → Option Held
to_hold (text t) = Some (held.Text t)
to_hold (whole n) = Some (held.Whole n)
to_hold (truth b) = Some (held.Text (truth_text b))
to_hold missing = None

-- the text that a value is; empty for each other
abbrev pub text_in : Value → List ℕ
text_in (text t) = t
text_in (whole n) = []
text_in (truth b) = []
text_in missing = []

-- the whole number that a value is
abbrev pub whole_in : Value → Option ℤ
whole_in (text t) = None
whole_in (whole n) = Some n
whole_in (truth b) = None
whole_in missing = None
