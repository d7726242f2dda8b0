-- What a text is answered.
use Rattle.std.specs.Prelude.{◌≡◌, ℕ, ⊤, not, List, length, nat_lt, if◌then◌else◌, Option, Some, None, Result, Ok, Err}
use Rattle.std.specs.List.{find}
use Rattle.gl_grok.specs.declared.expansion.Expanded.{Expanded}
use Rattle.gl_grok.specs.declared.refusal.GrokRefusal.{GrokRefusal}
use Rattle.gl_grok.specs.declared.refusal.GrokRefusal.TheVariants as refusals
use Rattle.gl_grok.specs.Expansion.{expansion}
use Rattle.gl_grok.specs.Names.{names_met, reaches_itself}
use Rattle.gl_grok.specs.Tables.{Table, is_known}

-- an expansion has at most 8,192 bytes
abbrev pub within : Expanded → Result Expanded GrokRefusal
within expanded = if nat_lt 8192 (length expanded.text) then Err refusals.TooLong else Ok expanded

abbrev pub unless_circular : Table → List ℕ → Option (List ℕ) → Result Expanded GrokRefusal
unless_circular table text None = within (expansion table text)
unless_circular table text (Some name) = Err (refusals.Circular name)

abbrev pub unless_unknown : Table → List ℕ → Option (List ℕ) → Result Expanded GrokRefusal
unless_unknown table text None = unless_circular table text (find (reaches_itself table) (names_met table text))
unless_unknown table text (Some name) = Err (refusals.UnknownPattern name)

-- the first name met that the table hasn't; else the first met that reaches itself; else the expansion
abbrev pub answer : Table → List ℕ → Result Expanded GrokRefusal
answer table text = unless_unknown table text (find (λ name. not (is_known table name)) (names_met table text))

-- what was answered is what is expected, unless memory ran out
abbrev pub Answers : Result Expanded GrokRefusal → Result Expanded GrokRefusal → Type 0
Answers (Ok expanded) expected = expected ≡ Ok expanded
Answers (Err (refusals.UnknownPattern name)) expected = expected ≡ Err (refusals.UnknownPattern name)
Answers (Err (refusals.Circular name)) expected = expected ≡ Err (refusals.Circular name)
Answers (Err refusals.TooLong) expected = expected ≡ Err refusals.TooLong
Answers (Err refusals.OutOfMemory) expected = ⊤
