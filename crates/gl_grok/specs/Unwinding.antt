-- What is still to be written: the rests of texts that stand in one another, the outermost first.
use Rattle.std.specs.Prelude.{◌≡◌, ℕ, ◌+◌, true, false, List, [], ◌∷◌, length, codes}
use Rattle.gl_grok.specs.declared.expansion.Expanded.{Expanded}
use Rattle.gl_grok.specs.declared.writing.Writing.{Writing}
use Rattle.std.specs.String.{string_bytes}
use Rattle.gl_grok.specs.Expansion.{with_text, written}
use Rattle.gl_grok.specs.Names.{Reaches, reaches_itself}
use Rattle.gl_grok.specs.Tables.{Table, is_known}

-- each name that the text reaches has a pattern, and none reaches itself
abbrev pub IsExpandable : Table → List ℕ → Type 0
IsExpandable table text = (name : List ℕ) → Reaches table text name → (is_known table name ≡ true) × (reaches_itself table name ≡ false)

abbrev pub so_far : Writing → Expanded
so_far w = record { text = string_bytes w.text; fields = w.fields.items }

abbrev pub whole : Table → Expanded → List ℕ → Expanded
whole table now text = written table (length table + 1) now text

-- each of these rests ends a group
abbrev pub grouped : Table → List (List ℕ) → Expanded → Expanded
grouped table [] now = now
grouped table (rest ∷ inner) now = with_text (whole table (grouped table inner now) rest) (codes ")")

abbrev pub finished : Table → List (List ℕ) → Expanded → Expanded
finished table [] now = now
finished table (rest ∷ inner) now = whole table (grouped table inner now) rest
