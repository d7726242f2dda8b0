-- What a text becomes: each `%{NAME}` the group `(?:X)`, and each `%{NAME:field}` the group `(?P<gN>X)`, where X is
-- what the pattern of NAME becomes, and N tells how many groups with a field began before.
use Rattle.std.specs.Prelude.{ℕ, zero, suc, ◌+◌, List, [], ◌∷◌, ◌++◌, length, fold, Option, Some, None, codes}
use Rattle.std.specs.Fmt.{decimal}
use Rattle.gl_grok.specs.declared.expansion.Expanded.{Expanded}
use Rattle.gl_grok.specs.Pieces.{Piece, byte, reference, pieces}
use Rattle.gl_grok.specs.Tables.{Table, pattern_of}

abbrev pub with_text : Expanded → List ℕ → Expanded
with_text so_far text = record { text = so_far.text ++ text; fields = so_far.fields }

-- a group begins
abbrev pub begun : Expanded → Option (List ℕ) → Expanded
begun so_far None = with_text so_far (codes "(?:")
begun so_far (Some field) = record {
  text = so_far.text ++ codes "(?P<g" ++ decimal (length so_far.fields) ++ codes ">";
  fields = so_far.fields ++ field ∷ [];
}

-- a piece is written behind what was written so far; `inside` writes what the pattern of a name becomes
abbrev pub with_piece : (Expanded → List ℕ → Expanded) → Expanded → Piece → Expanded
with_piece inside so_far (byte b) = with_text so_far (b ∷ [])
with_piece inside so_far (reference name field) = with_text (inside (begun so_far field) name) (codes ")")

-- a text is written behind what was written so far, with patterns that stand no deeper in one another than this
abbrev pub written : Table → ℕ → Expanded → List ℕ → Expanded
written table zero so_far text = so_far
written table (suc depth) so_far text =
    fold (with_piece (λ (now : Expanded) (name : List ℕ). written table depth now (pattern_of table name))) so_far (pieces text)

-- what a text becomes, where no name reaches itself: then a pattern stands in no more others than the table has
abbrev pub expansion : Table → List ℕ → Expanded
expansion table text = written table (length table + 1) (record { text = []; fields = [] }) text
