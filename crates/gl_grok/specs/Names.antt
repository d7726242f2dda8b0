-- The names that are reached from a text: those that it refers to, and those that their patterns refer to.
use Rattle.std.specs.Prelude.{◌≡◌, ℕ, zero, suc, ◌+◌, Bool, true, List, [], ◌∷◌, ◌++◌, length, fold, if◌then◌else◌}
use Rattle.std.specs.List.{list_any}
use Rattle.std.specs.Str.{bytes_eq}
use Rattle.gl_grok.specs.Pieces.{names_in}
use Rattle.gl_grok.specs.Tables.{Table, pattern_of}

abbrev pub contains : List (List ℕ) → List ℕ → Bool
contains names name = list_any (λ other. bytes_eq name other) names

-- a name is reached from a text that refers to it, or from one that reaches a name whose pattern refers to it
pub data Reaches (table : Table) (text : List ℕ) : List ℕ → Type 0 where
  refers : {name : List ℕ} → contains (names_in text) name ≡ true → Reaches table text name
  through : {name : List ℕ} {other : List ℕ} → Reaches table text other → contains (names_in (pattern_of table other)) name ≡ true → Reaches table text name

-- the names met once this one is met too: a name that is new, and then those that its pattern leads to, no deeper
-- than so many patterns
abbrev pub met : Table → ℕ → List (List ℕ) → List ℕ → List (List ℕ)
met table zero names name = names
met table (suc depth) names name =
    if contains names name then names
    else fold (met table depth) (names ++ name ∷ []) (names_in (pattern_of table name))

-- the names that are reached from a text, in the order in which they are met from the left, going into the pattern
-- of a new name before what stands behind it
abbrev pub names_met : Table → List ℕ → List (List ℕ)
names_met table text = fold (met table (length table + 1)) [] (names_in text)

abbrev pub reaches_itself : Table → List ℕ → Bool
reaches_itself table name = contains (names_met table (pattern_of table name)) name
