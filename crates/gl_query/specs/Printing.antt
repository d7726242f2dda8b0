-- The printed text of a query (this project): every operation stands in parentheses, a text is a phrase, and a comparison is a range.
use Rattle.std.specs.Prelude.{◌≡◌, ℕ, ◌+◌, max, ◌==◌, Bool, ◌||◌, List, [], ◌∷◌, ◌++◌, Option, Some, None, if◌then◌else◌, codes}
use Rattle.std.specs.List.{flat_map}
use Rattle.std.specs.Fmt.{signed_decimal}
use Rattle.std.specs.Str.{bytes_eq}
use Rattle.gl_query.specs.declared.term.Piece.{Piece}
use Rattle.gl_query.specs.declared.term.Piece.TheVariants.{Byte, AnyRun, AnyOne}
use Rattle.gl_query.specs.declared.term.Limit.{Limit}
use Rattle.gl_query.specs.declared.term.Limit.TheVariants.{Unbounded, Included, Excluded}
use Rattle.gl_query.specs.declared.term.Term.{Term}
use Rattle.gl_query.specs.declared.term.Term.TheVariants.{All, Exists, Text, Pattern, Within}
use Rattle.gl_query.specs.declared.term.Node.{Node}
use Rattle.gl_query.specs.Tokens.{ends_word}
use Rattle.gl_query.specs.Tree.{Tree, leaf, negation, both, either, Trees, none, also, polish}

-- a byte, behind a backslash where it would not stand for itself
abbrev pub spelled : Bool → ℕ → List ℕ
spelled escaped b = if escaped then 92 ∷ b ∷ [] else b ∷ []

abbrev pub name_byte : ℕ → List ℕ
name_byte b = spelled (ends_word b || b == 92) b

abbrev pub phrase_byte : ℕ → List ℕ
phrase_byte b = spelled (b == 34 || b == 92) b

abbrev pub piece_text : Piece → List ℕ
piece_text (Byte b) = spelled (ends_word b || (b == 92 || (b == 42 || b == 63))) b
piece_text AnyRun = codes "*"
piece_text AnyOne = codes "?"

-- words that are no names as they stand
abbrev pub is_keyword : List ℕ → Bool
is_keyword w =
    bytes_eq w (codes "AND") || (bytes_eq w (codes "OR") || (bytes_eq w (codes "NOT") || (bytes_eq w (codes "TO") || bytes_eq w (codes "_exists_"))))

abbrev pub name_text : List ℕ → List ℕ
name_text name = (if is_keyword name then codes "\\" else []) ++ flat_map name_byte name

abbrev pub phrase_text : List ℕ → List ℕ
phrase_text text = codes "\"" ++ (flat_map phrase_byte text ++ codes "\"")

abbrev pub pattern_text : List Piece → List ℕ
pattern_text pattern = flat_map piece_text pattern

-- the field of a term, if one is named
abbrev pub field_text : Option (List ℕ) → List ℕ
field_text None = []
field_text (Some name) = name_text name ++ codes ":"

abbrev pub low_text : Limit → List ℕ
low_text Unbounded = codes "[*"
low_text (Included n) = codes "[" ++ signed_decimal n
low_text (Excluded n) = codes "{" ++ signed_decimal n

abbrev pub high_text : Limit → List ℕ
high_text Unbounded = codes "*]"
high_text (Included n) = signed_decimal n ++ codes "]"
high_text (Excluded n) = signed_decimal n ++ codes "}"

abbrev pub term_text : Term → List ℕ
term_text All = codes "*"
term_text (Exists name) = codes "_exists_:" ++ name_text name
term_text (Text field text) = field_text field ++ phrase_text text
term_text (Pattern field pattern) = field_text field ++ pattern_text pattern
term_text (Within name low high) = field_text (Some name) ++ (low_text low ++ (codes " TO " ++ high_text high))

abbrev mutual
  pub tree_text : Tree → List ℕ
  tree_text (leaf x) = term_text x
  tree_text (negation t) = codes "(NOT " ++ (tree_text t ++ codes ")")
  tree_text (both ts) = codes "(" ++ (members_text [] (codes " AND ") ts ++ codes ")")
  tree_text (either ts) = codes "(" ++ (members_text [] (codes " OR ") ts ++ codes ")")

  -- the first member behind this text, and each other behind the sign
  pub members_text : List ℕ → (sign : List ℕ) → Trees → List ℕ
  members_text before sign none = []
  members_text before sign (also t ts) = before ++ (tree_text t ++ members_text sign sign ts)

-- how many NOT and parentheses of the printed text are open at once, at most
abbrev mutual
  pub depth : Tree → ℕ
  depth (leaf x) = 0
  depth (negation t) = depth t + 2
  depth (both ts) = depths ts + 1
  depth (either ts) = depths ts + 1

  pub depths : Trees → ℕ
  depths none = 0
  depths (also t ts) = max (depth t) (depths ts)

-- what stands behind the text before: the tree at the front of these nodes
abbrev pub Prints : (before after : List ℕ) (left nodes : List Node) → Type 0
Prints before after left nodes = (t : Tree) (rest : List Node) → nodes ≡ polish t ++ rest → (after ≡ before ++ tree_text t) × (left ≡ rest)
