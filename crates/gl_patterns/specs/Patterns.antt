-- What the text of a pattern means: what `regex` defines for it, as functions of the text.
use Rattle.std.specs.Prelude.{◌≤◌, length, IsCharBoundary, ℕ, Bool, List, [], IsSome, Option, Some, None, nat_eq, option_map, option_and_then, is_some, if◌then◌else◌, ◌==◌}
use Rattle.std.specs.List.{position_from}
use Rattle.std.specs.Str.{chars}
use lib.Pointwise.{pointwise}
use Rattle.regex_hir.specs.Text.{is_some_and}
use Rattle.regex_syntax.specs.Grammar.{Names, read}
use Rattle.regex.specs.Patterns.{Re, Match, find_str, span, default_config}
use Rattle.regex.specs.Writes.{group_of}

-- the expression that the text is read as, and the names of its groups; none where it is no pattern
unfoldable pub meaning_of : List ℕ → Option (Re × Names)
meaning_of text = option_map (λ x. (x.0.value, x.1)) (read default_config (chars text))

-- the text is a pattern
abbrev pub IsPattern : List ℕ → Type 0
IsPattern text = IsSome (meaning_of text)

-- the leftmost match of the pattern in a text
unfoldable pub first_match : List ℕ → List ℕ → Option Match
first_match pattern text = option_and_then (λ m. find_str m.0 text 0) (meaning_of pattern)

-- whether the pattern matches somewhere in the text
unfoldable pub is_found : List ℕ → List ℕ → Bool
is_found pattern text = is_some (first_match pattern text)

-- the bytes from which to before which a group took part in a match; group 0 is the whole match
abbrev pub span_of : ℕ → Match → Option (ℕ × ℕ)
span_of n m = if n == 0 then Some (span m) else group_of m n

-- what a group of the pattern spans in its first match in the text
unfoldable pub group_in : List ℕ → List ℕ → ℕ → Option (ℕ × ℕ)
group_in pattern text n = option_and_then (span_of n) (first_match pattern text)

-- the names of the pattern's groups
abbrev pub names_from : Option (Re × Names) → Names
names_from None = []
names_from (Some m) = m.1

-- the number of the pattern's first group with this name
unfoldable pub group_called : List ℕ → List ℕ → Option ℕ
group_called pattern name = position_from (λ other. is_some_and other (pointwise nat_eq name)) 0 (names_from (meaning_of pattern))

-- what the group with this name spans in the pattern's first match in the text
abbrev pub named_in : List ℕ → List ℕ → List ℕ → Option (ℕ × ℕ)
named_in pattern text name = option_and_then (group_in pattern text) (group_called pattern name)

-- the span lies in the text, between characters
abbrev pub CutsIn : List ℕ → ℕ × ℕ → Type 0
CutsIn text span = (span.0 ≤ span.1) × (span.1 ≤ length text) × IsCharBoundary text span.0 × IsCharBoundary text span.1
