-- Whether a stream's rules hold of a message's fields (this project). A pattern means what `regex` defines for its text.
use Rattle.std.specs.Prelude.{◌≡◌, ◌⊎◌, ℕ, Bool, true, false, not, ◌&&◌, ◌==◌, ℤ, int_lt, List, length, map, Option, Some, None, if◌then◌else◌}
use Rattle.std.specs.List.{list_all, list_any}
use Rattle.std.specs.Str.{bytes_eq}
use Rattle.std.specs.Borrow.{MutBor}
use mathlib.Core.Logic.{inl, inr}
use Rattle.gl_fields.specs.declared.field.Field.{Field}
use Rattle.gl_fields.specs.declared.value.Value.{Value}
use Rattle.gl_fields.specs.declared.value.Value.TheVariants as value
use Rattle.gl_fields.specs.Fields.{value_of, value_text}
use Rattle.gl_patterns.specs.Patterns.{is_found}
use Rattle.gl_text.specs.Texts.{contains}
use Rattle.gl_text.specs.Numbers.{whole_number}
use Rattle.gl_streams.specs.declared.stream.Test.{Test}
use Rattle.gl_streams.specs.declared.stream.Test.TheVariants.{Exact, Regex, Greater, Smaller, Presence, Contains, Always}
use Rattle.gl_streams.specs.declared.stream.StreamRule.{StreamRule}
use Rattle.gl_streams.specs.declared.stream.Stream.{Stream}

-- the number that a value is, or that its text writes
abbrev pub number_of : Value → Option ℤ
number_of (value.Text text) = whole_number text
number_of (value.Whole number) = Some number

abbrev pub is_number_that : (ℤ → Bool) → Option ℤ → Bool
is_number_that test None = false
is_number_that test (Some number) = test number

-- a value passes a test
abbrev pub passes : Test → Value → Bool
passes (Exact text) value = bytes_eq text (value_text value)
passes (Regex pattern) value = is_found pattern (value_text value)
passes (Greater bound) value = is_number_that (λ number. int_lt bound number) (number_of value)
passes (Smaller bound) value = is_number_that (λ number. int_lt number bound) (number_of value)
passes Presence value = true
passes (Contains part) value = contains part (value_text value)
passes Always value = true

abbrev pub is_always : Test → Bool
is_always (Exact text) = false
is_always (Regex pattern) = false
is_always (Greater bound) = false
is_always (Smaller bound) = false
is_always Presence = false
is_always (Contains part) = false
is_always Always = true

-- of a field that isn't there only one test is true
abbrev pub test_holds : Test → Option Value → Bool
test_holds test None = is_always test
test_holds test (Some value) = passes test value

abbrev pub rule_holds : StreamRule → List Field → Bool
rule_holds rule fields =
    if rule.inverted then not (test_holds rule.test (value_of rule.field fields)) else test_holds rule.test (value_of rule.field fields)

-- at least one rule holds, or all do
abbrev pub rules_hold : Bool → List StreamRule → List Field → Bool
rules_hold any rules fields =
    if any then list_any (λ rule. rule_holds rule fields) rules else list_all (λ rule. rule_holds rule fields) rules

-- it isn't paused, has a rule, and its rules hold
abbrev pub stream_matches : Stream → List Field → Bool
stream_matches stream fields = not stream.paused && not (length stream.rules == 0) && rules_hold stream.any stream.rules fields

-- The patterns that the rules look for.

abbrev pub pattern_of : Test → Option (List ℕ)
pattern_of (Exact text) = None
pattern_of (Regex pattern) = Some pattern
pattern_of (Greater bound) = None
pattern_of (Smaller bound) = None
pattern_of Presence = None
pattern_of (Contains part) = None
pattern_of Always = None

abbrev pub patterns_of : List StreamRule → List (Option (List ℕ))
patterns_of rules = map (λ rule. pattern_of rule.test) rules

-- at the place of each stream's each rule stands the pattern of its text, or none where its test has none
abbrev pub Fits : List Stream → List (List (Option (List ℕ))) → Type 0
Fits streams patterns = patterns ≡ map (λ stream. patterns_of stream.rules) streams

-- the text of a pattern that was lent, if one was, as it is given back
abbrev pub given_back : Unit {0} ⊎ ((MutBor (List ℕ) × Unit {0}) ⊎ ⊥) → Option (List ℕ)
given_back (inl none) = None
given_back (inr (inl lent)) = Some lent.0.now
given_back (inr (inr never)) = absurd never
