-- What each function of rules gives of its arguments, which stand in the order of the parameters (this project).
use Rattle.std.specs.Prelude.{◌≡◌, ◌≤◌, ℕ, ◌^◌, ℤ, pos, negsuc, unsigned_abs, nat_lt, Bool, true, false, not, ◌&&◌, ◌||◌, List, [], ◌∷◌, ◌++◌, length, slice_get, slice_range, IsCharBoundary, Option, Some, None, is_some, option_map, unwrap_or, ⊤, if◌then◌else◌}
use Rattle.std.specs.List.{list_any}
use Rattle.std.specs.Str.{bytes_eq, chars}
use Rattle.gl_fields.specs.Fields.{value_of}
use Rattle.gl_patterns.specs.Patterns.{is_found, group_in}
use Rattle.gl_text.specs.Texts.{contains, begins_with, ends_with, piece, characters}
use Rattle.gl_text.specs.Changing.{lowercase, uppercase, trimmed, replaced}
use Rattle.gl_text.specs.Ids.{id_text}
use Rattle.gl_text.specs.Numbers.{whole_number}
use Rattle.gl_text.specs.SyslogNames.{severity_name, facility_name}
use Rattle.gl_check.specs.declared.function.Function.{Function}
use Rattle.gl_check.specs.declared.function.Function.TheVariants as fns
use Rattle.gl_check.specs.declared.kind.Kind.{Kind}
use Rattle.gl_check.specs.declared.kind.Kind.TheVariants as kinds
use Rattle.gl_check.specs.Values.{Value, text, whole, truth, missing, is_missing, is_true, is_text, is_whole, text_of}
use Rattle.gl_check.specs.Functions.{ParameterRow, row_of}
use Rattle.gl_functions.specs.Contents.{text_in, whole_in}
use Rattle.gl_functions.specs.Worlds.{Sight, looked_up}

-- the argument at a place
abbrev pub value_at : ℕ → List Value → Value
value_at at given = unwrap_or (slice_get given at) missing

-- the same as a text, a number or a truth value; for one of another kind the empty text, 0 or false
abbrev pub text_at : ℕ → List Value → List ℕ
text_at at given = text_in (value_at at given)

abbrev pub number_at : ℕ → List Value → ℤ
number_at at given = unwrap_or (whole_in (value_at at given)) (pos 0)

abbrev pub truth_at : ℕ → List Value → Bool
truth_at at given = is_true (value_at at given)

abbrev pub text_or_missing : Option (List ℕ) → Value
text_or_missing None = missing
text_or_missing (Some t) = text t

-- the span begins and ends between characters of the text
abbrev pub IsCut : List ℕ → ℕ × ℕ → Type 0
IsCut t span = (span.0 ≤ span.1) × IsCharBoundary t span.0 × IsCharBoundary t span.1

-- the bytes in the span
abbrev pub part_of : List ℕ → Option (ℕ × ℕ) → Value
part_of t span = text_or_missing (option_map (λ s. slice_range t s.0 s.1) span)

-- the number, where it isn't negative
abbrev pub natural : ℤ → Option ℕ
natural (pos n) = Some n
natural (negsuc n) = None

abbrev pub of_natural : (ℕ → Value) → Option ℕ → Value
of_natural f None = missing
of_natural f (Some n) = f n

-- what is given for a number that isn't negative
abbrev pub from_zero_on : (ℕ → Value) → ℤ → Value
from_zero_on f number = of_natural f (natural number)

-- a value where it is there, else the other
abbrev pub or_else : Value → Value → Value
or_else v other = if is_missing v then other else v

abbrev pub text_or : Value → Value → Value
text_or v other = if is_missing v then other else text (text_of v)

-- the whole number that a value is, or that its text writes
abbrev pub number_of : Value → Option ℤ
number_of (text t) = whole_number t
number_of (whole n) = Some n
number_of (truth b) = None
number_of missing = None

abbrev pub number_or : Option ℤ → Value → Value
number_or None other = other
number_or (Some n) other = whole n

-- as it is, or with its ASCII letters in lower case
abbrev pub folded : Bool → List ℕ → List ℕ
folded ignore_case t = if ignore_case then lowercase t else t

-- of a text, a part to look for, and whether the case of ASCII letters plays no part
abbrev pub looks_for : (List ℕ → List ℕ → Bool) → List Value → Value
looks_for test a = truth (test (folded (truth_at 2 a) (text_at 1 a)) (folded (truth_at 2 a) (text_at 0 a)))

-- what a group of a pattern spans in its first match in a text. A group's number has 32 bits, and no pattern has another
abbrev pub group_part : List ℕ → List ℕ → ℕ → Value
group_part pattern t group = if nat_lt group (2 ^ 32) then part_of t (group_in pattern t group) else missing

-- the name of a number below a count
abbrev pub name_below : ℕ → (ℕ → List ℕ) → ℕ → Value
name_below count name n = if nat_lt n count then text (name n) else missing

-- the table of functions once more: what each gives (an action gives nothing)
abbrev pub given_by : Sight → Function → List Value → Value
given_by s fns.HasField a = truth (is_some (value_of (text_at 0 a) s.fields))
given_by s fns.IsNull a = truth (is_missing (value_at 0 a))
given_by s fns.IsNotNull a = truth (not (is_missing (value_at 0 a)))
given_by s fns.IsString a = truth (is_text (value_at 0 a))
given_by s fns.IsNumber a = truth (is_whole (value_at 0 a))
given_by s fns.ToString a = text_or (value_at 0 a) (value_at 1 a)
given_by s fns.ToLong a = number_or (number_of (value_at 0 a)) (value_at 1 a)
given_by s fns.Contains a = looks_for contains a
given_by s fns.StartsWith a = looks_for begins_with a
given_by s fns.EndsWith a = looks_for ends_with a
given_by s fns.RegexMatches a = truth (is_found (text_at 0 a) (text_at 1 a))
given_by s fns.RegexGroup a = from_zero_on (group_part (text_at 0 a) (text_at 1 a)) (number_at 2 a)
given_by s fns.Lowercase a = text (lowercase (text_at 0 a))
given_by s fns.Uppercase a = text (uppercase (text_at 0 a))
given_by s fns.Trim a = text (trimmed (text_at 0 a))
given_by s fns.Concat a = text (text_at 0 a ++ text_at 1 a)
given_by s fns.Replace a = text (replaced (text_at 1 a) (text_at 2 a) (text_at 0 a))
given_by s fns.Substring a = from_zero_on (λ begin. from_zero_on (λ end. part_of (text_at 0 a) (characters begin end (text_at 0 a))) (number_at 2 a)) (number_at 1 a)
given_by s fns.SplitItem a = from_zero_on (λ index. part_of (text_at 0 a) (piece (text_at 1 a) index (text_at 0 a))) (number_at 2 a)
given_by s fns.Length a = whole (pos (length (chars (text_at 0 a))))
given_by s fns.Abs a = whole (pos (unsigned_abs (number_at 0 a)))
given_by s fns.LookupValue a = or_else (text_or_missing (looked_up s.world (text_at 0 a) (text_at 1 a))) (value_at 2 a)
given_by s fns.SyslogLevel a = from_zero_on (name_below 8 severity_name) (number_at 0 a)
given_by s fns.SyslogFacility a = from_zero_on (name_below 24 facility_name) (number_at 0 a)
given_by s fns.InStream a = truth (list_any (λ id. bytes_eq (text_at 0 a) (id_text id)) s.streams)
given_by s fns.SetField a = missing
given_by s fns.RemoveField a = missing
given_by s fns.RenameField a = missing
given_by s fns.RouteToStream a = missing
given_by s fns.RemoveFromStream a = missing
given_by s fns.DropMessage a = missing

-- an argument is missing that mustn't be
abbrev pub one_misses : List ParameterRow → List Value → Bool
one_misses [] values = false
one_misses (p ∷ parameters) [] = true
one_misses (p ∷ parameters) (v ∷ values) = (is_missing v && not p.may_miss) || one_misses parameters values

-- what stands for the result where an argument is missing
abbrev pub without_result : Option Kind → Value
without_result None = missing
without_result (Some kinds.Bool) = truth false
without_result (Some kinds.Text) = missing
without_result (Some kinds.Whole) = missing
without_result (Some kinds.Any) = missing

-- what a function gives of these arguments
abbrev pub result_of : Sight → Function → List Value → Value
result_of s function a = if one_misses (row_of function).parameters a then without_result (row_of function).gives else given_by s function a

-- an argument of the function is a pattern
abbrev pub asks_pattern : Function → Bool
asks_pattern function = list_any (λ p. p.is_pattern) (row_of function).parameters

-- the text of a built pattern is that of the argument, where the argument isn't missing
abbrev pub FitsPattern : List ℕ → Value → Type 0
FitsPattern pattern (text t) = pattern ≡ t
FitsPattern pattern (whole n) = pattern ≡ []
FitsPattern pattern (truth b) = pattern ≡ []
FitsPattern pattern missing = ⊤
