-- The functions and actions of rules: their names, their parameters with kinds and defaults, and what they give (this project).
use Rattle.std.specs.Prelude.{ℕ, pos, Bool, true, false, List, [], ◌∷◌, Option, Some, None, find, option_map, option_and_then, codes}
use Rattle.std.specs.Str.{bytes_eq}
use Rattle.gl_check.specs.declared.function.Function.{Function}
use Rattle.gl_check.specs.declared.function.Function.TheVariants as fns
use Rattle.gl_check.specs.declared.kind.Kind.{Kind}
use Rattle.gl_check.specs.declared.kind.Kind.TheVariants as kinds
use Rattle.gl_check.specs.declared.parameter.Parameter.{Parameter}
use Rattle.gl_check.specs.declared.parameter.Parameter.TheVariants as params
use Rattle.gl_check.specs.declared.preset.Preset.{Preset}
use Rattle.gl_check.specs.declared.preset.Preset.TheVariants as presets
use Rattle.gl_check.specs.Values.{Value, text, whole, truth}

pub record ParameterRow : Type 0 where
  pub name : List ℕ
  -- of which kind an argument has to be; `Any` takes each
  pub kind : Kind
  -- what stands for an argument that isn't given; without one it must be
  pub default : Option Value
  -- the argument is a pattern, and stands in the rule as a string
  pub is_pattern : Bool
  -- the argument may be missing
  pub may_miss : Bool

abbrev pub takes : List ℕ → Kind → ParameterRow
takes name kind = record { name = name; kind = kind; default = None; is_pattern = false; may_miss = false }

abbrev pub takes_or : List ℕ → Kind → Value → ParameterRow
takes_or name kind default = record { name = name; kind = kind; default = Some default; is_pattern = false; may_miss = false }

abbrev pub takes_pattern : ParameterRow
takes_pattern = record { name = codes "pattern"; kind = kinds.Text; default = None; is_pattern = true; may_miss = false }

abbrev pub takes_what_may_miss : ParameterRow
takes_what_may_miss = record { name = codes "value"; kind = kinds.Any; default = None; is_pattern = false; may_miss = true }

abbrev pub takes_text : ParameterRow
takes_text = takes (codes "value") kinds.Text

abbrev pub takes_number : ParameterRow
takes_number = takes (codes "value") kinds.Whole

-- `value`, `search` and `ignore_case`
abbrev pub takes_search : List ParameterRow
takes_search = takes_text ∷ takes (codes "search") kinds.Text ∷ takes_or (codes "ignore_case") kinds.Bool (truth false) ∷ []

-- `id` and `name` of a stream, of which either may be left out
abbrev pub takes_stream : List ParameterRow → List ParameterRow
takes_stream more = takes_or (codes "id") kinds.Text (text []) ∷ takes_or (codes "name") kinds.Text (text []) ∷ more

-- a row of the table; what gives no value is an action
pub record Row : Type 0 where
  pub name : List ℕ
  pub parameters : List ParameterRow
  pub gives : Option Kind

abbrev pub computes : Kind → List ℕ → List ParameterRow → Row
computes kind name parameters = record { name = name; parameters = parameters; gives = Some kind }

abbrev pub does : List ℕ → List ParameterRow → Row
does name parameters = record { name = name; parameters = parameters; gives = None }

-- the table
abbrev pub row_of : Function → Row
row_of fns.HasField = computes kinds.Bool (codes "has_field") (takes (codes "field") kinds.Text ∷ [])
row_of fns.IsNull = computes kinds.Bool (codes "is_null") (takes_what_may_miss ∷ [])
row_of fns.IsNotNull = computes kinds.Bool (codes "is_not_null") (takes_what_may_miss ∷ [])
row_of fns.IsString = computes kinds.Bool (codes "is_string") (takes (codes "value") kinds.Any ∷ [])
row_of fns.IsNumber = computes kinds.Bool (codes "is_number") (takes (codes "value") kinds.Any ∷ [])
row_of fns.ToString = computes kinds.Text (codes "to_string") (takes_what_may_miss ∷ takes_or (codes "default") kinds.Text (text []) ∷ [])
row_of fns.ToLong = computes kinds.Whole (codes "to_long") (takes_what_may_miss ∷ takes_or (codes "default") kinds.Whole (whole (pos 0)) ∷ [])
row_of fns.Contains = computes kinds.Bool (codes "contains") takes_search
row_of fns.StartsWith = computes kinds.Bool (codes "starts_with") takes_search
row_of fns.EndsWith = computes kinds.Bool (codes "ends_with") takes_search
row_of fns.RegexMatches = computes kinds.Bool (codes "regex_matches") (takes_pattern ∷ takes_text ∷ [])
row_of fns.RegexGroup = computes kinds.Text (codes "regex_group") (takes_pattern ∷ takes_text ∷ takes_or (codes "group") kinds.Whole (whole (pos 1)) ∷ [])
row_of fns.Lowercase = computes kinds.Text (codes "lowercase") (takes_text ∷ [])
row_of fns.Uppercase = computes kinds.Text (codes "uppercase") (takes_text ∷ [])
row_of fns.Trim = computes kinds.Text (codes "trim") (takes_text ∷ [])
row_of fns.Concat = computes kinds.Text (codes "concat") (takes (codes "first") kinds.Text ∷ takes (codes "second") kinds.Text ∷ [])
row_of fns.Replace = computes kinds.Text (codes "replace") (takes_text ∷ takes (codes "search") kinds.Text ∷ takes (codes "replacement") kinds.Text ∷ [])
row_of fns.Substring = computes kinds.Text (codes "substring") (takes_text ∷ takes (codes "start") kinds.Whole ∷ takes (codes "end") kinds.Whole ∷ [])
row_of fns.SplitItem = computes kinds.Text (codes "split_item") (takes_text ∷ takes (codes "by") kinds.Text ∷ takes (codes "index") kinds.Whole ∷ [])
row_of fns.Length = computes kinds.Whole (codes "length") (takes_text ∷ [])
row_of fns.Abs = computes kinds.Whole (codes "abs") (takes_number ∷ [])
row_of fns.LookupValue = computes kinds.Text (codes "lookup_value")
    (takes (codes "lookup_table") kinds.Text ∷ takes (codes "key") kinds.Text ∷ takes_or (codes "default") kinds.Text (text []) ∷ [])
row_of fns.SyslogLevel = computes kinds.Text (codes "syslog_level") (takes_number ∷ [])
row_of fns.SyslogFacility = computes kinds.Text (codes "syslog_facility") (takes_number ∷ [])
row_of fns.InStream = computes kinds.Bool (codes "in_stream") (takes (codes "id") kinds.Text ∷ [])
row_of fns.SetField = does (codes "set_field") (takes (codes "field") kinds.Text ∷ takes (codes "value") kinds.Any ∷ [])
row_of fns.RemoveField = does (codes "remove_field") (takes (codes "field") kinds.Text ∷ [])
row_of fns.RenameField = does (codes "rename_field") (takes (codes "old_field") kinds.Text ∷ takes (codes "new_field") kinds.Text ∷ [])
row_of fns.RouteToStream = does (codes "route_to_stream") (takes_stream (takes_or (codes "remove_from_default") kinds.Bool (truth false) ∷ []))
row_of fns.RemoveFromStream = does (codes "remove_from_stream") (takes_stream [])
row_of fns.DropMessage = does (codes "drop_message") []

-- all functions, and behind them the actions
abbrev pub functions : List Function
functions =
    fns.HasField ∷ fns.IsNull ∷ fns.IsNotNull ∷ fns.IsString ∷ fns.IsNumber ∷ fns.ToString ∷ fns.ToLong ∷ fns.Contains
    ∷ fns.StartsWith ∷ fns.EndsWith ∷ fns.RegexMatches ∷ fns.RegexGroup ∷ fns.Lowercase ∷ fns.Uppercase ∷ fns.Trim
    ∷ fns.Concat ∷ fns.Replace ∷ fns.Substring ∷ fns.SplitItem ∷ fns.Length ∷ fns.Abs ∷ fns.LookupValue ∷ fns.SyslogLevel
    ∷ fns.SyslogFacility ∷ fns.InStream ∷ fns.SetField ∷ fns.RemoveField ∷ fns.RenameField ∷ fns.RouteToStream
    ∷ fns.RemoveFromStream ∷ fns.DropMessage ∷ []

abbrev pub has_name : List ℕ → Function → Bool
has_name name function = bytes_eq name (row_of function).name

-- the function or action of this name, if there is one
unfoldable pub function_named : List ℕ → Option Function
function_named name = find (has_name name) functions

-- what it gives as an expression: nothing where it is no function
abbrev pub gives_named : Option Function → Option Kind
gives_named function = option_and_then (λ f. (row_of f).gives) function

-- the value of a default as the code has it
abbrev pub preset_value : Preset → Value
preset_value presets.Empty = text []
preset_value (presets.Number n) = whole n
preset_value presets.No = truth false

-- what a parameter of the code asks
abbrev pub asked : Parameter → ParameterRow
asked params.Field = takes (codes "field") kinds.Text
asked params.Value = takes (codes "value") kinds.Any
asked params.ValueOrMissing = takes_what_may_miss
asked params.TextValue = takes_text
asked params.NumberValue = takes_number
asked params.DefaultText = takes_or (codes "default") kinds.Text (text [])
asked params.DefaultNumber = takes_or (codes "default") kinds.Whole (whole (pos 0))
asked params.Search = takes (codes "search") kinds.Text
asked params.IgnoreCase = takes_or (codes "ignore_case") kinds.Bool (truth false)
asked params.Pattern = takes_pattern
asked params.Group = takes_or (codes "group") kinds.Whole (whole (pos 1))
asked params.First = takes (codes "first") kinds.Text
asked params.Second = takes (codes "second") kinds.Text
asked params.Replacement = takes (codes "replacement") kinds.Text
asked params.Start = takes (codes "start") kinds.Whole
asked params.End = takes (codes "end") kinds.Whole
asked params.By = takes (codes "by") kinds.Text
asked params.Index = takes (codes "index") kinds.Whole
asked params.LookupTable = takes (codes "lookup_table") kinds.Text
asked params.Key = takes (codes "key") kinds.Text
asked params.Id = takes (codes "id") kinds.Text
asked params.StreamId = takes_or (codes "id") kinds.Text (text [])
asked params.StreamName = takes_or (codes "name") kinds.Text (text [])
asked params.OldField = takes (codes "old_field") kinds.Text
asked params.NewField = takes (codes "new_field") kinds.Text
asked params.RemoveFromDefault = takes_or (codes "remove_from_default") kinds.Bool (truth false)
