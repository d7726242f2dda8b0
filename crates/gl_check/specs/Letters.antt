-- The functions by the first letters of their names, so that a name is compared with few.
use Rattle.std.specs.Prelude.{ℕ, ◌==◌, List, [], ◌∷◌, if◌then◌else◌}
use Rattle.gl_check.specs.declared.function.Function.{Function}
use Rattle.gl_check.specs.declared.function.Function.TheVariants as fns

-- those whose names begin with this letter, in the order of the table
abbrev pub beginning_with : ℕ → List Function
beginning_with letter =
    if letter == 97 then fns.Abs ∷ []
    else if letter == 99 then fns.Contains ∷ fns.Concat ∷ []
    else if letter == 100 then fns.DropMessage ∷ []
    else if letter == 101 then fns.EndsWith ∷ []
    else if letter == 104 then fns.HasField ∷ []
    else if letter == 105 then fns.IsNull ∷ fns.IsNotNull ∷ fns.IsString ∷ fns.IsNumber ∷ fns.InStream ∷ []
    else if letter == 108 then fns.Lowercase ∷ fns.Length ∷ fns.LookupValue ∷ []
    else if letter == 114 then fns.RegexMatches ∷ fns.RegexGroup ∷ fns.Replace ∷ fns.RemoveField ∷ fns.RenameField ∷ fns.RouteToStream ∷ fns.RemoveFromStream ∷ []
    else if letter == 115 then fns.StartsWith ∷ fns.Substring ∷ fns.SplitItem ∷ fns.SyslogLevel ∷ fns.SyslogFacility ∷ fns.SetField ∷ []
    else if letter == 116 then fns.ToString ∷ fns.ToLong ∷ fns.Trim ∷ []
    else if letter == 117 then fns.Uppercase ∷ []
    else []
