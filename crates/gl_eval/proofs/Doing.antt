-- What stands for an action does nothing where it is none.
use Rattle.std.proofs.Common.{◌≡◌, List, refl}
use Rattle.gl_check.specs.declared.function.Function.{Function}
use Rattle.gl_check.specs.declared.function.Function.TheVariants as fns
use Rattle.gl_check.specs.Values.{Value}
use Rattle.gl_functions.specs.Worlds.{Known}
use Rattle.gl_eval.specs.declared.staged.Staged.{Staged}
use Rattle.gl_eval.specs.Actions.{done_by}

pub none_done : (world : Known) (f : Function) (values : List Value) (m : Staged)
    → (f ≡ fns.SetField → ⊥)
    → (f ≡ fns.RemoveField → ⊥)
    → (f ≡ fns.RenameField → ⊥)
    → (f ≡ fns.RouteToStream → ⊥)
    → (f ≡ fns.RemoveFromStream → ⊥)
    → (f ≡ fns.DropMessage → ⊥)
    → done_by world f values m ≡ m
none_done world fns.HasField values m a b c d e g = refl
none_done world fns.IsNull values m a b c d e g = refl
none_done world fns.IsNotNull values m a b c d e g = refl
none_done world fns.IsString values m a b c d e g = refl
none_done world fns.IsNumber values m a b c d e g = refl
none_done world fns.ToString values m a b c d e g = refl
none_done world fns.ToLong values m a b c d e g = refl
none_done world fns.Contains values m a b c d e g = refl
none_done world fns.StartsWith values m a b c d e g = refl
none_done world fns.EndsWith values m a b c d e g = refl
none_done world fns.RegexMatches values m a b c d e g = refl
none_done world fns.RegexGroup values m a b c d e g = refl
none_done world fns.Lowercase values m a b c d e g = refl
none_done world fns.Uppercase values m a b c d e g = refl
none_done world fns.Trim values m a b c d e g = refl
none_done world fns.Concat values m a b c d e g = refl
none_done world fns.Replace values m a b c d e g = refl
none_done world fns.Substring values m a b c d e g = refl
none_done world fns.SplitItem values m a b c d e g = refl
none_done world fns.Length values m a b c d e g = refl
none_done world fns.Abs values m a b c d e g = refl
none_done world fns.LookupValue values m a b c d e g = refl
none_done world fns.SyslogLevel values m a b c d e g = refl
none_done world fns.SyslogFacility values m a b c d e g = refl
none_done world fns.InStream values m a b c d e g = refl
none_done world fns.SetField values m a b c d e g = absurd (a refl)
none_done world fns.RemoveField values m a b c d e g = absurd (b refl)
none_done world fns.RenameField values m a b c d e g = absurd (c refl)
none_done world fns.RouteToStream values m a b c d e g = absurd (d refl)
none_done world fns.RemoveFromStream values m a b c d e g = absurd (e refl)
none_done world fns.DropMessage values m a b c d e g = absurd (g refl)
