use Rattle.std.proofs.Common.{◌≡◌, ℕ, List, length, Some, None, refl, sym}
use Rattle.std.specs.Prelude.{Option, option_copied, slice_get}
use Rattle.std.specs.Slice.{IsItemAt}
use Rattle.std.specs.Borrow.{Bor}
use Rattle.std.proofs.lemmas.Option.{slice_get_past, slice_get_read}
use Rattle.gl_functions.proofs.arguments.argument_at.Goals as goal

got : {X : Type 0} (xs : List X) (i : ℕ) (r : Option (Bor X)) → IsItemAt xs i r → option_copied r ≡ slice_get xs i
got xs i None h = sym (slice_get_past xs i h.3)
got xs i (Some x) h = sym (slice_get_read xs (length xs) i x.now refl h.3.0 h.1)

pub returns : goal.returns
returns c = got c.args.arguments.now c.args.at c.get.result c.get.ensures.lookup
