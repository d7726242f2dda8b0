-- The places of an expression as the code has them.
use Rattle.std.specs.Prelude.{◌≡◌, ℕ, List, Result, Ok, Err}
use Rattle.gl_rulelang.specs.declared.place.Start.{Start as CodeStart}
use Rattle.gl_rulelang.specs.declared.place.Start.TheVariants as starts
use Rattle.gl_rulelang.specs.declared.place.Place.{Place as CodePlace}
use Rattle.gl_rulelang.specs.declared.place.Place.TheVariants as code
use Rattle.gl_rulelang.specs.declared.place.Move.{Move as CodeMove}
use Rattle.gl_rulelang.specs.declared.place.Move.TheVariants as moves
use Rattle.gl_rulelang.specs.declared.refusal.TextRefusal.{TextRefusal}
use Rattle.gl_rulelang.specs.declared.refusal.TextRefusal.TheVariants as refusals
use Rattle.gl_rulelang.specs.Tree.{tree_of}
use Rattle.gl_rulelang.specs.Nesting.{Open}
use Rattle.gl_rulelang.specs.Expressions.{Start, anywhere, first_argument, next_argument, Place, wants, named, maybe_named, message, dotted, has, acted, Move, goes, ends, stuck, deep}

abbrev pub start_view : CodeStart → Start
start_view starts.Anywhere = anywhere
start_view starts.FirstArgument = first_argument
start_view starts.NextArgument = next_argument

abbrev pub place_view : CodePlace → Place
place_view (code.Wants s) = wants (start_view s)
place_view (code.Named n) = named n.now
place_view (code.MaybeNamed n) = maybe_named n.now
place_view code.Message = message
place_view code.Dotted = dotted
place_view (code.Has e) = has (tree_of e)
place_view (code.Acted e) = acted (tree_of e)

-- What a call returned is that move, at this place of the text, unless memory ran out.
abbrev pub Moves : ℕ → Result CodeMove TextRefusal → List Open → Move → Type 0
Moves at (Ok (moves.Goes place)) stack move = move ≡ goes stack (place_view place)
Moves at (Ok (moves.Ends e)) stack move = move ≡ ends (tree_of e)
Moves at (Err refusals.OutOfMemory) stack move = Unit {0}
Moves at (Err (refusals.Unexpected here)) stack move = (move ≡ stuck) × (here ≡ at)
Moves at (Err refusals.TooDeep) stack move = move ≡ deep
Moves at (Err (refusals.BadToken here)) stack move = ⊥
