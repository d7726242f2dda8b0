-- What a call says of a text: what it reads as, or at which byte it stops to.
use Rattle.std.specs.Prelude.{◌≡◌, ℕ, ◌-◌, ⊤, List, length, Result, Ok, Err}
use Rattle.gl_json.specs.declared.bytes.Stop.{Stop}
use Rattle.gl_json.specs.declared.bytes.Stop.TheVariants.{At, Deep}
use Rattle.gl_json.specs.declared.refusal.JsonRefusal.{JsonRefusal}
use Rattle.gl_json.specs.declared.refusal.JsonRefusal.TheVariants as refusals
use Rattle.gl_json.specs.declared.refusal.Halt.{Halt}
use Rattle.gl_json.specs.declared.refusal.Halt.TheVariants as halts
use Rattle.gl_json.specs.Grammar.{Pair}
use Rattle.gl_json.specs.JsonReading.{whole_at}

-- the place is counted from the front of the text
abbrev pub refusal_of : List ℕ → Stop → JsonRefusal
refusal_of bytes (At left) = refusals.NotJson (length bytes - left)
refusal_of bytes Deep = refusals.TooDeep

abbrev pub refused : {X : Type 0} → List ℕ → Result X Stop → Result X JsonRefusal
refused bytes (Ok x) = Ok x
refused bytes (Err stop) = Err (refusal_of bytes stop)

-- What was answered, seen by view, is what the text says, unless memory ran out.
abbrev pub Answers : {X Y : Type 0} → (X → Y) → Result X JsonRefusal → Result Y JsonRefusal → Type 0
Answers view (Ok x) read = read ≡ Ok (view x)
Answers view (Err refusals.OutOfMemory) read = ⊤
Answers view (Err (refusals.NotJson at)) read = read ≡ Err (refusals.NotJson at)
Answers view (Err refusals.TooDeep) read = read ≡ Err refusals.TooDeep

-- the same of a part
abbrev pub Halts : {X Y : Type 0} → (X → Y) → Result X Halt → Result Y Stop → Type 0
Halts view (Ok x) read = read ≡ Ok (view x)
Halts view (Err (halts.At stop)) read = read ≡ Err stop
Halts view (Err halts.OutOfMemory) read = ⊤

-- the members of the object that a text is, or its place
unfoldable pub object_of : List ℕ → Result (List Pair) JsonRefusal
object_of text = refused text (whole_at text)
