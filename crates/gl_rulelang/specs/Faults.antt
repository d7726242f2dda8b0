-- The first fault of a text, and what a call says of what is read.
use Rattle.std.specs.Prelude.{◌≡◌, ℕ, Result, Ok, Err}
use Rattle.gl_rulelang.specs.declared.refusal.TextRefusal.{TextRefusal}
use Rattle.gl_rulelang.specs.declared.refusal.TextRefusal.TheVariants as refusals
use Rattle.gl_rulelang.specs.Tokens.{Tokens}

pub data Fault : Type 0 where
  bad_token : ℕ → Fault
  unexpected : ℕ → Fault
  too_deep : Fault

-- what is read of tokens: a value and the tokens behind it
abbrev pub Reads : Type 0 → Type 0
Reads A = Result (A × Tokens) Fault

infixl 10 ◌>>=◌
abbrev pub ◌>>=◌ : {A B : Type 0} → Result A Fault → (A → Result B Fault) → Result B Fault
(Ok x) >>= f = f x
(Err e) >>= f = Err e

-- A call refused for this fault, or memory ran out.
abbrev pub Fails : {Y : Type 0} → TextRefusal → Result Y Fault → Type 0
Fails refusals.OutOfMemory read = Unit {0}
Fails (refusals.BadToken at) read = read ≡ Err (bad_token at)
Fails (refusals.Unexpected at) read = read ≡ Err (unexpected at)
Fails refusals.TooDeep read = read ≡ Err too_deep

-- What a call returned, seen by view, is what is read, unless memory ran out.
abbrev pub Answers : {X Y : Type 0} → (X → Y) → Result X TextRefusal → Result Y Fault → Type 0
Answers view (Ok x) read = read ≡ Ok (view x)
Answers view (Err e) read = Fails e read

-- The same, with the tokens that are left.
abbrev pub Gives : {X Y : Type 0} → (X → Y) → Result X TextRefusal → Tokens → Reads Y → Type 0
Gives view (Ok x) behind read = read ≡ Ok (view x, behind)
Gives view (Err e) behind read = Fails e read
