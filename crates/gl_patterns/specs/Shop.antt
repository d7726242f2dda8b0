-- What a shop of patterns keeps of the texts that it refused.
use Rattle.std.specs.Prelude.{ℕ, List, Result, Ok, Err}
use Rattle.gl_outside.specs.declared.fault.Outside.{Outside}
use Rattle.gl_outside.specs.declared.fault.Outside.TheVariants.{Failed, OutOfMemory}

-- the last refused text after a `build` of this text: a refusal that isn't want of memory keeps it
abbrev pub refused_after : {T : Type 0} → Result T Outside → List ℕ → List ℕ → List ℕ
refused_after (Ok pattern) text before = before
refused_after (Err Failed) text before = text
refused_after (Err OutOfMemory) text before = before

-- the last text that it refused, and how often it refused one
pub record Refusals : Type 0 where
  pub refused : List ℕ
  pub faults : ℕ

-- the last text that it refused, and the same of its calls
pub record ShopView : Type 0 where
  pub refused : List ℕ
  pub failing : List ℕ
  pub made : ℕ
  pub faults : ℕ
