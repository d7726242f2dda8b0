-- What a call says of memory.
use Rattle.std.specs.Prelude.{Result, IsErrOf}
use Rattle.gl_outside.specs.declared.fault.Outside.{Outside}
use Rattle.gl_outside.specs.declared.fault.Outside.TheVariants.{OutOfMemory}

-- a call that takes no memory
abbrev pub NeedsNoMemory : {T : Type 0} → Result T Outside → Type 0
NeedsNoMemory result = IsErrOf result OutOfMemory → ⊥
