-- A disk that tells its bytes goes on telling them.
use Rattle.std.proofs.Common.{◌≡◌, Bool, IsTrue, sym, subst}
use Rattle.gl_outside.specs.Disk.{DiskState, Tells}

pub still : (old new : DiskState) → new.tells ≡ old.tells → Tells old → Tells new
still old new same tells = subst (λ (b : Bool). IsTrue b) (sym same) tells
