-- What the record of one call more does to what such a disk tells.
use Rattle.std.specs.Prelude.{ℕ, Bool, List, ◌∷◌, length, refl}
use Rattle.std.proofs.Common.{inl, inr, ⊎_elim, arith}
use Rattle.gl_outside.specs.Disk.{Image, CutTo, Elapses, Follows, InArea, Torn}
use Rattle.gl_outside.specs.Events.{Event, Wrote, WasCut, IsImage, told_by, torn_same}

pub elapses_same : (events : List Event) → Elapses (told_by events) (told_by events)
elapses_same events = record { later = omega arith; nothing_else = λ t c le left. inl left; keeps = λ t c le left. left }

pub elapses_more : (e : Event) (events : List Event) → Elapses (told_by events) (told_by (e ∷ events))
elapses_more e events = record { later = omega arith; nothing_else = λ t c le left. ⊎_elim (λ now. inr now) (λ before. inl before.1) left; keeps = λ t c le left. inr (le, left) }

pub follows_write : (area at : ℕ) (bytes : List ℕ) (done : Bool) (events : List Event) → Follows (InArea area (Torn at (length bytes))) (told_by events) (told_by (Wrote area at bytes done ∷ events))
follows_write area at bytes done events c left = record { from = left.0; image = left.1; steps = left.2 }

pub follows_same_write : (area at n : ℕ) (events : List Event) → Follows (InArea area (Torn at n)) (told_by events) (told_by events)
follows_same_write area at n events c left = record { from = c; image = left; steps = record { there = torn_same at n (c area); elsewhere = λ b ne. refl } }

pub follows_cut : (area n : ℕ) (done : Bool) (events : List Event) → Follows (InArea area (CutTo n)) (told_by events) (told_by (WasCut area n done ∷ events))
follows_cut area n done events c left = record { from = left.0; image = left.1; steps = left.2 }

-- a write and a cut, done or not, take no image away
pub write_keeps : (area at : ℕ) (bytes : List ℕ) (done : Bool) (events : List Event) (c : Image) → IsImage events c → IsImage (Wrote area at bytes done ∷ events) c
write_keeps area at bytes done events c image = (c, image, record { there = torn_same at (length bytes) (c area); elsewhere = λ b ne. refl })

pub cut_keeps : (area n : ℕ) (done : Bool) (events : List Event) (c : Image) → IsImage events c → IsImage (WasCut area n done ∷ events) c
cut_keeps area n done events c image = (c, image, record { there = record { before = refl; no_longer = omega arith }; elsewhere = λ b ne. refl })
