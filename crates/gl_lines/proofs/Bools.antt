-- Tests joined by `and`.
use Rattle.std.proofs.Common.{◌≡◌, ◌⊎◌, Bool, true, false, ◌&&◌, refl, inl, inr}

pub and_both : (a b : Bool) → (a && b) ≡ true → (a ≡ true) × (b ≡ true)
and_both true b h = (refl, h)
and_both false b h = absurd cc

pub and_holds : (a b : Bool) → a ≡ true → b ≡ true → (a && b) ≡ true
and_holds true b h k = k
and_holds false b h k = absurd cc

pub and_left : (a b : Bool) → a ≡ false → (a && b) ≡ false
and_left true b h = absurd cc
and_left false b h = refl

pub and_right : (a b : Bool) → b ≡ false → (a && b) ≡ false
and_right true b h = h
and_right false b h = refl

pub and_one : (a b : Bool) → (a && b) ≡ false → (a ≡ false) ⊎ ((a ≡ true) × (b ≡ false))
and_one true b h = inr (refl, h)
and_one false b h = inl refl
