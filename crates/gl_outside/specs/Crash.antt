-- What a crash may leave, in plain words: what an area read as at its last sync, but for the bytes that were written or cut since, and with a length between the least and the greatest that it had since.
use Rattle.std.specs.Prelude.{◌≡◌, ℕ, ◌+◌, ◌<◌, ◌≤◌, min, max, Bool, false, ◌&&◌, ◌||◌, not, List, [], ◌∷◌, length, slice_index, nat_lt, nat_le, ◌==◌, if◌then◌else◌}
use Rattle.gl_outside.specs.Events.{Event, Looked, Wrote, WasCut, Synced, content}

-- what the area read as at its last sync
abbrev pub synced : ℕ → List Event → List ℕ
synced area [] = []
synced area (Looked ∷ earlier) = synced area earlier
synced area (Wrote a at bytes done ∷ earlier) = synced area earlier
synced area (WasCut a n done ∷ earlier) = synced area earlier
synced area (Synced a ∷ earlier) = if a == area then content earlier area else synced area earlier

-- the least and the greatest length that it had since
abbrev pub least_length : ℕ → List Event → ℕ
least_length area [] = 0
least_length area (Looked ∷ earlier) = least_length area earlier
least_length area (Wrote a at bytes done ∷ earlier) = least_length area earlier
least_length area (WasCut a n done ∷ earlier) = if a == area then min n (least_length area earlier) else least_length area earlier
least_length area (Synced a ∷ earlier) = if a == area then length (content earlier area) else least_length area earlier

abbrev pub greatest_length : ℕ → List Event → ℕ
greatest_length area [] = 0
greatest_length area (Looked ∷ earlier) = greatest_length area earlier
greatest_length area (Wrote a at bytes done ∷ earlier) = if a == area then max (at + length bytes) (greatest_length area earlier) else greatest_length area earlier
greatest_length area (WasCut a n done ∷ earlier) = greatest_length area earlier
greatest_length area (Synced a ∷ earlier) = if a == area then length (content earlier area) else greatest_length area earlier

-- whether the byte at a place was written or cut since
abbrev pub is_touched : ℕ → ℕ → List Event → Bool
is_touched area place [] = false
is_touched area place (Looked ∷ earlier) = is_touched area place earlier
is_touched area place (Wrote a at bytes done ∷ earlier) = a == area && nat_le at place && nat_lt place (at + length bytes) || is_touched area place earlier
is_touched area place (WasCut a n done ∷ earlier) = a == area && nat_le n place || is_touched area place earlier
is_touched area place (Synced a ∷ earlier) = not (a == area) && is_touched area place earlier

pub record IsCrashImage (area : ℕ) (events : List Event) (bytes : List ℕ) : Type 0 where
  pub least : least_length area events ≤ length bytes
  pub most : length bytes ≤ greatest_length area events
  pub kept : (place : ℕ) → place < length (synced area events) → is_touched area place events ≡ false → slice_index bytes place ≡ slice_index (synced area events) place

-- each write begins within what its area read as then
abbrev pub AreLawful : List Event → Type 0
AreLawful [] = Unit {0}
AreLawful (Looked ∷ earlier) = AreLawful earlier
AreLawful (Wrote area at bytes done ∷ earlier) = (at ≤ length (content earlier area)) × AreLawful earlier
AreLawful (WasCut area n done ∷ earlier) = AreLawful earlier
AreLawful (Synced area ∷ earlier) = AreLawful earlier
