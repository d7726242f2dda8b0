-- What a crash may leave of an area of a disk in memory, in words alone.
use Rattle.std.specs.Prelude.{◌≡◌, ◌≢◌, ◌⊎◌, ℕ, ◌+◌, ◌<◌, ◌≤◌, true, List, [], ◌∷◌, length, slice_index}
use Rattle.gl_outside.specs.Crash.{synced}
use Rattle.gl_outside.specs.Events.{Event, Looked, Wrote, WasCut, Synced, content}

-- a length that the area had since its last sync, or would have had where a call that failed had been done
abbrev pub HadLength : ℕ → List Event → ℕ → Type 0
HadLength area [] n = n ≡ 0
HadLength area (Looked ∷ earlier) n = HadLength area earlier n
HadLength area (Wrote a at bytes done ∷ earlier) n = HadLength area earlier n ⊎ (n ≡ length (content (Wrote a at bytes true ∷ earlier) area))
HadLength area (WasCut a m done ∷ earlier) n = HadLength area earlier n ⊎ (n ≡ length (content (WasCut a m true ∷ earlier) area))
HadLength area (Synced a ∷ earlier) n = ((a ≡ area) × (n ≡ length (content earlier area))) ⊎ ((a ≢ area) × HadLength area earlier n)

-- the byte at a place was written since, or cut away
abbrev pub WasTouched : ℕ → ℕ → List Event → Type 0
WasTouched area place [] = ⊥
WasTouched area place (Looked ∷ earlier) = WasTouched area place earlier
WasTouched area place (Wrote a at bytes done ∷ earlier) = WasTouched area place earlier ⊎ ((a ≡ area) × (at ≤ place) × (place < at + length bytes))
WasTouched area place (WasCut a m done ∷ earlier) = WasTouched area place earlier ⊎ ((a ≡ area) × (m ≤ place) × (place < length (content earlier area)))
WasTouched area place (Synced a ∷ earlier) = (a ≢ area) × WasTouched area place earlier

-- Its length lies between two that it had since its last sync, and each byte that was there then and was not touched since is as it was.
pub record MayBeLeft (area : ℕ) (events : List Event) (bytes : List ℕ) : Type 0 where
  pub no_shorter : (n : ℕ) × HadLength area events n × (n ≤ length bytes)
  pub no_longer : (n : ℕ) × HadLength area events n × (length bytes ≤ n)
  pub kept : (place : ℕ) → place < length (synced area events) → (WasTouched area place events → ⊥) → slice_index bytes place ≡ slice_index (synced area events) place
