-- Room for as many bytes as the areas hold.
use Rattle.std.proofs.Common.{◌≡◌, ◌≢◌, inl, inr, ℕ, suc, ◌+◌, ◌-◌, ◌^◌, ◌≤◌, ◌<◌, Bool, true, false, List, [], ◌∷◌, if◌then◌else◌, min, length, get_or, refl, sym, ◌∙◌, ap, arith}
use Rattle.std.proofs.lemmas.Bool.{cases_eq}
use Rattle.std.proofs.lemmas.Bool.Decides.{nat_tests}
use Rattle.std.proofs.lemmas.List.Sums.{sum_by-cons}
use Rattle.gl_outside.specs.declared.areas.Area.{Area}
use Rattle.gl_outside.specs.Areas.{bytes_in, held}
use Rattle.gl_outside.specs.Disk.{overwritten}
use Rattle.gl_outside.specs.Events.{Event, Looked, Wrote, content, written_over, torn_whole}
use Rattle.gl_outside.specs.RecordView.{RecordView}
use Rattle.gl_outside.proofs.AreaSteps.{bytes_hit, bytes_miss, put_hit, put_miss}
use Rattle.std.specs.List.{AllPairs, sum_by}
use lib.Dec.{leb}

-- no area has more bytes than all of them
pub within : (areas : List Area) (n : ℕ) → length (bytes_in areas n) ≤ held areas
within [] n = omega arith
within (a ∷ rest) n = elim (cases_eq n a.number) [
  | inl e ↦ omega (arith, ap length (bytes_hit a rest n e), sum_by-cons (λ (x : Area). length x.bytes.items) a rest)
  | inr ne ↦ omega (arith, ap length (bytes_miss a rest n ne), within rest n, sum_by-cons (λ (x : Area). length x.bytes.items) a rest)
]

-- ---- areas together

-- a sum of one more at most at one of different places
once : (f g : ℕ → ℕ) (x more : ℕ) (places : List ℕ) → ((n : ℕ) → n ≢ x → f n ≤ g n) → f x ≤ more + g x → AllPairs (λ a b. a ≢ b) places → sum_by f places ≤ more + sum_by g places
once f g x more [] same here apart = omega arith
once f g x more (n ∷ places) same here apart = elim (cases_eq n x) [
  | inl is ↦ omega (arith, sum_by-cons f n places, sum_by-cons g n places, ap f is, ap g is, here, none places (λ k lt e. apart 0 (suc k) 0 (omega arith) (omega (arith, lt)) (is ∙ sym e)))
  | inr ne ↦ omega (arith, sum_by-cons f n places, sum_by-cons g n places, same n ne, once f g x more places same here (λ i j d lt less. apart (suc i) (suc j) d (omega (arith, lt)) (omega (arith, less))))
]
  where
    none : (later : List ℕ) → ((k : ℕ) → k < length later → get_or later k 0 ≢ x) → sum_by f later ≤ sum_by g later
    none [] off = omega arith
    none (m ∷ later) off = omega (arith, sum_by-cons f m later, sum_by-cons g m later, same m (off 0 (omega arith)), none later (λ k lt. off (suc k) (omega (arith, lt))))

-- different areas have no more bytes together than all of them
pub together : (areas : List Area) (places : List ℕ) → AllPairs (λ a b. a ≢ b) places → sum_by (λ n. length (bytes_in areas n)) places ≤ held areas
together [] places apart = no_sum places
  where
    no_sum : (l : List ℕ) → sum_by (λ n. length (bytes_in [] n)) l ≤ 0
    no_sum [] = omega arith
    no_sum (n ∷ l) = omega (arith, sum_by-cons (λ n. length (bytes_in [] n)) n l, no_sum l)
together (a ∷ rest) places apart = omega (
  arith,
  sum_by-cons (λ (x : Area). length x.bytes.items) a rest,
  together rest places apart,
  once (λ n. length (bytes_in (a ∷ rest) n)) (λ n. length (bytes_in rest n)) a.number (length a.bytes.items) places (λ n ne. omega (arith, ap length (bytes_miss a rest n ne))) (omega (arith, ap length (bytes_hit a rest a.number refl))) apart,
)

-- the same of what the areas read as
pub together_read : (areas : List Area) (events : List Event) → ((b : ℕ) → bytes_in areas b ≡ content events b) → (places : List ℕ) → AllPairs (λ a b. a ≢ b) places → sum_by (λ n. length (content events n)) places ≤ held areas
together_read areas events holds places apart =
    let same : bytes_in areas ≡ content events = λ i b. holds b i in
    omega (arith, together areas places apart, ap (λ (image : ℕ → List ℕ). sum_by (λ n. length (image n)) places) same)

pub for_each : (areas : List Area) (room n : ℕ) → room ≡ min (4096 + held areas) (2 ^ 64 - 1) → room < 2 ^ 63 → 4096 + length (bytes_in areas n) ≤ room
for_each areas room n is fits = omega (arith, within areas n)

-- room for 4,096 bytes more than any areas hold together
abbrev IsForAreas : RecordView → Type 0
IsForAreas now = (places : List ℕ) → AllPairs (λ a b. a ≢ b) places → 4096 + sum_by (λ n. length (content now.events n)) places ≤ now.bytes_left

-- after a call that looks, with room made for it
pub looked : (areas : List Area) (room : ℕ) (before mid now : RecordView)
    → ((b : ℕ) → bytes_in areas b ≡ content before.events b)
    → room ≡ min (4096 + held areas) (2 ^ 64 - 1) → room < 2 ^ 63
    → mid ≡ record before { calls_left = 4097; bytes_left = room }
    → now ≡ record mid { events = Looked ∷ mid.events; calls_left = mid.calls_left - 1 }
    → (now.calls_left ≡ 4096) × ((b : ℕ) → 4096 + length (content now.events b) ≤ now.bytes_left) × IsForAreas now
looked areas room before mid now holds is fits made noted =
    let last : now ≡ record { events = Looked ∷ before.events; calls_left = 4096; bytes_left = room } = noted ∙ ap (λ (v : RecordView). record v { events = Looked ∷ v.events; calls_left = v.calls_left - 1 }) made in (
      ap (λ (v : RecordView). v.calls_left) last,
      λ b. omega (arith, ap (λ (v : RecordView). v.bytes_left) last, ap (λ (v : RecordView). length (content v.events b)) last, ap length (holds b), for_each areas room b is fits),
      λ places apart. omega (arith, is, fits, ap (λ (v : RecordView). v.bytes_left) last, ap (λ (v : RecordView). sum_by (λ n. length (content v.events n)) places) last, together_read areas before.events holds places apart),
    )

-- a write adds at most its bytes to an area
write_adds : (area at : ℕ) (bytes : List ℕ) (events : List Event) (b : ℕ) → length (content (Wrote area at bytes true ∷ events) b) ≤ length (content events b) + length bytes
write_adds area at bytes events b = elim (cases_eq b area) [
  | inl here ↦ omega (arith, ap length (put_hit area (written_over at bytes (content events area)) (content events) b here), ap (λ (k : ℕ). length (content events k)) here, over (leb at (length (content events area))) refl)
  | inr ne ↦ omega (arith, ap length (put_miss area (written_over at bytes (content events area)) (content events) b ne))
]
  where
    over : (t : Bool) → leb at (length (content events area)) ≡ t → length (if t then overwritten at bytes (content events area) else content events area) ≤ length (content events area) + length bytes
    over true is = let le : at ≤ length (content events area) = grind (arith, nat_tests) in omega (arith, le, (torn_whole at bytes (content events area) le).no_longer)
    over false is = omega arith

-- and only to one area
write_adds_once : (area at : ℕ) (bytes : List ℕ) (events : List Event) (places : List ℕ) → AllPairs (λ a b. a ≢ b) places
    → sum_by (λ n. length (content (Wrote area at bytes true ∷ events) n)) places ≤ length bytes + sum_by (λ n. length (content events n)) places
write_adds_once area at bytes events places apart =
    once (λ n. length (content (Wrote area at bytes true ∷ events) n)) (λ n. length (content events n)) area (length bytes) places
    (λ n ne. omega (arith, ap length (put_miss area (written_over at bytes (content events area)) (content events) n ne)))
    (omega (arith, write_adds area at bytes events area))
    apart

-- a write past the end of an area, with room made for twice its bytes
pub lengthened : (areas : List Area) (room area at : ℕ) (bytes : List ℕ) (before mid now : RecordView)
    → ((b : ℕ) → bytes_in areas b ≡ content before.events b)
    → at ≤ length (content before.events area)
    → room ≡ min (min (min (4096 + held areas) (2 ^ 64 - 1) + length bytes) (2 ^ 64 - 1) + length bytes) (2 ^ 64 - 1) → room < 2 ^ 63
    → mid ≡ record before { calls_left = 4097; bytes_left = room }
    → now ≡ record mid { events = Wrote area at bytes true ∷ mid.events; calls_left = mid.calls_left - 1; bytes_left = mid.bytes_left - length bytes }
    → (now.calls_left ≡ 4096) × ((b : ℕ) → 4096 + length (content now.events b) ≤ now.bytes_left) × IsForAreas now
lengthened areas room area at bytes before mid now holds within_it is fits made noted =
    let last : now ≡ record { events = Wrote area at bytes true ∷ before.events; calls_left = 4096; bytes_left = room - length bytes } = noted ∙ ap (λ (v : RecordView). record v { events = Wrote area at bytes true ∷ v.events; calls_left = v.calls_left - 1; bytes_left = v.bytes_left - length bytes }) made in
    let small : held areas + 4096 < 2 ^ 64 - 1 = omega arith in
    let each = λ (b : ℕ). for_each areas (4096 + held areas) b (omega arith) (omega arith) in (
      ap (λ (v : RecordView). v.calls_left) last,
      λ b. omega (arith, ap (λ (v : RecordView). v.bytes_left) last, ap (λ (v : RecordView). length (content v.events b)) last, ap length (holds b), each b, write_adds area at bytes before.events b),
      λ places apart. omega (arith, is, fits, ap (λ (v : RecordView). v.bytes_left) last, ap (λ (v : RecordView). sum_by (λ n. length (content v.events n)) places) last, together_read areas before.events holds places apart, write_adds_once area at bytes before.events places apart),
    )
