-- One area of an image before a write or a cut that made it what it is.
use Rattle.std.proofs.Common.{◌≡◌, inl, inr, ◌⊎◌, ℕ, ◌+◌, ◌≤◌, ◌<◌, Bool, true, false, ◌&&◌, not, nat_lt, List, map, min, max, length, take, drop, get_or, if◌then◌else◌, refl, sym, ◌∙◌, arith, length-drop}
use Rattle.std.specs.List.{range_with_len}
use Rattle.std.proofs.lemmas.Bool.Decides.{nat_tests}
use Rattle.std.proofs.lemmas.List.{length-take, get_or-take, get_or-drop, ext_get_or}
use Rattle.std.proofs.lemmas.List.FromFn.{length-map-range_with_len, get_or-map-range_with_len}
use Rattle.gl_outside.specs.Disk.{Torn, CutTo}

-- a list between two lengths that has the bytes of s where t doesn't say that they may differ
pub record Fits (lo hi : ℕ) (s : List ℕ) (t : ℕ → Bool) (l : List ℕ) : Type 0 where
  pub least : lo ≤ length l
  pub most : length l ≤ hi
  pub kept : (k : ℕ) → k < length s → t k ≡ false → get_or l k 0 ≡ get_or s k 0

-- the byte of s where it is to be kept, and the byte of l elsewhere
abbrev byte : List ℕ → (ℕ → Bool) → List ℕ → ℕ → ℕ
byte s t l k = if not (t k) && nat_lt k (length s) then get_or s k 0 else get_or l k 0

byte_kept : (s : List ℕ) (t : ℕ → Bool) (l : List ℕ) (k : ℕ) → k < length s → t k ≡ false → byte s t l k ≡ get_or s k 0
byte_kept s t l k lt is = grind (arith, nat_tests)

-- where the bytes to be kept are in l, it is l's
byte_same : (s : List ℕ) (t : ℕ → Bool) (l : List ℕ) (k : ℕ) → (k < length s → t k ≡ false → get_or l k 0 ≡ get_or s k 0) → byte s t l k ≡ get_or l k 0
byte_same s t l k same = of (t k) refl (nat_lt k (length s)) refl
  where
    of : (x : Bool) → t k ≡ x → (y : Bool) → nat_lt k (length s) ≡ y → (if not x && y then get_or s k 0 else get_or l k 0) ≡ get_or l k 0
    of true e y f = refl
    of false e false f = refl
    of false e true f = sym (same (grind (arith, nat_tests)) e)

-- so many of these bytes
abbrev mended : List ℕ → (ℕ → Bool) → List ℕ → ℕ → List ℕ
mended s t l n = map (byte s t l) (range_with_len 0 n)

mended_long : (s : List ℕ) (t : ℕ → Bool) (l : List ℕ) (n : ℕ) → length (mended s t l n) ≡ n
mended_long s t l n = length-map-range_with_len (byte s t l) 0 n

mended_at : (s : List ℕ) (t : ℕ → Bool) (l : List ℕ) (n k : ℕ) → k < n → get_or (mended s t l n) k 0 ≡ byte s t l k
mended_at s t l n k lt = get_or-map-range_with_len (byte s t l) 0 n k k 0 lt (omega arith)

mended_fits : (lo hi : ℕ) (s : List ℕ) (t : ℕ → Bool) (l : List ℕ) (n : ℕ) → lo ≤ n → n ≤ hi → ((k : ℕ) → k < length s → t k ≡ false → k < lo) → Fits lo hi s t (mended s t l n)
mended_fits lo hi s t l n least most within = record {
  least = omega (arith, mended_long s t l n);
  most = omega (arith, mended_long s t l n);
  kept = λ k lt is. let here : k < lo = within k lt is in mended_at s t l n k (omega arith) ∙ byte_kept s t l k lt is;
}

-- what l may have been before n bytes were written at a place
pub before_write : (lo hi at n : ℕ) (s : List ℕ) (t : ℕ → Bool) (l : List ℕ)
    → lo ≤ length l → length l ≤ max (at + n) hi → ((k : ℕ) → k < length s → t k ≡ false → (k < at) ⊎ (at + n ≤ k) → get_or l k 0 ≡ get_or s k 0)
    → lo ≤ hi → at ≤ hi → ((k : ℕ) → k < length s → t k ≡ false → k < lo)
    → (d : List ℕ) × Fits lo hi s t d × Torn at n d l
before_write lo hi at n s t l least most kept order begins within =
    let size : ℕ = min (length l) hi in
    let d : List ℕ = mended s t l size in
    let long : length d ≡ size = mended_long s t l size in
    let same = λ (k : ℕ) (lt : k < size) (out : (k < at) ⊎ (at + n ≤ k)). mended_at s t l size k lt ∙ byte_same s t l k (λ in_s is. kept k in_s is out) in (
      d,
      mended_fits lo hi s t l size (omega arith) (omega arith) within,
      record {
        before = ext_get_or 0 (take at l) (take at d) (omega (arith, long, length-take at l, length-take at d)) (λ i lt. front d size long same i (omega (arith, length-take at l)) (omega (arith, length-take at l)));
        after = ext_get_or 0 (drop (at + n) l) (drop (at + n) d) (omega (arith, long, length-drop (at + n) l, length-drop (at + n) d)) (λ i lt. back d size same i (omega (arith, length-drop (at + n) l)));
        no_shorter = omega (arith, long);
        no_longer = omega (arith, long);
      },
    )
  where
    front : (d : List ℕ) (size : ℕ) → length d ≡ size → ((k : ℕ) → k < size → (k < at) ⊎ (at + n ≤ k) → get_or d k 0 ≡ get_or l k 0) → (i : ℕ) → i < at → i < size → get_or (take at l) i 0 ≡ get_or (take at d) i 0
    front d size long same i lt in_d = get_or-take at l i 0 lt ∙ sym (same i in_d (inl lt)) ∙ sym (get_or-take at d i 0 lt)

    back : (d : List ℕ) (size : ℕ) → ((k : ℕ) → k < size → (k < at) ⊎ (at + n ≤ k) → get_or d k 0 ≡ get_or l k 0) → (i : ℕ) → at + n + i < size → get_or (drop (at + n) l) i 0 ≡ get_or (drop (at + n) d) i 0
    back d size same i in_d = get_or-drop (at + n) l i 0 ∙ sym (same (at + n + i) in_d (inr (omega arith))) ∙ sym (get_or-drop (at + n) d i 0)

-- what l may have been before it was cut to n bytes
pub before_cut : (lo hi n : ℕ) (s : List ℕ) (t : ℕ → Bool) (l : List ℕ)
    → min n lo ≤ length l → length l ≤ hi → ((k : ℕ) → k < length s → t k ≡ false → k < n → get_or l k 0 ≡ get_or s k 0)
    → lo ≤ hi → ((k : ℕ) → k < length s → t k ≡ false → k < lo)
    → (d : List ℕ) × Fits lo hi s t d × CutTo n d l
before_cut lo hi n s t l least most kept order within =
    let size : ℕ = max (length l) lo in
    let d : List ℕ = mended s t l size in
    let long : length d ≡ size = mended_long s t l size in
    let same = λ (k : ℕ) (lt : k < size) (front : k < n). mended_at s t l size k lt ∙ byte_same s t l k (λ in_s is. kept k in_s is front) in (
      d,
      mended_fits lo hi s t l size (omega arith) (omega arith) within,
      record {
        before = ext_get_or 0 (take n l) (take n d) (omega (arith, long, length-take n l, length-take n d)) (λ i lt. let front : i < n = omega (arith, length-take n l) in get_or-take n l i 0 front ∙ sym (same i (omega (arith, length-take n l)) front) ∙ sym (get_or-take n d i 0 front));
        no_longer = omega (arith, long);
      },
    )
