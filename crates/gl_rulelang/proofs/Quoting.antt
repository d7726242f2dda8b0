-- How a string is spelled, piece by piece.
use Rattle.std.proofs.Common.{◌≡◌, ℕ, suc, ◌<◌, Bool, true, false, List, [], ◌∷◌, ◌++◌, get_or, take, drop, refl, sym, ap, ◌∙◌, add-zero, arith}
use Rattle.std.specs.List.{prefix_len, flat_map}
use Rattle.std.specs.Str.{IsCharBoundary}
use Rattle.std.proofs.lemmas.List.{get_or-drop, get_or_default}
use Rattle.std.proofs.lemmas.List.Sums.{prefix_len-le-length}
use Rattle.gl_rulelang.specs.declared.text.Class.TheVariants.{Bare}
use Rattle.gl_rulelang.specs.Bytes.{in_class}
use Rattle.gl_rulelang.specs.Printing.{spelled_byte}

bare_byte : (b : ℕ) → in_class Bare b ≡ true → spelled_byte b ≡ b ∷ []
bare_byte b h = grind arith

special_is_ascii : (b : ℕ) → in_class Bare b ≡ false → b < 128
special_is_ascii b h = grind arith

run_step : (t : Bool) (b : ℕ) (bs : List ℕ) → in_class Bare b ≡ t → flat_map spelled_byte bs ≡ take (prefix_len (in_class Bare) bs) bs ++ flat_map spelled_byte (drop (prefix_len (in_class Bare) bs) bs)
    → flat_map spelled_byte (b ∷ bs) ≡ take (prefix_len (in_class Bare) (b ∷ bs)) (b ∷ bs) ++ flat_map spelled_byte (drop (prefix_len (in_class Bare) (b ∷ bs)) (b ∷ bs))
run_step true b bs e h =
    let more : prefix_len (in_class Bare) (b ∷ bs) ≡ suc (prefix_len (in_class Bare) bs) = rw e (omega arith) in
    rw more (ap (λ (x : List ℕ). x ++ flat_map spelled_byte bs) (bare_byte b e) ∙ ap (λ (x : List ℕ). b ∷ x) h)
run_step false b bs e h =
    let none : prefix_len (in_class Bare) (b ∷ bs) ≡ 0 = rw e refl in
    rw none refl

pub bare_run : (bs : List ℕ) → flat_map spelled_byte bs ≡ take (prefix_len (in_class Bare) bs) bs ++ flat_map spelled_byte (drop (prefix_len (in_class Bare) bs) bs)
bare_run [] = refl
bare_run (b ∷ bs) = run_step (in_class Bare b) b bs refl (bare_run bs)

ends_step : (t : Bool) (b : ℕ) (bs : List ℕ) → in_class Bare b ≡ t → in_class Bare (get_or (drop (prefix_len (in_class Bare) bs) bs) 0 34) ≡ false
    → in_class Bare (get_or (drop (prefix_len (in_class Bare) (b ∷ bs)) (b ∷ bs)) 0 34) ≡ false
ends_step true b bs e h =
    let more : prefix_len (in_class Bare) (b ∷ bs) ≡ suc (prefix_len (in_class Bare) bs) = rw e (omega arith) in
    rw more h
ends_step false b bs e h =
    let none : prefix_len (in_class Bare) (b ∷ bs) ≡ 0 = rw e refl in
    rw none e

pub bare_ends : (bs : List ℕ) → in_class Bare (get_or (drop (prefix_len (in_class Bare) bs) bs) 0 34) ≡ false
bare_ends [] = refl
bare_ends (b ∷ bs) = ends_step (in_class Bare b) b bs refl (bare_ends bs)

pub special_ascii : (b : ℕ) → in_class Bare b ≡ false → b < 128
special_ascii = special_is_ascii

pub bare_boundary : (bs : List ℕ) → IsCharBoundary bs (prefix_len (in_class Bare) bs)
bare_boundary bs =
    let n = prefix_len (in_class Bare) bs in (
      prefix_len-le-length (in_class Bare) bs,
      λ lt.
          let e : get_or bs n 34 ≡ get_or (drop n bs) 0 34 = ap (λ (i : ℕ). get_or bs i 34) (sym (add-zero n)) ∙ sym (get_or-drop n bs 0 34) in
          let low : get_or bs n 34 < 128 = special_is_ascii (get_or bs n 34) (ap (in_class Bare) e ∙ bare_ends bs) in
          let f : get_or bs n 0 ≡ get_or bs n 34 = get_or_default bs n 0 34 lt in λ h. absurd (omega (arith, low, f)),
    )
