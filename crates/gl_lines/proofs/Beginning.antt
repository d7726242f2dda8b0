-- More bytes give further frames.
use Rattle.std.proofs.Common.{◌≡◌, ℕ, zero, suc, ◌==◌, Bool, true, false, not, List, [], ◌∷◌, ◌++◌, refl, sym, ap, ◌∙◌, arith, append_assoc}
use Rattle.std.proofs.lemmas.List.{append-nil}
use Rattle.std.proofs.lemmas.Bool.{and_from}
use Rattle.gl_lines.specs.ZeroFraming.{with_part, frames_of, is_too_long, open_of}
use Rattle.gl_lines.proofs.Parts.{frames_join, frames_end}
use Rattle.gl_lines.proofs.Feeding.{closes_more}

abbrev Begins : List ℕ → List ℕ → Type 0
Begins bytes all = (later : List (List ℕ)) × (frames_of all ≡ frames_of bytes ++ later)

zero_begins : (bytes : List ℕ) (long : Bool) → is_too_long bytes ≡ long → Begins bytes (bytes ++ 0 ∷ [])
zero_begins bytes true long =
    ([], (closes_more (0 ∷ []) bytes bytes (record { long = long; same = refl })).same ∙ sym (append-nil (frames_of bytes)))
zero_begins bytes false short = (with_part (open_of bytes) [], frames_end bytes short)

byte_begins : (bytes : List ℕ) (b : ℕ) → Begins bytes (bytes ++ b ∷ [])
byte_begins bytes zero = zero_begins bytes (is_too_long bytes) refl
byte_begins bytes (suc b) =
    let no : not (suc b == 0) ≡ true = grind arith in
    ([], frames_join bytes (suc b ∷ []) (and_from (not (suc b == 0)) true no refl) ∙ sym (append-nil (frames_of bytes)))

pub frames_begin : (bytes more : List ℕ) → (later : List (List ℕ)) × (frames_of (bytes ++ more) ≡ frames_of bytes ++ later)
frames_begin bytes [] = ([], ap frames_of (append-nil bytes) ∙ sym (append-nil (frames_of bytes)))
frames_begin bytes (b ∷ more) =
    let first = byte_begins bytes b in
    let rest = frames_begin (bytes ++ b ∷ []) more in (
      first.0 ++ rest.0,
      ap frames_of (sym (append_assoc bytes (b ∷ []) more)) ∙ rest.1 ∙ ap (λ (fs : List (List ℕ)). fs ++ rest.0) first.1 ∙ append_assoc (frames_of bytes) first.0 rest.0,
    )
