-- A string without escapes says what is written.
use Rattle.std.proofs.Common.{◌≡◌, ℕ, ◌==◌, ◌||◌, Bool, true, false, List, [], ◌∷◌, None, Ok, refl, sym, ap, ◌∙◌}
use Rattle.std.specs.List.{list_any}
use Rattle.gl_json.specs.declared.chars.Char.{Char}
use Rattle.gl_json.specs.declared.chars.Char.TheVariants.{One, Two, Three, Four, Escape, Unicode}
use Rattle.gl_json.specs.Chars.{inside}
use Rattle.gl_json.specs.Escapes.{char_text, waits, decoded_behind, text_of}
use Rattle.gl_json.specs.Flattening.{IsInside}
use Rattle.gl_json.proofs.SaidRead.{text_only}

abbrev is_backslash : ℕ → Bool
is_backslash b = b == 92

none_behind : (a b : Bool) → a || b ≡ false → b ≡ false
none_behind false b h = h
none_behind true b h = absurd cc

written : (cs : List Char) → list_any is_backslash (inside cs) ≡ false → decoded_behind None cs ≡ inside cs
unfolding decoded_behind char_text waits
written [] none = refl
written (One a ∷ cs) none = ap (λ (l : List ℕ). a ∷ l) (written cs (none_behind (is_backslash a) _ none))
written (Two a b ∷ cs) none = ap (λ (l : List ℕ). a ∷ b ∷ l) (written cs (none_behind (is_backslash b) _ (none_behind (is_backslash a) _ none)))
written (Three a b c ∷ cs) none =
    ap (λ (l : List ℕ). a ∷ b ∷ c ∷ l) (written cs (none_behind (is_backslash c) _ (none_behind (is_backslash b) _ (none_behind (is_backslash a) _ none))))
written (Four a b c d ∷ cs) none =
    ap (λ (l : List ℕ). a ∷ b ∷ c ∷ d ∷ l)
    (written cs (none_behind (is_backslash d) _ (none_behind (is_backslash c) _ (none_behind (is_backslash b) _ (none_behind (is_backslash a) _ none)))))
written (Escape b ∷ cs) none = absurd cc
written (Unicode a b c d ∷ cs) none = absurd cc

pub read_as_written : (raw : List ℕ) → IsInside raw → list_any is_backslash raw ≡ false → text_of raw ≡ Ok raw
read_as_written raw h none =
    text_only raw h.0 h.1 h.2 ∙ ap (λ (t : List ℕ). Ok t) (written h.0 (ap (list_any is_backslash) (sym h.2) ∙ none) ∙ sym h.2)
