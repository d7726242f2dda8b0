-- Whether a text begins or ends with a part, by a comparison of as many bytes.
use Rattle.std.proofs.Common.{◌≡◌, ◌↔◌, ℕ, ◌-◌, ◌<◌, ◌≤◌, Bool, true, false, List, ◌++◌, length, take, drop, MatchBool, None, refl, sym, ap, ◌∙◌, subst, arith, length-append, take-append-drop}
use Rattle.std.specs.Bool.{Decides}
use Rattle.std.specs.Str.Pattern.{FindsTextPrefix, FindsTextSuffix, HasPrefixMatch, HasSuffixMatch}
use Rattle.std.specs.Char.{to_ascii_lowercase}
use Rattle.std.proofs.lemmas.List.{length-map, take-map, drop-map, length-drop}
use Rattle.std.proofs.Math.Seq.{take-append_seam, take-length}
use Rattle.std.proofs.lemmas.Str.Pattern.{ends_text}
use Rattle.std.proofs.lemmas.Slice.Eq.{bytes_eq-Decides}
use Rattle.gl_text.specs.Texts.{begins_with, ends_with}
use Rattle.gl_text.specs.Changing.{lowercase}
use Rattle.gl_text.proofs.Finding.{begins_at, lacks_front, begins_split}

pub starts : (r : Bool) (part text : List ℕ) → MatchBool r (HasPrefixMatch (FindsTextPrefix part) text) (FindsTextPrefix part text None) → r ≡ begins_with part text
starts true part text h = sym (begins_at part text _ h.1.1)
starts false part text h = sym (lacks_front part text h)

begins_take : (part text : List ℕ) → begins_with part text ≡ true → take (length part) text ≡ part
begins_take part text h =
    let split = begins_split part text h in
    ap (take (length part)) split.1 ∙ take-append_seam part split.0

take_begins : (part text : List ℕ) → take (length part) text ≡ part → begins_with part text ≡ true
take_begins part text h = begins_at part text (drop (length part) text) (sym (take-append-drop (length part) text) ∙ ap (λ t. t ++ drop (length part) text) h)

begins_len : (part text : List ℕ) → begins_with part text ≡ true → length part ≤ length text
begins_len part text h =
    let split = begins_split part text h in
    omega (arith, ap length split.1, length-append part split.0)

same_test : (r s : Bool) → (r ≡ true → s ≡ true) → (s ≡ true → r ≡ true) → r ≡ s
same_test true s to from = sym (to refl)
same_test false true to from = from refl
same_test false false to from = refl

pub starts_folded : (r : Bool) (part text : List ℕ) → ((r ≡ true) ↔ (lowercase (take (length part) text) ≡ lowercase part)) → r ≡ begins_with (lowercase part) (lowercase text)
starts_folded r part text test =
    let same : take (length (lowercase part)) (lowercase text) ≡ lowercase (take (length part) text)
    = ap (λ n. take n (lowercase text)) (length-map part to_ascii_lowercase) ∙ take-map to_ascii_lowercase (length part) text in
    same_test r (begins_with (lowercase part) (lowercase text))
    (λ yes_it. take_begins (lowercase part) (lowercase text) (same ∙ test.0 yes_it))
    (λ begun. test.1 (sym same ∙ begins_take (lowercase part) (lowercase text) begun))

pub starts_long : (part text : List ℕ) → length text < length part → false ≡ begins_with (lowercase part) (lowercase text)
starts_long part text long =
    same_test false (begins_with (lowercase part) (lowercase text)) (λ e. cc e)
    (λ begun. absurd (omega (arith, begins_len (lowercase part) (lowercase text) begun, length-map part to_ascii_lowercase, length-map text to_ascii_lowercase)))

behind : (part text : List ℕ) → drop (length (lowercase text) - length (lowercase part)) (lowercase text) ≡ lowercase (drop (length text - length part) text)
behind part text =
    ap (λ n. drop (n - length (lowercase part)) (lowercase text)) (length-map text to_ascii_lowercase)
    ∙ ap (λ n. drop (length text - n) (lowercase text)) (length-map part to_ascii_lowercase)
    ∙ drop-map to_ascii_lowercase (length text - length part) text

pub ends_folded : (r : Bool) (part text : List ℕ) → ((r ≡ true) ↔ (lowercase (drop (length text - length part) text) ≡ lowercase part)) → r ≡ ends_with (lowercase part) (lowercase text)
ends_folded r part text test =
    let at : Decides (ends_with (lowercase part) (lowercase text)) (lowercase part ≡ drop (length (lowercase text) - length (lowercase part)) (lowercase text)) = bytes_eq-Decides _ _ in
    same_test r (ends_with (lowercase part) (lowercase text))
    (λ yes_it. at.1 (sym (test.0 yes_it) ∙ sym (behind part text)))
    (λ ended. test.1 (sym (behind part text) ∙ sym (at.0 ended)))

pub ends_long : (part text : List ℕ) → length text < length part → false ≡ ends_with (lowercase part) (lowercase text)
ends_long part text long =
    let at : Decides (ends_with (lowercase part) (lowercase text)) (lowercase part ≡ drop (length (lowercase text) - length (lowercase part)) (lowercase text)) = bytes_eq-Decides _ _ in
    same_test false (ends_with (lowercase part) (lowercase text)) (λ e. cc e)
    (λ ended.
    let same : lowercase part ≡ lowercase (drop (length text - length part) text) = at.0 ended ∙ behind part text in
    absurd (omega (arith, ap length same, length-map part to_ascii_lowercase, length-map (drop (length text - length part) text) to_ascii_lowercase, at_most part text)))
  where
    at_most : (part text : List ℕ) → length (drop (length text - length part) text) ≤ length text
    at_most part text = simp length-drop (omega arith)

pub ends : (r : Bool) (part text : List ℕ) → MatchBool r (HasSuffixMatch (FindsTextSuffix part) text) (FindsTextSuffix part text None) → r ≡ ends_with part text
ends r part text h = ends_text r part text h

-- the same of what the code compares

all_behind : (bytes : List ℕ) (n : ℕ) → take (length bytes - n) (drop n bytes) ≡ drop n bytes
all_behind bytes n = ap (λ m. take m (drop n bytes)) (sym (length-drop n bytes)) ∙ take-length (drop n bytes)

module _ (part text bytes sought : List ℕ) (whole : bytes ≡ text) (looked : sought ≡ part) where
  pub starts_compared : (r : Bool) (front : List ℕ) → front ≡ take (length sought) bytes → ((r ≡ true) ↔ (lowercase front ≡ lowercase sought)) → r ≡ begins_with (lowercase part) (lowercase text)
  starts_compared r front at test =
      let same : front ≡ take (length part) text = at ∙ ap (λ n. take (length n) bytes) looked ∙ ap (take (length part)) whole in
      starts_folded r part text (subst (λ p. (r ≡ true) ↔ (lowercase (take (length part) text) ≡ lowercase p)) looked (subst (λ t. (r ≡ true) ↔ (lowercase t ≡ lowercase sought)) same test))

  pub ends_compared : (r : Bool) (back : List ℕ) → back ≡ take (length bytes - (length bytes - length sought)) (drop (length bytes - length sought) bytes) → ((r ≡ true) ↔ (lowercase back ≡ lowercase sought)) → r ≡ ends_with (lowercase part) (lowercase text)
  ends_compared r back at test =
      let same : back ≡ drop (length text - length part) text = at ∙ all_behind bytes (length bytes - length sought) ∙ ap (λ n. drop (length bytes - length n) bytes) looked ∙ ap (λ t. drop (length t - length part) t) whole in
      ends_folded r part text (subst (λ p. (r ≡ true) ↔ (lowercase (drop (length text - length part) text) ≡ lowercase p)) looked (subst (λ t. (r ≡ true) ↔ (lowercase t ≡ lowercase sought)) same test))

  pub shorter : length bytes < length sought → length text < length part
  shorter less = subst (λ p. length text < length p) looked (subst (λ t. length t < length sought) whole less)
