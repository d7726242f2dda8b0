-- What `strip_prefix` leaves is what follows the text.
use Rattle.std.proofs.Common.{◌≡◌, ◌≢◌, ℕ, inl, inr, List, [], ◌∷◌, ◌++◌, drop, Option, Some, None, refl, sym, ap, ◌∙◌}
use Rattle.std.specs.Prelude.{MatchOption, option_map}
use Rattle.std.specs.Str.Pattern.{FindsTextPrefix, StripsPrefix}
use Rattle.std.proofs.lemmas.Bool.{eq-eqb, ne_eqb, cases_eq}
use Rattle.gl_http.specs.Routes.{after_text}

after_itself : (front rest : List ℕ) → after_text front (front ++ rest) ≡ Some rest
after_itself [] rest = refl
after_itself (x ∷ front) rest = rw (eq-eqb x x refl) (after_itself front rest)

not_after : (front path : List ℕ) → ((rest : List ℕ) → path ≢ front ++ rest) → after_text front path ≡ None
not_after [] path h = absurd (h path refl)
not_after (x ∷ front) [] h = refl
not_after (x ∷ front) (b ∷ path) h = elim (cases_eq x b) [
  | inl same ↦
      let e = not_after front path (λ rest f. h rest (ap (λ y. y ∷ path) (sym same) ∙ ap (λ u. x ∷ u) f)) in
      rw (eq-eqb x b same) e
  | inr other ↦ rw (ne_eqb x b other) refl
]

pub stripped : {T : Type 0} (view : T → List ℕ) (o : Option T) (front path : List ℕ)
    → MatchOption o (FindsTextPrefix front path None) (λ x. StripsPrefix (FindsTextPrefix front) path (view x))
    → option_map view o ≡ after_text front path
stripped view None front path h = sym (not_after front path h)
stripped view (Some x) front path h =
    let (n, found, same, len) = h in
    ap Some same ∙ sym (ap (after_text front) found.1 ∙ after_itself front (drop n path))
