use Rattle.std.proofs.Common.{◌≡◌, List, ℕ, Bool, true, false, refl}
use Rattle.std.specs.Prelude.{IsTrue, bytes_eq, ◌↔◌}
use Rattle.std.proofs.lemmas.Slice.Eq.{bytes_eq-Decides}
use Rattle.gl_http.proofs.fields.is_named.Goals as goal

same : (r b : Bool) (xs ys : List ℕ) → (IsTrue r ↔ (xs ≡ ys)) → bytes_eq xs ys ≡ b → r ≡ b
same true true xs ys h e = refl
same true false xs ys h e = let p = (bytes_eq-Decides xs ys).1 (h.0 refl) in cc
same false true xs ys h e = h.1 ((bytes_eq-Decides xs ys).0 e)
same false false xs ys h e = refl

pub returns : goal.returns
returns c = same c.eq_ignore_ascii_case.result _ _ _ c.eq_ignore_ascii_case.ensures.test refl
