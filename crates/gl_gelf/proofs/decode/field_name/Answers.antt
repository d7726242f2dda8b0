use Rattle.std.proofs.Common.{None, eqb, ◌≢◌, ◌≡◌, ℕ, false, List, [], ◌∷◌, refl, ap, arith}
use Rattle.gl_gelf.specs.Decoding.{field_name}
use Rattle.gl_gelf.proofs.decode.field_name.Goals as goal
use Rattle.std.proofs.lemmas.Bool.{ne_eqb}
use Rattle.std.proofs.lemmas.Str.Pattern.{strip_prefix_char}

pub returns-in-None : goal.returns-in-None
returns-in-None c = no_sign c.args.name.now (strip_prefix_char 95 c.args.name.now None c.in-None.ensures.cases (omega arith))
  where
    no_sign : (name : List ℕ) → ((rest : List ℕ) → name ≢ 95 ∷ rest) → name ≡ field_name name
    no_sign [] h = refl
    no_sign (b ∷ bs) h = let e : eqb b 95 ≡ false = ne_eqb b 95 (λ is. h bs (ap (λ (x : ℕ). x ∷ bs) is)) in rw e refl
