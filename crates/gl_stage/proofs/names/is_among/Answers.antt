use Rattle.std.proofs.Common.{◌≡◌, ℕ, ◌<◌, true, ◌||◌, Bool, List, [], ◌∷◌, length, get_or, Bor, refl, sym, ap, ◌∙◌}
use Rattle.std.specs.List.{list_any}
use Rattle.std.specs.Str.{bytes_eq}
use Rattle.std.proofs.lemmas.List.Folds.{list_any_at}
use Rattle.gl_stage.specs.Stages.{is_among}
use Rattle.gl_stage.specs.Lent.{names_now}
use Rattle.gl_stage.proofs.names.is_among.Goals as goal

any_now : (p : List ℕ → Bool) (names : List (Bor (List ℕ))) → list_any p (names_now names) ≡ list_any (λ n. p n.now) names
any_now p [] = refl
any_now p (n ∷ names) = ap (λ b. p n.now || b) (any_now p names)

among_at : (names : List (Bor (List ℕ))) (name : List ℕ) (i : ℕ) (item : Bor (List ℕ)) → i < length names → item ≡ get_or names i item → true ≡ bytes_eq name item.now
    → true ≡ is_among (names_now names) name
among_at names name i item within at e =
    sym (any_now (bytes_eq name) names ∙ list_any_at (λ (n : Bor (List ℕ)). bytes_eq name n.now) names i item within (ap (λ (n : Bor (List ℕ)). bytes_eq name n.now) (sym at) ∙ sym e))

pub returns-then-is_same : goal.returns-then-is_same
returns-then-is_same c =
    among_at c.args.names.now c.args.name.now c.loop-other.other-index c.other-item.result c.loop-other-test.true c.other-item.is c.if-is_same.ensures
