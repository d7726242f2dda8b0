-- An item between those before it and those behind it.
use Rattle.std.proofs.Common.{◌≡◌, ℕ, List, [], ◌∷◌, ◌++◌, refl, sym, ap, ◌∙◌, append_assoc}
use Rattle.std.specs.List.{filter}
use Rattle.gl_fields.specs.Fields.{comes_before}
use Rattle.gl_settings.specs.Settings.{placed}

pub placed_by : {A : Type 0} (name_of : A → List ℕ) (item : A) (xs : List A) (before behind : List ℕ) (one two all : List A)
    → before ≡ name_of item → behind ≡ name_of item
    → one ≡ filter (λ y. comes_before (name_of y) before) xs
    → two ≡ one ++ item ∷ []
    → all ≡ two ++ filter (λ y. comes_before behind (name_of y)) xs
    → all ≡ placed name_of item xs
placed_by name_of item xs before behind one two all is same first second third =
    third ∙ (λ i. second i ++ filter (λ y. comes_before (same i) (name_of y)) xs)
    ∙ append_assoc one (item ∷ []) (filter (λ y. comes_before (name_of item) (name_of y)) xs)
    ∙ (λ i. (first ∙ ap (λ n. filter (λ y. comes_before (name_of y) n) xs) is) i ++ item ∷ filter (λ y. comes_before (name_of item) (name_of y)) xs)
