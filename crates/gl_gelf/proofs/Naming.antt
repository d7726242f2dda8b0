-- Members of equal names.
use Rattle.std.proofs.Common.{◌≡◌, ℕ, ◌-◌, ◌<◌, ◌||◌, ◌++◌, Bool, not, List, [], ◌∷◌, map, get_or, length, take, drop, refl, sym, ap, subst, ◌∙◌, arith, append_assoc, append-nil}
use Rattle.std.proofs.lemmas.List.{take_all}
use Rattle.std.specs.List.{list_any}
use Rattle.std.specs.Cow.{cow_str_bytes}
use Rattle.std.specs.Str.{bytes_eq}
use Rattle.gl_gelf.specs.declared.members.Named.{Named}
use Rattle.gl_gelf.specs.Members.{has_name, are_last}
use Rattle.gl_gelf.specs.Parts.{named_view}

pub any_map : (name : List ℕ) (ms : List Named) → list_any (has_name name) (map named_view ms) ≡ list_any (λ n. bytes_eq (cow_str_bytes n.name) name) ms
any_map name [] = refl
any_map name (m ∷ ms) = ap (λ (b : Bool). bytes_eq (cow_str_bytes m.name) name || b) (any_map name ms)

-- one member more is told whether a later one has its name
last_first : (m : Named) (ms : List Named) (old new all : List Bool) (again : Bool) → old ++ are_last (map named_view (m ∷ ms)) ≡ all
    → again ≡ list_any (λ n. bytes_eq (cow_str_bytes n.name) (cow_str_bytes m.name)) ms → new ≡ old ++ not again ∷ [] → new ++ are_last (map named_view ms) ≡ all
unfolding are_last
last_first m ms old new all again before again_is new_is =
    ap (λ (l : List Bool). l ++ are_last (map named_view ms)) new_is ∙ append_assoc old (not again ∷ []) (are_last (map named_view ms))
    ∙ ap (λ (b : Bool). old ++ not b ∷ are_last (map named_view ms)) (again_is ∙ sym (any_map (cow_str_bytes m.name) ms)) ∙ before

pub last_also : (rest : List Named) (m : Named) (old new all : List Bool) (again : Bool) → 0 < length rest → m ≡ get_or rest 0 m → old ++ are_last (map named_view rest) ≡ all
    → again ≡ list_any (λ n. bytes_eq (cow_str_bytes n.name) (cow_str_bytes m.name)) (take (length rest - 1) (drop 1 rest)) → new ≡ old ++ not again ∷ []
    → new ++ are_last (map named_view (take (length rest - 1) (drop 1 rest))) ≡ all
last_also [] m old new all again some m_is before again_is new_is = absurd (omega arith)
last_also (x ∷ ms) m old new all again some m_is before again_is new_is =
    let whole : take (length (x ∷ ms) - 1) ms ≡ ms = take_all (length (x ∷ ms) - 1) ms (omega arith) in
    subst (λ (l : List Named). new ++ are_last (map named_view l) ≡ all) (sym whole)
    (last_first m ms old new all again (subst (λ (y : Named). old ++ are_last (map named_view (y ∷ ms)) ≡ all) (sym m_is) before)
    (again_is ∙ ap (list_any (λ n. bytes_eq (cow_str_bytes n.name) (cow_str_bytes m.name))) whole) new_is)

pub last_ends : (rest : List Named) (old all : List Bool) → length rest < 1 → old ++ are_last (map named_view rest) ≡ all → old ≡ all
unfolding are_last
last_ends [] old all none before = sym (append-nil old) ∙ before
last_ends (m ∷ ms) old all none before = absurd (omega arith)
