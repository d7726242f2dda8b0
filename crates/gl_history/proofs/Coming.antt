-- Two lists, of which each next item is compared.
use Rattle.std.proofs.Common.{◌≡◌, ◌≢◌, ◌↔◌, Bool, true, false, List, [], ◌∷◌, ◌++◌, Option, Some, None, String, Global, MatchBool, refl, sym, ap, ◌∙◌, append_assoc}
use Rattle.std.specs.Prelude.{is_none}
use Rattle.std.specs.Map.Iter.{TakesFirst}
use Rattle.std.proofs.lemmas.Map.Iter.{rest_more, rest_all}
use Rattle.std.proofs.lemmas.List.{append-nil, append_cancel_left}
use Rattle.gl_history.specs.Entries.{entries_of}

pub goes_on : {X : Type 0} (all done rest behind : List X) (x : X) → all ≡ done ++ rest → rest ≡ x ∷ behind → all ≡ (done ++ x ∷ []) ++ behind
goes_on all done rest behind x is next = is ∙ ap (λ l. done ++ l) next ∙ sym (append_assoc done (x ∷ []) behind)

pub differs : {X : Type 0} (all others done more rest : List X) (x : X) → all ≡ done ++ x ∷ more → others ≡ done ++ rest → ((l : List X) → rest ≢ x ∷ l) → all ≢ others
differs all others done more rest x is that apart same = apart more (sym (append_cancel_left done (x ∷ more) rest (sym is ∙ same ∙ that)))

pub none_left : {X : Type 0} (all others done rest : List X) → all ≡ done → others ≡ done ++ rest → (rest ≡ []) ↔ (all ≡ others)
none_left all others done rest is that = (
  (λ none. is ∙ sym (append-nil done) ∙ ap (λ l. done ++ l) (sym none) ∙ sym that),
  (λ same. append_cancel_left done rest [] (sym that ∙ sym same ∙ is ∙ sym (append-nil done))),
)

-- what is left of a map's entries is nothing where no next one comes

pub ended : {A X : Type 0} (shows : A → String Global × X) (s t : List (String Global × X)) (r : Option A) → TakesFirst shows s r t
    → (is_none r ≡ true) ↔ (entries_of s ≡ [])
ended shows s t None h =
    let none : s ≡ [] = rest_all shows s t None refl h in
    (λ _. ap entries_of none, λ _. refl)
ended shows s t (Some x) h =
    let is : s ≡ shows x ∷ t = rest_more shows s t (Some x) x refl h in
    (λ k. cc k, λ e. cc (sym (ap entries_of is) ∙ e))

pub not_so : (r : Bool) (Yes No : Type 0) → MatchBool r Yes No → r ≡ false → No
not_so true Yes No m h = cc h
not_so false Yes No m h = m
