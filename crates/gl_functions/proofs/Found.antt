-- Where a search of bytes finds a part, the part stands in the text.
use Rattle.std.proofs.Common.{◌≡◌, ℕ, zero, suc, ◌+◌, ◌-◌, ◌<◌, ◌≤◌, Bool, true, false, List, [], ◌∷◌, ◌++◌, length, take, drop, Option, Some, None, option_map, refl, sym, ap, ◌∙◌, arith}
use Rattle.std.specs.Prelude.{is_some, if◌then◌else◌}
use Rattle.std.proofs.lemmas.List.{length-append, length-drop, take_at}
use Rattle.memchr.specs.Find.{FindsNeedle, OccursAt}
use Rattle.memchr.proofs.lemmas.MatchLemmas.{OccursAt-split, OccursAt-from_part}
use Rattle.gl_text.specs.Texts.{begins_with, first_at, contains}
use Rattle.gl_text.proofs.Finding.{begins_at, lacks_front}

some_here : (b : Bool) (o : Option ℕ) → b ≡ true → is_some (if b then Some 0 else o) ≡ true
some_here true o e = refl
some_here false o e = absurd (cc)

some_later : (b : Bool) (o : Option ℕ) → is_some o ≡ true → is_some (if b then Some 0 else option_map suc o) ≡ true
some_later true o e = refl
some_later false None e = absurd (cc)
some_later false (Some n) e = refl

none_here : (b : Bool) (o : Option ℕ) → b ≡ false → is_some o ≡ false → is_some (if b then Some 0 else o) ≡ false
none_here true o e none = absurd (cc)
none_here false o e none = none

none_later : (o : Option ℕ) → is_some o ≡ false → is_some (option_map suc o) ≡ false
none_later None e = refl
none_later (Some n) e = absurd (cc)

stands : (part text : List ℕ) (k : ℕ) (rest : List ℕ) → drop k text ≡ part ++ rest → contains part text ≡ true
unfolding first_at
stands part [] zero rest e = some_here (begins_with part []) None (begins_at part [] rest e)
stands part [] (suc k) rest e = some_here (begins_with part []) None (begins_at part [] rest e)
stands part (b ∷ text) zero rest e = some_here (begins_with part (b ∷ text)) (option_map suc (first_at part text)) (begins_at part (b ∷ text) rest e)
stands part (b ∷ text) (suc k) rest e = some_later (begins_with part (b ∷ text)) (first_at part text) (stands part text k rest e)

stands_nowhere : (part text : List ℕ) → ((k : ℕ) (rest : List ℕ) → k ≤ length text → drop k text ≡ part ++ rest → ⊥) → contains part text ≡ false
unfolding first_at
stands_nowhere part [] lacks = none_here (begins_with part []) None (lacks_front part [] (λ rest. lacks 0 rest (omega arith))) refl
stands_nowhere part (b ∷ text) lacks =
    none_here (begins_with part (b ∷ text)) (option_map suc (first_at part text)) (lacks_front part (b ∷ text) (λ rest. lacks 0 rest (omega arith)))
    (none_later (first_at part text) (stands_nowhere part text (λ k rest le e. lacks (suc k) rest (omega arith) e)))

occurs : (part text : List ℕ) (k : ℕ) (rest : List ℕ) → k ≤ length text → drop k text ≡ part ++ rest → OccursAt text part k
occurs part text k rest le e =
    let count : length text - k ≡ length part + length rest = sym (length-drop k text) ∙ ap length e ∙ length-append part rest in
    OccursAt-from_part text part k (omega (arith, count, le)) (ap (take (length part)) e ∙ take_at part rest (length part) refl)

pub found : (part text : List ℕ) (r : Option ℕ) → FindsNeedle text part 0 r → is_some r ≡ contains part text
found part text None h = sym (stands_nowhere part text (λ k rest le e. h k (omega arith) (omega (arith, le)) (occurs part text k rest le e)))
found part text (Some k) h = sym (stands part text k (drop (k + length part) text) (OccursAt-split text part k h.1))
