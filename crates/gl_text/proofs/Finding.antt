-- Where std finds a part, and pieces step by step.
use Rattle.std.proofs.Common.{◌≡◌, ◌≢◌, ℕ, zero, suc, ◌+◌, ◌-◌, ◌<◌, ◌≤◌, Bool, true, false, ◌||◌, ◌&&◌, cond, List, [], ◌∷◌, ◌++◌, length, drop, Option, Some, None, IfSome, MatchOption, IsCharBoundary, option_map, option_and_then, unwrap_or, refl, sym, ap, ◌∙◌, arith, eq-eqb, eqb-true, ne_eqb, ◌==◌, drop-drop}
use Rattle.std.proofs.lemmas.Bool.{and_parts}
use Rattle.std.specs.Str.Pattern.{LacksTextAt, FindsText, MatchBeginsAt}
use Rattle.gl_text.specs.Texts.{begins_with, first_at, piece_from, piece}

begins_front : (part rest : List ℕ) → begins_with part (part ++ rest) ≡ true
unfolding begins_with
begins_front [] rest = refl
begins_front (b ∷ part) rest = ap (λ t. t && begins_with part (part ++ rest)) (eq-eqb b b refl) ∙ begins_front part rest

pub begins_at : (part text rest : List ℕ) → text ≡ part ++ rest → begins_with part text ≡ true
begins_at part text rest e = ap (begins_with part) e ∙ begins_front part rest

pub begins_split : (part text : List ℕ) → begins_with part text ≡ true → (rest : List ℕ) × (text ≡ part ++ rest)
unfolding begins_with
begins_split [] text h = (text, refl)
begins_split (b ∷ part) [] h = cc h
begins_split (b ∷ part) (c ∷ text) h =
    let both : (b == c ≡ true) × (begins_with part text ≡ true) = and_parts (b == c) (begins_with part text) h in
    let tail = begins_split part text both.1 in
    let same : b ≡ c = eqb-true b c both.0 in
    (tail.0, (let e : text ≡ part ++ tail.0 = tail.1 in cc))

pub lacks_front : (part text : List ℕ) → ((rest : List ℕ) → text ≢ part ++ rest) → begins_with part text ≡ false
lacks_front part text lacks = pick (begins_with part text) refl
  where
    pick : (t : Bool) → begins_with part text ≡ t → begins_with part text ≡ false
    pick true e = absurd (lacks (begins_split part text e).0 (begins_split part text e).1)
    pick false e = e

at_front : (part text : List ℕ) → begins_with part text ≡ true → first_at part text ≡ Some 0
unfolding first_at
at_front part [] h = ap (λ t. cond t (Some 0) None) h
at_front part (b ∷ text) h = ap (λ t. cond t (Some 0) (option_map suc (first_at part text))) h

past_front : (part : List ℕ) (b : ℕ) (text : List ℕ) → begins_with part (b ∷ text) ≡ false → first_at part (b ∷ text) ≡ option_map suc (first_at part text)
unfolding first_at
past_front part b text h = ap (λ t. cond t (Some 0) (option_map suc (first_at part text))) h

at_none : (part : List ℕ) → begins_with part [] ≡ false → first_at part [] ≡ None
unfolding first_at
at_none part h = ap (λ t. cond t (Some 0) None) h

some_at : (part text : List ℕ) (k : ℕ) (rest : List ℕ) → ((i : ℕ) → i < k → LacksTextAt part text i) → drop k text ≡ part ++ rest → first_at part text ≡ Some k
some_at part text zero rest before e = at_front part text (begins_at part text rest e)
some_at part [] (suc k) rest before e = absurd (before 0 (omega arith) rest e)
some_at part (b ∷ text) (suc k) rest before e =
    past_front part b text (lacks_front part (b ∷ text) (before 0 (omega arith)))
    ∙ ap (option_map suc) (some_at part text k rest (λ i less. before (suc i) (omega arith)) e)

none_at : (part text : List ℕ) → ((i : ℕ) → i ≤ length text → LacksTextAt part text i) → first_at part text ≡ None
none_at part [] lacks = at_none part (lacks_front part [] (lacks 0 (omega arith)))
none_at part (b ∷ text) lacks =
    past_front part b text (lacks_front part (b ∷ text) (lacks 0 (omega arith)))
    ∙ ap (option_map suc) (none_at part text (λ i less. lacks (suc i) (omega arith)))

pub found_at : (part text : List ℕ) (r : Option ℕ) → MatchOption r (FindsText part text None) (MatchBeginsAt (FindsText part) text) → r ≡ first_at part text
found_at part text None h = sym (none_at part text h)
found_at part text (Some k) h = sym (some_at part text k _ h.1.0 h.1.1.split)

pub found_begins : (part text : List ℕ) (r : Option ℕ) → MatchOption r (FindsText part text None) (MatchBeginsAt (FindsText part) text) → IfSome r (λ k. IsCharBoundary text k)
found_begins part text None h = tt
found_begins part text (Some k) h = h.3

pub found_ends : (part text : List ℕ) (r : Option ℕ) → MatchOption r (FindsText part text None) (MatchBeginsAt (FindsText part) text) → IfSome r (λ k. IsCharBoundary text (k + length part))
found_ends part text None h = tt
found_ends part text (Some k) h = h.1.1.after

-- One occurrence is passed.

step : (by : List ℕ) (n at : ℕ) (text : List ℕ) (o : Option ℕ) → first_at by text ≡ o → piece_from by (suc n) at text ≡ option_and_then (λ k. piece_from by n (at + (k + length by)) (drop (k + length by) text)) o
unfolding piece_from
step by n at text o e = ap (option_and_then (λ k. piece_from by n (at + (k + length by)) (drop (k + length by) text))) e

turns : (by text : List ℕ) (n m at : ℕ) → n ≡ suc m → piece_from by n at text ≡ piece_from by (suc m) at text
turns by text n m at e = ap (λ i. piece_from by i at text) e

pub passed : (by text : List ℕ) (index done at k : ℕ) (whole : Option (ℕ × ℕ)) → done < index → first_at by (drop at text) ≡ Some k → piece_from by (index - done) at (drop at text) ≡ whole → piece_from by (index - (done + 1)) (at + (k + length by)) (drop (at + (k + length by)) text) ≡ whole
passed by text index done at k whole more here e =
    let less : index - done ≡ suc (index - (done + 1)) = omega arith in
    ap (piece_from by (index - (done + 1)) (at + (k + length by))) (sym (drop-drop (k + length by) at text))
    ∙ sym (step by (index - (done + 1)) at (drop at text) (Some k) here)
    ∙ sym (turns by (drop at text) (index - done) (index - (done + 1)) at less)
    ∙ e

pub fewer : (by text : List ℕ) (index done at : ℕ) (whole : Option (ℕ × ℕ)) → done < index → first_at by (drop at text) ≡ None → piece_from by (index - done) at (drop at text) ≡ whole → None ≡ whole
fewer by text index done at whole more here e =
    let less : index - done ≡ suc (index - (done + 1)) = omega arith in
    sym (step by (index - (done + 1)) at (drop at text) None here)
    ∙ sym (turns by (drop at text) (index - done) (index - (done + 1)) at less)
    ∙ e

pub last : (by text : List ℕ) (index done at : ℕ) (whole : Option (ℕ × ℕ)) → index ≤ done → piece_from by (index - done) at (drop at text) ≡ whole → Some (at, at + unwrap_or (first_at by (drop at text)) (length (drop at text))) ≡ whole
unfolding piece_from
last by text index done at whole over e =
    let none : 0 ≡ index - done = omega arith in
    ap (λ i. piece_from by i at (drop at text)) none ∙ e

pub whole_piece : (by text : List ℕ) (index : ℕ) (o : Option (ℕ × ℕ)) → index ≢ 0 → (length by == 0) ≡ false → o ≡ piece_from by (index - 1) 0 text → o ≡ piece by index text
whole_piece by text index o some more h =
    h
    ∙ ap (λ b. cond b None (piece_from by (index - 1) 0 text)) (sym more)
    ∙ ap (λ b. cond (b || (length by == 0)) None (piece_from by (index - 1) 0 text)) (sym (ne_eqb index 0 some))
