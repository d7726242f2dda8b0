-- How a pattern covers a text.
use Rattle.std.proofs.Common.{◌≡◌, ℕ, zero, suc, ◌+◌, ◌<◌, ◌≤◌, ◌==◌, Bool, true, false, ◌&&◌, ◌||◌, List, [], ◌∷◌, length, get_or, drop, Option, Some, None, refl, sym, ap, ◌∙◌, subst, arith}
use Rattle.std.proofs.lemmas.List.{at_drop_more, at_drop_all, drop-drop, drop_more, drop_all}
use Rattle.std.specs.List.{list_any}
use Rattle.std.proofs.lemmas.Bool.Decides.{nat_tests}
use Rattle.gl_query.specs.declared.term.Piece.{Piece}
use Rattle.gl_query.specs.declared.term.Piece.TheVariants.{Byte, AnyRun, AnyOne}
use Rattle.gl_query.specs.Texts.{text_tokens, some_end, TokenAhead}
use Rattle.gl_query.specs.Patterns.{is_continuation, same_byte, skipped, rest_of_character, is_any_run, if_same, behind, covers}
use Rattle.gl_query.specs.Attempts.{IsEnd, Reaches}

pub rest_goes : (text : List ℕ) (n : ℕ) → n < length text → is_continuation (get_or text n 0) ≡ true → rest_of_character (drop n text) ≡ rest_of_character (drop (n + 1) text)
unfolding rest_of_character
rest_goes text n lt h = at_drop_more rest_of_character text n 0 lt ∙ ap (λ b. skipped b (get_or text n 0 ∷ drop (n + 1) text) (rest_of_character (drop (n + 1) text))) h

pub rest_stops : (text : List ℕ) (n : ℕ) → n < length text → is_continuation (get_or text n 0) ≡ false → rest_of_character (drop n text) ≡ drop n text
unfolding rest_of_character
rest_stops text n lt h = at_drop_more rest_of_character text n 0 lt ∙ ap (λ b. skipped b (get_or text n 0 ∷ drop (n + 1) text) (rest_of_character (drop (n + 1) text))) h ∙ sym (drop_more text n 0 lt)

pub rest_over : (text : List ℕ) (n : ℕ) → length text ≤ n → rest_of_character (drop n text) ≡ drop n text
unfolding rest_of_character
rest_over text n le = at_drop_all rest_of_character text n le ∙ sym (drop_all n text le)

-- ends of ends
end_of_end : (v w u : List ℕ) → IsEnd v w → IsEnd w u → IsEnd v u
end_of_end v w u a b = (b.0 + a.0, a.1 ∙ ap (λ x. drop a.0 x) b.1 ∙ drop-drop a.0 b.0 u)

end_tail : (b : ℕ) (v u : List ℕ) → IsEnd v u → IsEnd v (b ∷ u)
end_tail b v u a = (suc a.0, a.1)

-- the rest of a character of an end is an end of that of the whole
rest_end : (bs : List ℕ) → IsEnd (rest_of_character bs) bs
unfolding rest_of_character
rest_end [] = (0, refl)
rest_end (b ∷ bs) = whole (is_continuation b) (rest_end bs)
  where
    whole : (x : Bool) → IsEnd (rest_of_character bs) bs → IsEnd (skipped x (b ∷ bs) (rest_of_character bs)) (b ∷ bs)
    whole true a = end_tail b (rest_of_character bs) bs a
    whole false a = (0, refl)

drop_nil : (k : ℕ) → ◌≡◌ {A = List ℕ} (drop k []) []
drop_nil zero = refl
drop_nil (suc k) = refl

pick : (b : ℕ) (bs : List ℕ) (k : ℕ) → IsEnd (rest_of_character (drop k bs)) (rest_of_character bs) → (x : Bool) → IsEnd (rest_of_character (drop k bs)) (skipped x (b ∷ bs) (rest_of_character bs))
pick b bs k inner true = inner
pick b bs k inner false = end_tail b (rest_of_character (drop k bs)) bs (end_of_end (rest_of_character (drop k bs)) (drop k bs) bs (rest_end (drop k bs)) (k, refl))

rests : (bs : List ℕ) (k : ℕ) → IsEnd (rest_of_character (drop k bs)) (rest_of_character bs)
unfolding rest_of_character
rests bs zero = (0, refl)
rests [] (suc k) = (0, refl)
rests (b ∷ bs) (suc k) = pick b bs k (rests bs k) (is_continuation b)

-- one piece that is no `*`
abbrev Covered : Option (List ℕ) → List Piece → Bool
Covered None p = false
Covered (Some rest) p = covers p rest

by_piece : (x : Piece) (p : List Piece) (text : List ℕ) → is_any_run x ≡ false → covers (x ∷ p) text ≡ Covered (behind x text) p
unfolding covers
by_piece (Byte c) p [] h = refl
by_piece (Byte c) p (b ∷ bs) h = same (same_byte c b)
  where
    same : (v : Bool) → (v && covers p bs) ≡ Covered (if_same v bs) p
    same true = refl
    same false = refl
by_piece AnyOne p [] h = refl
by_piece AnyOne p (b ∷ bs) h = refl
by_piece AnyRun p text h = cc h

-- what stands behind a piece in an end stands behind it in the whole, or later
behind_end : (x : Piece) (text rest : List ℕ) (k : ℕ) (after : List ℕ) → behind x text ≡ Some rest → behind x (drop k text) ≡ Some after → IsEnd after rest
behind_end x text rest zero after e h = let s : after ≡ rest = cc (e, h) in (0, s)
behind_end x [] rest (suc k) after e h = cc e
behind_end (Byte c) (b ∷ bs) rest (suc k) after e h = byte_end c bs rest k after (if_same_is (same_byte c b) bs rest e) h
  where
    if_same_is : (v : Bool) (bs rest : List ℕ) → if_same v bs ≡ Some rest → bs ≡ rest
    if_same_is true bs rest e = cc e
    if_same_is false bs rest e = cc e

    tail : (c : ℕ) (t after : List ℕ) → behind (Byte c) t ≡ Some after → IsEnd after t
    tail c [] after h = cc h
    tail c (d ∷ ds) after h = (1, sym (if_same_is (same_byte c d) ds after h))

    byte_end : (c : ℕ) (bs rest : List ℕ) (k : ℕ) (after : List ℕ) → bs ≡ rest → behind (Byte c) (drop k bs) ≡ Some after → IsEnd after rest
    byte_end c bs rest k after s h = subst (IsEnd after) s (end_of_end after (drop k bs) bs (tail c (drop k bs) after h) (k, refl))
behind_end AnyOne (b ∷ bs) rest (suc k) after e h = one_end (drop k bs) refl h
  where
    one_end : (t : List ℕ) → t ≡ drop k bs → behind AnyOne t ≡ Some after → IsEnd after rest
    one_end [] s h = cc h
    one_end (d ∷ ds) s h =
        let a : after ≡ rest_of_character ds = cc h in
        let r : rest_of_character bs ≡ rest = cc e in
        let cut : ds ≡ drop (k + 1) bs = ap (λ x. drop 1 x) s ∙ drop-drop 1 k bs in
        subst (λ x. IsEnd x rest) (sym (a ∙ ap rest_of_character cut)) (subst (IsEnd (rest_of_character (drop (k + 1) bs))) r (rests bs (k + 1)))
behind_end AnyRun (b ∷ bs) rest (suc k) after e h = cc e

covered_some : (o : Option (List ℕ)) (p : List Piece) → Covered o p ≡ true → (after : List ℕ) × (o ≡ Some after) × (covers p after ≡ true)
covered_some None p h = cc h
covered_some (Some after) p h = (after, refl, h)

-- a piece goes on
pub piece_reaches : (p0 : List Piece) (t0 : List ℕ) (left : List Piece) (text : List ℕ) (x : Piece) (more : List Piece) (rest : List ℕ)
    → Reaches p0 t0 left text → left ≡ x ∷ more → is_any_run x ≡ false → behind x text ≡ Some rest → length rest < length text → Reaches p0 t0 more rest
piece_reaches p0 t0 left text x more rest r e n b lt =
    record {
      same = r.same ∙ ap (λ l. covers l text) e ∙ by_piece x more text n ∙ ap (λ o. Covered o more) b;
      goes_on = λ v end h.
          let g = r.goes_on v end h in
          let c = covered_some (behind x g.0) more (sym (ap (λ l. covers l g.0) e ∙ by_piece x more g.0 n) ∙ g.2) in
          (c.0, behind_end x text rest g.1.0 c.0 b (sym (ap (λ t. behind x t) g.1.1) ∙ c.1), c.2);
      fewer = let q = ap length e in omega (arith, r.fewer, q);
      shorter = omega (arith, r.shorter);
    }

pub piece_fails : (p0 : List Piece) (t0 : List ℕ) (left : List Piece) (text : List ℕ) (x : Piece) (more : List Piece)
    → Reaches p0 t0 left text → left ≡ x ∷ more → is_any_run x ≡ false → behind x text ≡ None → covers p0 t0 ≡ false
piece_fails p0 t0 left text x more r e n b = r.same ∙ ap (λ l. covers l text) e ∙ by_piece x more text n ∙ ap (λ o. Covered o more) b

any_run : (x : Piece) → is_any_run x ≡ true → x ≡ AnyRun
any_run (Byte b) h = cc h
any_run AnyRun h = refl
any_run AnyOne h = cc h

pub run_reaches : (p0 : List Piece) (t0 : List ℕ) (left : List Piece) (text : List ℕ) (x : Piece) (more : List Piece)
    → Reaches p0 t0 left text → left ≡ x ∷ more → is_any_run x ≡ true → Reaches p0 t0 (AnyRun ∷ more) text
run_reaches p0 t0 left text x more r e n = subst (λ l. Reaches p0 t0 l text) (e ∙ ap (λ y. y ∷ more) (any_run x n)) r

pub pattern_ends : (p0 : List Piece) (t0 : List ℕ) (left : List Piece) (text : List ℕ) → Reaches p0 t0 left text → length left ≡ 0 → length text ≡ 0 → covers p0 t0 ≡ true
unfolding covers
pattern_ends p0 t0 [] [] r e f = r.same
pattern_ends p0 t0 [] (b ∷ bs) r e f = absurd (omega arith)
pattern_ends p0 t0 (x ∷ xs) text r e f = absurd (omega arith)

pub text_left : (p0 : List Piece) (t0 : List ℕ) (left : List Piece) (text : List ℕ) → Reaches p0 t0 left text → length left ≡ 0 → 0 < length text → covers p0 t0 ≡ false
unfolding covers
text_left p0 t0 [] [] r e f = absurd (omega arith)
text_left p0 t0 [] (b ∷ bs) r e f = r.same
text_left p0 t0 (x ∷ xs) text r e f = absurd (omega arith)

pub reaches_start : (p : List Piece) (t : List ℕ) → Reaches p t p t
reaches_start p t = record { same = refl; goes_on = λ v end h. (v, end, h); fewer = omega arith; shorter = omega arith }

-- ends that pass
some_end_at : (p : List ℕ → Bool) (u : List ℕ) (k : ℕ) → p (drop k u) ≡ true → some_end p u ≡ true
some_end_at p [] zero h = h
some_end_at p [] (suc k) h = h
some_end_at p (b ∷ bs) zero h = ap (λ x. x || some_end p bs) h
some_end_at p (b ∷ bs) (suc k) h = or_right (p (b ∷ bs)) (some_end p bs) (some_end_at p bs k h)
  where
    or_right : (x y : Bool) → y ≡ true → (x || y) ≡ true
    or_right true y h = refl
    or_right false y h = h

some_end_found : (p : List ℕ → Bool) (u : List ℕ) → some_end p u ≡ true → (k : ℕ) × (p (drop k u) ≡ true)
some_end_found p [] h = (0, h)
some_end_found p (b ∷ bs) h = pick (p (b ∷ bs)) refl h (some_end_found p bs)
  where
    pick : (x : Bool) → p (b ∷ bs) ≡ x → (x || some_end p bs) ≡ true → (some_end p bs ≡ true → (k : ℕ) × (p (drop k bs) ≡ true)) → (k : ℕ) × (p (drop k (b ∷ bs)) ≡ true)
    pick true e h more = (0, e)
    pick false e h more = let m = more h in (suc m.0, m.1)

iff : (a b : Bool) → (a ≡ true → b ≡ true) → (b ≡ true → a ≡ true) → a ≡ b
iff true b f g = sym (f refl)
iff false true f g = g refl
iff false false f g = refl

pub end_here : (p : List Piece) (u : List ℕ) → covers p u ≡ true → some_end (covers p) u ≡ true
end_here p u h = some_end_at (covers p) u 0 h

pub end_goes : (p : List Piece) (u : List ℕ) (b : ℕ) (rest : List ℕ) → covers p u ≡ false → u ≡ b ∷ rest → some_end (covers p) u ≡ some_end (covers p) rest
end_goes p u b rest h e = ap (λ t. some_end (covers p) t) e ∙ ap (λ x. x || some_end (covers p) rest) (sym (ap (covers p) e) ∙ h)

pub end_over : (p : List Piece) (u : List ℕ) → covers p u ≡ false → length u ≡ 0 → some_end (covers p) u ≡ false
end_over p [] h e = h
end_over p (b ∷ bs) h e = absurd (omega arith)

-- behind a later `*` no other run of an earlier one helps
pub end_run : (p : List Piece) (u : List ℕ) (more : List Piece) (rest : List ℕ) → Reaches p u (AnyRun ∷ more) rest → some_end (covers p) u ≡ some_end (covers more) rest
unfolding covers
end_run p u more rest r =
    iff (some_end (covers p) u) (some_end (covers more) rest)
    (λ h.
    let f = some_end_found (covers p) u h in
    let g = r.goes_on (drop f.0 u) (f.0, refl) f.1 in
    let m = some_end_found (covers more) g.0 g.2 in
    some_end_at (covers more) rest (g.1.0 + m.0) (subst (λ t. covers more t ≡ true) (ap (λ t. drop m.0 t) g.1.1 ∙ drop-drop m.0 g.1.0 rest) m.1))
    (λ h. some_end_at (covers p) u 0 (r.same ∙ h))

pub covers_run : (p : List Piece) (u : List ℕ) (more : List Piece) (rest : List ℕ) → Reaches p u (AnyRun ∷ more) rest → covers p u ≡ some_end (covers more) rest
unfolding covers
covers_run p u more rest r = r.same

-- tokens that a pattern covers
pub any_here : (p : List Piece) (text token rest : List ℕ) → TokenAhead text token rest → covers p token ≡ true → list_any (covers p) (text_tokens text) ≡ true
any_here p text token rest t h = ap (λ ts. list_any (covers p) ts) t.tokens ∙ ap (λ x. x || list_any (covers p) (text_tokens rest)) h

pub any_goes : (p : List Piece) (text token rest : List ℕ) → TokenAhead text token rest → covers p token ≡ false → list_any (covers p) (text_tokens text) ≡ list_any (covers p) (text_tokens rest)
any_goes p text token rest t h = ap (λ ts. list_any (covers p) ts) t.tokens ∙ ap (λ x. x || list_any (covers p) (text_tokens rest)) h

pub any_over : (p : List Piece) (text : List ℕ) → text_tokens text ≡ [] → list_any (covers p) (text_tokens text) ≡ false
any_over p text e = ap (λ ts. list_any (covers p) ts) e

pub is_zero : (n : ℕ) → (n == 0) ≡ true → n ≡ 0
is_zero n h = grind (arith, nat_tests)

pub is_more : (n : ℕ) → (n == 0) ≡ false → 0 < n
is_more n h = grind (arith, nat_tests)
