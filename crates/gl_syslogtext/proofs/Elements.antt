-- Elements, and all structured data: what is read is written so, and what is written so is read.
use Rattle.std.proofs.Common.{◌≡◌, ℕ, zero, suc, ◌+◌, ◌<◌, ◌≤◌, Bool, true, false, cond, eqb, List, [], ◌∷◌, ◌++◌, length, get_or, drop, refl, sym, ap, subst, ◌∙◌, arith}
use Rattle.std.specs.Prelude.{Option, Some, None}
use Rattle.std.proofs.lemmas.Bool.{eqb-true}
use Rattle.std.proofs.lemmas.List.{append_assoc, append-nil, length-append}
use Rattle.gl_syslogtext.specs.declared.parts.Element.{Element}
use Rattle.gl_syslogtext.specs.Sections.{◌>>=◌}
use Rattle.gl_syslogtext.specs.Data.{is_sd_byte, sd_name_at, many_at, param_at, params_at, element_at, elements_at, data_at}
use Rattle.gl_syslogtext.specs.Rfc5424.{AreMany, is_sd_name, IsParam, IsElement, IsData}
use Rattle.gl_syslogtext.proofs.Peel.{bind_ok, some_is, guard_ok}
use Rattle.gl_syslogtext.proofs.Many.{last, one_more, params_are, elements_are}
use Rattle.gl_syslogtext.proofs.Spelled.{sd_name_sound, sd_name_again, front_is, param_sound, param_again}

module _ {X : Type 0} (sign : ℕ) (one : List ℕ → Option (X × List ℕ)) (Is : List ℕ → X → Type 0) where
  abbrev pub Reads : Type 0
  Reads = (text : List ℕ) (x : X × List ℕ) → get_or text 0 0 ≡ sign → one text ≡ Some x → (front : List ℕ) × (text ≡ front ++ x.1) × Is front x.0

  abbrev pub ReadsAgain : Type 0
  ReadsAgain = (front : List ℕ) (x : X) (rest : List ℕ) → Is front x → (one (front ++ rest) ≡ Some (x, rest)) × (get_or (front ++ rest) 0 0 ≡ sign) × (0 < length front)

  abbrev pub Added : List X → List ℕ → List X × List ℕ → Type 0
  Added xs text y = (added : List X) × (front : List ℕ) × (y.0 ≡ xs ++ added) × (text ≡ front ++ y.1) × AreMany Is front added

  nothing_added : (xs : List X) (text : List ℕ) (y : List X × List ℕ) → Some (xs, text) ≡ Some y → Added xs text y
  nothing_added xs text y h =
      let same = some_is (xs, text) y h in
      subst (Added xs text) same ([], [], sym (append-nil xs), refl, refl)

  -- one was read, and then others
  abbrev pub AddedOne : List X → List ℕ → List X × List ℕ → Type 0
  AddedOne xs text y = (x : X) × (added : List X) × (front : List ℕ) × (y.0 ≡ xs ++ x ∷ added) × (text ≡ front ++ y.1) × AreMany Is front (x ∷ added)

  turn : Reads → (n : ℕ) (xs : List X) (text : List ℕ) (y : List X × List ℕ) → ((zs : List X) (rest : List ℕ) → many_at sign one n zs rest ≡ Some y → Added zs rest y) → get_or text 0 0 ≡ sign
      → (one text >>= λ x. many_at sign one n (xs ++ x.0 ∷ []) x.1) ≡ Some y → AddedOne xs text y
  turn reads n xs text y ih first h =
      let f = bind_ok (one text) (λ (x : X × List ℕ). many_at sign one n (xs ++ x.0 ∷ []) x.1) y h in
      let r = reads text f.0 first f.1 in
      let m = ih (xs ++ f.0.0 ∷ []) f.0.1 f.2 in
      (f.0.0, m.0, r.0 ++ m.1, m.2 ∙ append_assoc xs (f.0.0 ∷ []) m.0, r.1 ∙ ap (λ (bs : List ℕ). r.0 ++ bs) m.3 ∙ sym (append_assoc r.0 m.1 y.1), (r.0, m.1, refl, r.2, m.4))

  turns : (t : Bool) → Reads → (n : ℕ) (xs : List X) (text : List ℕ) (y : List X × List ℕ) → ((zs : List X) (rest : List ℕ) → many_at sign one n zs rest ≡ Some y → Added zs rest y) → eqb (get_or text 0 0) sign ≡ t
      → cond t (one text >>= λ x. many_at sign one n (xs ++ x.0 ∷ []) x.1) (Some (xs, text)) ≡ Some y → Added xs text y
  turns false reads n xs text y ih e h = nothing_added xs text y h
  turns true reads n xs text y ih e h =
      let a = turn reads n xs text y ih (eqb-true (get_or text 0 0) sign e) h in
      (a.0 ∷ a.1, a.2, a.3, a.4, a.5)

  pub many_sound : Reads → (n : ℕ) (xs : List X) (text : List ℕ) (y : List X × List ℕ) → many_at sign one n xs text ≡ Some y → Added xs text y
  unfolding many_at
  many_sound reads zero xs text y h = nothing_added xs text y h
  many_sound reads (suc n) xs text y h = turns (eqb (get_or text 0 0) sign) reads n xs text y (λ zs rest k. many_sound reads n zs rest y k) refl h

  pub some_sound : Reads → (n : ℕ) (xs : List X) (text : List ℕ) (y : List X × List ℕ) → get_or text 0 0 ≡ sign → many_at sign one (suc n) xs text ≡ Some y → AddedOne xs text y
  unfolding many_at
  some_sound reads n xs text y first h =
      let test : eqb (get_or text 0 0) sign ≡ true = grind arith in
      turn reads n xs text y (λ zs rest k. many_sound reads n zs rest y k) first (rw test at h)

  pub many_again : ReadsAgain → (xs : List X) (front rest : List ℕ) (n : ℕ) (ys : List X) → AreMany Is front xs → eqb (get_or rest 0 0) sign ≡ false → length (front ++ rest) ≤ n
      → many_at sign one n ys (front ++ rest) ≡ Some (ys ++ xs, rest)
  many_again reads [] front rest n ys are other enough =
      ap (λ (f : List ℕ). many_at sign one n ys (f ++ rest)) are ∙ last sign one n ys rest other ∙ ap (λ (zs : List X). Some (zs, rest)) (sym (append-nil ys))
  many_again reads (x ∷ xs) front rest zero ys are other enough =
      let r = reads are.0 x (are.1 ++ rest) are.3 in
      absurd (omega (arith, r.2, ap length are.2, length-append are.0 are.1, length-append front rest))
  many_again reads (x ∷ xs) front rest (suc n) ys are other enough =
      let r = reads are.0 x (are.1 ++ rest) are.3 in
      let seam : front ++ rest ≡ are.0 ++ (are.1 ++ rest) = ap (λ (f : List ℕ). f ++ rest) are.2 ∙ append_assoc are.0 are.1 rest in
      let size : length (front ++ rest) ≡ length are.0 + length (are.1 ++ rest) = ap length seam ∙ length-append are.0 (are.1 ++ rest) in
      let less : length (are.1 ++ rest) ≤ n = omega (arith, size, enough, r.2) in
      let test : eqb (get_or (are.0 ++ (are.1 ++ rest)) 0 0) sign ≡ true = let is = r.1 in grind arith in
      ap (many_at sign one (suc n) ys) seam ∙ one_more sign one n ys (are.0 ++ (are.1 ++ rest)) x (are.1 ++ rest) test r.0
      ∙ many_again reads xs are.1 rest n (ys ++ x ∷ []) are.4 other less ∙ ap (λ (zs : List X). Some (zs, rest)) (append_assoc ys (x ∷ []) xs)

close_of : List ℕ → List (List ℕ × List ℕ) × List ℕ → Option (Element × List ℕ)
close_of id ps = cond (eqb (get_or ps.1 0 0) 93) (Some (record { id = id; params = ps.0 }, drop 1 ps.1)) None

element_seam : (id params rest : List ℕ) → (91 ∷ (id ++ (params ++ 93 ∷ []))) ++ rest ≡ 91 ∷ (id ++ (params ++ 93 ∷ rest))
element_seam id params rest =
    ap (λ (bs : List ℕ). 91 ∷ bs) (append_assoc id (params ++ 93 ∷ []) rest ∙ ap (λ (bs : List ℕ). id ++ bs) (append_assoc params (93 ∷ []) rest))

pub element_sound : (text : List ℕ) (x : Element × List ℕ) → get_or text 0 0 ≡ 91 → element_at text ≡ Some x → (front : List ℕ) × (text ≡ front ++ x.1) × IsElement front x.0
unfolding element_at close_of
element_sound text x first h =
    let f = bind_ok (sd_name_at (drop 1 text)) (λ (id : List ℕ × List ℕ). params_at id.1 >>= close_of id.0) x h in
    let id = f.0 in
    let g = bind_ok (params_at id.1) (close_of id.0) x f.2 in
    let ps = g.0 in
    let e : Element = record { id = id.0; params = ps.0 } in
    let t = guard_ok (eqb (get_or ps.1 0 0) 93) (e, drop 1 ps.1) x g.2 in
    let m = many_sound 32 param_at IsParam param_sound (length id.1) [] id.1 ps (sym (params_are id.1) ∙ g.1) in
    let name = sd_name_sound (drop 1 text) id f.1 in
    let closed : ps.1 ≡ 93 ∷ drop 1 ps.1 = front_is ps.1 93 (eqb-true (get_or ps.1 0 0) 93 t.0) (omega arith) in
    let behind : id.1 ≡ m.1 ++ 93 ∷ drop 1 ps.1 = m.3 ∙ ap (λ (bs : List ℕ). m.1 ++ bs) closed in
    let whole : text ≡ 91 ∷ (id.0 ++ (m.1 ++ 93 ∷ drop 1 ps.1)) = front_is text 91 first (omega arith) ∙ ap (λ (bs : List ℕ). 91 ∷ bs) (name.0 ∙ ap (λ (bs : List ℕ). id.0 ++ bs) behind) in
    let is : IsElement (91 ∷ (id.0 ++ (m.1 ++ 93 ∷ []))) e = record { params = m.1; whole = refl; id = name.1; each = subst (AreMany IsParam m.1) (sym m.2) m.4 } in
    subst (λ (y : Element × List ℕ). (front : List ℕ) × (text ≡ front ++ y.1) × IsElement front y.0) t.1 (91 ∷ (id.0 ++ (m.1 ++ 93 ∷ [])), whole ∙ sym (element_seam id.0 m.1 (drop 1 ps.1)), is)

name_before : (name text : List ℕ) → is_sd_name name ≡ true → 0 < length text → is_sd_byte (get_or text 0 0) ≡ false → sd_name_at (name ++ text) ≡ Some (name, text)
name_before name [] is some stop = absurd (omega arith)
name_before name (y ∷ ys) is some stop = sd_name_again name y ys is stop

params_first : (ps : List (List ℕ × List ℕ)) (front rest : List ℕ) → AreMany IsParam front ps → is_sd_byte (get_or (front ++ 93 ∷ rest) 0 0) ≡ false
params_first [] front rest are = ap (λ (f : List ℕ). is_sd_byte (get_or (f ++ 93 ∷ rest) 0 0)) are
params_first (p ∷ ps) front rest are =
    let r = param_again are.0 p (are.1 ++ 93 ∷ rest) are.3 in
    let seam : front ++ 93 ∷ rest ≡ are.0 ++ (are.1 ++ 93 ∷ rest) = ap (λ (f : List ℕ). f ++ 93 ∷ rest) are.2 ∙ append_assoc are.0 are.1 (93 ∷ rest) in
    ap (λ (bs : List ℕ). is_sd_byte (get_or bs 0 0)) seam ∙ ap is_sd_byte r.1

element_read : (x : Element) (params rest : List ℕ) → is_sd_name x.id ≡ true → AreMany IsParam params x.params → element_at (91 ∷ (x.id ++ (params ++ 93 ∷ rest))) ≡ Some (x, rest)
unfolding element_at
element_read x params rest is each =
    let text = params ++ 93 ∷ rest in
    let some : 0 < length text = omega (arith, length-append params (93 ∷ rest)) in
    let ps : params_at text ≡ Some (x.params, 93 ∷ rest) = params_are text ∙ many_again 32 param_at IsParam param_again x.params params (93 ∷ rest) (length text) [] each refl (omega arith) in
    rw (name_before x.id text is some (params_first x.params params rest each), ps) refl

pub element_again : (front : List ℕ) (x : Element) (rest : List ℕ) → IsElement front x → (element_at (front ++ rest) ≡ Some (x, rest)) × (get_or (front ++ rest) 0 0 ≡ 91) × (0 < length front)
element_again front x rest p =
    let seam : front ++ rest ≡ 91 ∷ (x.id ++ (p.params ++ 93 ∷ rest)) = ap (λ (f : List ℕ). f ++ rest) p.whole ∙ element_seam x.id p.params rest in
    (ap element_at seam ∙ element_read x p.params rest p.id p.each, ap (λ (bs : List ℕ). get_or bs 0 0) seam, rw p.whole (omega arith))

elements_sound : (text : List ℕ) (x : List Element × List ℕ) → get_or text 0 0 ≡ 91 → elements_at text ≡ Some x → (front : List ℕ) × (text ≡ front ++ x.1) × IsData front x.0
elements_sound [] x first h = absurd (omega arith)
elements_sound (b ∷ bs) x first h =
    let a = some_sound 91 element_at IsElement element_sound (length bs) [] (b ∷ bs) x first (sym (elements_are (b ∷ bs)) ∙ h) in
    (a.2, a.4, subst (IsData a.2) (sym a.3) a.5)

data_step : (s t : Bool) (text : List ℕ) (x : List Element × List ℕ) → eqb (get_or text 0 0) 45 ≡ s → eqb (get_or text 0 0) 91 ≡ t
    → cond s (Some ([], drop 1 text)) (cond t (elements_at text) None) ≡ Some x → (front : List ℕ) × (text ≡ front ++ x.1) × IsData front x.0
data_step true t text x e k h =
    let same = some_is ([], drop 1 text) x h in
    let whole : text ≡ 45 ∷ drop 1 text = front_is text 45 (eqb-true (get_or text 0 0) 45 e) (omega arith) in
    subst (λ (y : List Element × List ℕ). (front : List ℕ) × (text ≡ front ++ y.1) × IsData front y.0) same (45 ∷ [], whole, refl)
data_step false true text x e k h = elements_sound text x (eqb-true (get_or text 0 0) 91 k) h
data_step false false text x e k h = absurd cc

pub data_sound : (text : List ℕ) (x : List Element × List ℕ) → data_at text ≡ Some x → (front : List ℕ) × (text ≡ front ++ x.1) × IsData front x.0
unfolding data_at
data_sound text x h = data_step (eqb (get_or text 0 0) 45) (eqb (get_or text 0 0) 91) text x refl refl h

data_begins : (text : List ℕ) → get_or text 0 0 ≡ 91 → data_at text ≡ elements_at text
unfolding data_at
data_begins text h =
    let other : eqb (get_or text 0 0) 45 ≡ false = grind arith in
    let is : eqb (get_or text 0 0) 91 ≡ true = grind arith in
    rw (other, is) refl

data_none : (rest : List ℕ) → data_at (45 ∷ rest) ≡ Some ([], rest)
unfolding data_at
data_none rest = refl

pub data_again : (front : List ℕ) (es : List Element) (rest : List ℕ) → IsData front es → eqb (get_or rest 0 0) 91 ≡ false → data_at (front ++ rest) ≡ Some (es, rest)
data_again front [] rest is other = ap (λ (f : List ℕ). data_at (f ++ rest)) is ∙ data_none rest
data_again front (e ∷ es) rest is other =
    let r = element_again is.0 e (is.1 ++ rest) is.3 in
    let seam : front ++ rest ≡ is.0 ++ (is.1 ++ rest) = ap (λ (f : List ℕ). f ++ rest) is.2 ∙ append_assoc is.0 is.1 rest in
    let first : get_or (front ++ rest) 0 0 ≡ 91 = ap (λ (bs : List ℕ). get_or bs 0 0) seam ∙ r.1 in
    data_begins (front ++ rest) first ∙ elements_are (front ++ rest)
    ∙ many_again 91 element_at IsElement element_again (e ∷ es) front rest (length (front ++ rest)) [] is other (omega arith)
