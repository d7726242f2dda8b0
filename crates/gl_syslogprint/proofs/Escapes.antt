-- Values as they are printed, byte by byte.
use Rattle.std.proofs.Common.{◌≡◌, ℕ, suc, ◌+◌, ◌<◌, Bool, true, false, not, List, [], ◌∷◌, ◌++◌, length, get_or, take, drop, refl, sym, ap, ◌∙◌, drop-cons, add-one, arith}
use Rattle.std.specs.List.{prefix_len}
use Rattle.std.proofs.lemmas.List.{append_assoc}
use Rattle.std.proofs.lemmas.List.Sums.{prefix_len_stops}
use Rattle.gl_syslogtext.specs.declared.parts.Element.{Element}
use Rattle.gl_syslogtext.specs.Data.{is_special}
use Rattle.gl_syslogprint.specs.Printing.{escaped, param_text, params_text, element_text, elements_text}

abbrev pub is_plain : ℕ → Bool
is_plain b = not (is_special b)

special_small : (b : ℕ) → not (is_special b) ≡ false → b < 128
special_small b h = grind arith

-- the byte that is escaped first is ASCII
pub special_ascii : (text : List ℕ) (n : ℕ) → n ≡ prefix_len (λ b. not (is_special b)) text → n < length text → get_or text n 0 < 128
special_ascii text n e lt =
    let within : prefix_len (λ (b : ℕ). not (is_special b)) text < length text = omega arith in
    rw e (special_small (get_or text (prefix_len (λ (b : ℕ). not (is_special b)) text) 0) (prefix_len_stops (λ (b : ℕ). not (is_special b)) text 0 within))

cut_step : (t : Bool) (b : ℕ) (bs : List ℕ) → is_special b ≡ t
    → (prefix_len is_plain bs < length bs → escaped bs ≡ take (prefix_len is_plain bs) bs ++ 92 ∷ (take 1 (drop (prefix_len is_plain bs) bs) ++ escaped (drop 1 (drop (prefix_len is_plain bs) bs))))
    → prefix_len is_plain (b ∷ bs) < length (b ∷ bs)
    → escaped (b ∷ bs) ≡ take (prefix_len is_plain (b ∷ bs)) (b ∷ bs) ++ 92 ∷ (take 1 (drop (prefix_len is_plain (b ∷ bs)) (b ∷ bs)) ++ escaped (drop 1 (drop (prefix_len is_plain (b ∷ bs)) (b ∷ bs))))
cut_step true b bs e h lt =
    let none : prefix_len is_plain (b ∷ bs) ≡ 0 = rw e refl in
    rw (none, e) refl
cut_step false b bs e h lt =
    let one : prefix_len is_plain (b ∷ bs) ≡ suc (prefix_len is_plain bs) = rw e (omega arith) in
    let less : prefix_len is_plain bs < length bs = omega (arith, one, lt) in
    let plain : escaped (b ∷ bs) ≡ b ∷ escaped bs = rw e refl in
    plain ∙ ap (λ (x : List ℕ). b ∷ x) (h less) ∙ sym (rw one refl)

cut_all : (bs : List ℕ) → prefix_len is_plain bs < length bs → escaped bs ≡ take (prefix_len is_plain bs) bs ++ 92 ∷ (take 1 (drop (prefix_len is_plain bs) bs) ++ escaped (drop 1 (drop (prefix_len is_plain bs) bs)))
cut_all [] lt = absurd (omega arith)
cut_all (b ∷ bs) lt = cut_step (is_special b) b bs refl (cut_all bs) lt

-- what stands before the first byte that is escaped, that byte, and the rest
pub escape_cut : (text : List ℕ) (n : ℕ) → n ≡ prefix_len (λ b. not (is_special b)) text → n < length text → escaped text ≡ take n text ++ 92 ∷ (take 1 (drop n text) ++ escaped (drop 1 (drop n text)))
escape_cut text n e lt =
    let within : prefix_len is_plain text < length text = omega arith in
    rw e (cut_all text within)

none_step : (t : Bool) (b : ℕ) (bs : List ℕ) → is_special b ≡ t → (prefix_len is_plain bs ≡ length bs → escaped bs ≡ bs) → prefix_len is_plain (b ∷ bs) ≡ length (b ∷ bs) → escaped (b ∷ bs) ≡ b ∷ bs
none_step true b bs e h all =
    let none : prefix_len is_plain (b ∷ bs) ≡ 0 = rw e refl in
    absurd (omega (arith, none, all))
none_step false b bs e h all =
    let one : prefix_len is_plain (b ∷ bs) ≡ suc (prefix_len is_plain bs) = rw e (omega arith) in
    let rest : prefix_len is_plain bs ≡ length bs = omega (arith, one, all) in
    let plain : escaped (b ∷ bs) ≡ b ∷ escaped bs = rw e refl in
    plain ∙ ap (λ (x : List ℕ). b ∷ x) (h rest)

none_all : (bs : List ℕ) → prefix_len is_plain bs ≡ length bs → escaped bs ≡ bs
none_all [] all = refl
none_all (b ∷ bs) all = none_step (is_special b) b bs refl (none_all bs) all

pub escape_none : (text : List ℕ) (n : ℕ) → n ≡ prefix_len (λ b. not (is_special b)) text → n ≡ length text → escaped text ≡ text
escape_none text n e all =
    let whole : prefix_len is_plain text ≡ length text = omega arith in
    none_all text whole

-- what was written, and what is left to write, a step later
pub written : (old out plain special more : List ℕ) (text : List ℕ) → out ++ escaped text ≡ old → escaped text ≡ plain ++ 92 ∷ (special ++ more) → ((out ++ plain) ++ 92 ∷ []) ++ special ++ more ≡ old
written old out plain special more text h e =
    append_assoc ((out ++ plain) ++ 92 ∷ []) special more ∙ append_assoc (out ++ plain) (92 ∷ []) (special ++ more) ∙ append_assoc out plain (92 ∷ (special ++ more)) ∙ ap (λ (x : List ℕ). out ++ x) (sym e) ∙ h

pub params_next : (ps : List (List ℕ × List ℕ)) (i : ℕ) (p : List ℕ × List ℕ) → i < length ps → p ≡ get_or ps i p → params_text (drop i ps) ≡ param_text p ++ params_text (drop (i + 1) ps)
params_next ps i p lt is =
    let cons : drop i ps ≡ get_or ps i p ∷ drop (i + 1) ps = rw add-one (drop-cons ps i p lt) in
    ap params_text cons ∙ ap (λ (q : List ℕ × List ℕ). param_text q ++ params_text (drop (i + 1) ps)) (sym is)

pub elements_next : (es : List Element) (i : ℕ) (e : Element) → i < length es → e ≡ get_or es i e → elements_text (drop i es) ≡ element_text e ++ elements_text (drop (i + 1) es)
elements_next es i e lt is =
    let cons : drop i es ≡ get_or es i e ∷ drop (i + 1) es = rw add-one (drop-cons es i e lt) in
    ap elements_text cons ∙ ap (λ (x : Element). element_text x ++ elements_text (drop (i + 1) es)) (sym is)
