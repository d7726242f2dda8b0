-- What a string spells, piece by piece.
use Rattle.std.proofs.Common.{◌≡◌, ℕ, suc, ◌+◌, ◌<◌, ◌≤◌, Bool, true, false, cond, eqb, List, [], ◌∷◌, ◌++◌, length, get_or, take, drop, Option, Some, None, refl, sym, ap, subst, ◌∙◌, add-zero, arith}
use Rattle.std.specs.Prelude.{option_map}
use Rattle.std.specs.List.{prefix_len}
use Rattle.std.specs.Str.{IsCharBoundary}
use Rattle.std.proofs.lemmas.Bool.{eqb-true}
use Rattle.std.proofs.lemmas.List.{get_or-drop, get_or_default}
use Rattle.std.proofs.lemmas.List.Sums.{prefix_len-le-length}
use Rattle.gl_rulelang.specs.declared.text.Class.TheVariants.{Plain}
use Rattle.gl_rulelang.specs.Bytes.{in_class, is_escape, string_len}
use Rattle.gl_rulelang.specs.Tokens.{escaped, unescape, unescaped}

pub plain_run : (bs : List ℕ) → unescaped bs ≡ take (prefix_len (in_class Plain) bs) bs ++ unescaped (drop (prefix_len (in_class Plain) bs) bs)
plain_run [] = refl
plain_run (b ∷ bs) = plain_step (eqb b 92) b bs refl (plain_run bs)
  where
    plain_step : (t : Bool) (b : ℕ) (bs : List ℕ) → eqb b 92 ≡ t → unescaped bs ≡ take (prefix_len (in_class Plain) bs) bs ++ unescaped (drop (prefix_len (in_class Plain) bs) bs)
        → unescaped (b ∷ bs) ≡ take (prefix_len (in_class Plain) (b ∷ bs)) (b ∷ bs) ++ unescaped (drop (prefix_len (in_class Plain) (b ∷ bs)) (b ∷ bs))
    plain_step true b bs e h =
        let none : prefix_len (in_class Plain) (b ∷ bs) ≡ 0 = rw e refl in
        rw none refl
    plain_step false b bs e h =
        let one : 1 + prefix_len (in_class Plain) bs ≡ suc (prefix_len (in_class Plain) bs) = omega arith in
        rw (e, one) (ap (λ (x : List ℕ). b ∷ x) h)

pub plain_ends : (bs : List ℕ) → get_or (drop (prefix_len (in_class Plain) bs) bs) 0 92 ≡ 92
plain_ends [] = refl
plain_ends (b ∷ bs) = ends_step (eqb b 92) b bs refl (plain_ends bs)
  where
    ends_step : (t : Bool) (b : ℕ) (bs : List ℕ) → eqb b 92 ≡ t → get_or (drop (prefix_len (in_class Plain) bs) bs) 0 92 ≡ 92
        → get_or (drop (prefix_len (in_class Plain) (b ∷ bs)) (b ∷ bs)) 0 92 ≡ 92
    ends_step true b bs e h = rw e (grind arith)
    ends_step false b bs e h =
        let one : 1 + prefix_len (in_class Plain) bs ≡ suc (prefix_len (in_class Plain) bs) = omega arith in
        rw (e, one) h

pub at_letter : (bs : List ℕ) (d : ℕ) → get_or bs 0 92 ≡ 92 → 2 ≤ length bs → unescaped bs ≡ escaped (get_or bs 1 d) ∷ unescaped (drop 2 bs)
at_letter [] d h n = absurd (omega arith)
at_letter (b ∷ []) d h n = absurd (omega arith)
at_letter (b ∷ c ∷ bs) d h n = subst (λ (x : ℕ). unescaped (x ∷ c ∷ bs) ≡ escaped c ∷ unescaped bs) (sym h) refl

-- a byte past ASCII stands for itself, also behind a backslash
past_ascii : (b : ℕ) (bs : List ℕ) → 128 ≤ b → unescape true (b ∷ bs) ≡ unescape false (b ∷ bs)
past_ascii b bs h = grind arith

pub at_no_letter : (bs : List ℕ) → get_or bs 0 92 ≡ 92 → (2 ≤ length bs → 128 ≤ get_or bs 1 0) → unescaped bs ≡ unescaped (drop 1 bs)
at_no_letter [] h n = refl
at_no_letter (b ∷ []) h n = subst (λ (x : ℕ). unescaped (x ∷ []) ≡ []) (sym h) refl
at_no_letter (b ∷ c ∷ bs) h n = subst (λ (x : ℕ). unescaped (x ∷ c ∷ bs) ≡ unescaped (c ∷ bs)) (sym h) (past_ascii c bs (n (omega arith)))

-- before a backslash, or at the end
pub plain_boundary : (bs : List ℕ) → IsCharBoundary bs (prefix_len (in_class Plain) bs)
plain_boundary bs =
    let n = prefix_len (in_class Plain) bs in (
      prefix_len-le-length (in_class Plain) bs,
      λ lt. let e : get_or bs n 92 ≡ 92 = ap (λ (i : ℕ). get_or bs i 92) (sym (add-zero n)) ∙ sym (get_or-drop n bs 0 92) ∙ plain_ends bs in
          let f : get_or bs n 0 ≡ 92 = get_or_default bs n 0 92 lt ∙ e in λ h. absurd (omega arith),
    )

-- what a counted rest gives
pub counted : (o : Option ℕ) (n : ℕ) → option_map suc o ≡ Some n → (m : ℕ) × (o ≡ Some m) × (n ≡ suc m)
counted None n e = absurd cc
counted (Some m) n e = (m, refl, cc)

abbrev pub EndsAt : List ℕ → ℕ → Type 0
EndsAt bs n = (n < length bs) × (get_or bs n 0 ≡ 34)

behind_escape : (t : Bool) (b : ℕ) (bs : List ℕ) (n : ℕ) → ((m : ℕ) → string_len false bs ≡ Some m → EndsAt bs m) → cond t (option_map suc (string_len false bs)) None ≡ Some n → EndsAt (b ∷ bs) n
behind_escape false b bs n h e = absurd cc
behind_escape true b bs n h e =
    let p = counted (string_len false bs) n e in
    let q = h p.0 p.1 in
    rw p.2 (omega (arith, q.0), q.1)

at_byte : (t : Bool) (b : ℕ) (bs : List ℕ) (n : ℕ) → eqb b 34 ≡ t → ((m : ℕ) → string_len (eqb b 92) bs ≡ Some m → EndsAt bs m)
    → cond t (Some 0) (option_map suc (string_len (eqb b 92) bs)) ≡ Some n → EndsAt (b ∷ bs) n
at_byte true b bs n t h e = let z : 0 ≡ n = cc in subst (EndsAt (b ∷ bs)) z (omega arith, eqb-true b 34 t)
at_byte false b bs n t h e =
    let p = counted (string_len (eqb b 92) bs) n e in
    let q = h p.0 p.1 in
    rw p.2 (omega (arith, q.0), q.1)

-- a string ends before a quote
pub string_ends : (f : Bool) (bs : List ℕ) (n : ℕ) → string_len f bs ≡ Some n → EndsAt bs n
string_ends true [] n e = absurd cc
string_ends false [] n e = absurd cc
string_ends true (b ∷ bs) n e = behind_escape (is_escape b) b bs n (string_ends false bs) e
string_ends false (b ∷ bs) n e = at_byte (eqb b 34) b bs n refl (string_ends (eqb b 92) bs) e
