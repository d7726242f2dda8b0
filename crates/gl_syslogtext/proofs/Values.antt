-- Where a value ends, and what it spells.
use Rattle.std.proofs.Common.{◌≡◌, ℕ, suc, ◌+◌, ◌<◌, ◌≤◌, Bool, true, false, cond, eqb, List, [], ◌∷◌, ◌++◌, length, get_or, take, drop, Option, Some, None, refl, sym, ap, subst, ◌∙◌, arith}
use Rattle.std.specs.Prelude.{option_map}
use Rattle.std.proofs.lemmas.Bool.{eqb-true}
use Rattle.std.specs.List.{prefix_len, position_or_len, before_first, after_first}
use Rattle.std.proofs.Common.{drop-cons, add-one, ◌-◌, ◌⊎◌, inl, inr, ap₂, nat_lt, not, ◌&&◌}
use Rattle.std.proofs.lemmas.List.{length-drop}
use Rattle.std.specs.Str.{IsUtf8, IsCharBoundary}
use Rattle.std.proofs.lemmas.Str.{IsCharBoundary-past_char}
use Rattle.std.proofs.lemmas.Bool.{and_parts as and_both}
use Rattle.gl_syslogtext.specs.Sections.{split}
use Rattle.std.proofs.lemmas.List.Sums.{prefix_len_passes, prefix_len-le-length}
use Rattle.gl_syslogtext.specs.Data.{is_sd_byte, is_special, escapes, value_len, unescaped, has_bom}

-- what a counted rest gives
pub counted : (o : Option ℕ) (n : ℕ) → option_map suc o ≡ Some n → (m : ℕ) × (o ≡ Some m) × (n ≡ suc m)
counted None n e = absurd cc
counted (Some m) n e = (m, refl, cc)

abbrev pub EndsAt : List ℕ → ℕ → Type 0
EndsAt bs n = (n < length bs) × (get_or bs n 0 ≡ 34)

behind : (b : ℕ) (bs : List ℕ) (n : ℕ) (o : Option ℕ) → ((m : ℕ) → o ≡ Some m → EndsAt bs m) → option_map suc o ≡ Some n → EndsAt (b ∷ bs) n
behind b bs n o h e =
    let p = counted o n e in
    let q = h p.0 p.1 in
    rw p.2 (omega (arith, q.0), q.1)

at_other : (t : Bool) (b : ℕ) (bs : List ℕ) (n : ℕ) (o : Option ℕ) → ((m : ℕ) → o ≡ Some m → EndsAt bs m) → cond t None (option_map suc o) ≡ Some n → EndsAt (b ∷ bs) n
at_other true b bs n o h e = absurd cc
at_other false b bs n o h e = behind b bs n o h e

at_byte : (t s : Bool) (b : ℕ) (bs : List ℕ) (n : ℕ) (o : Option ℕ) → eqb b 34 ≡ t → ((m : ℕ) → o ≡ Some m → EndsAt bs m) → cond t (Some 0) (cond s None (option_map suc o)) ≡ Some n → EndsAt (b ∷ bs) n
at_byte true s b bs n o t h e = let z : 0 ≡ n = cc in subst (EndsAt (b ∷ bs)) z (omega arith, eqb-true b 34 t)
at_byte false s b bs n o t h e = at_other s b bs n o h e

-- a value ends before a quote
pub value_ends : (f : Bool) (bs : List ℕ) (n : ℕ) → value_len f bs ≡ Some n → EndsAt bs n
value_ends true [] n e = absurd cc
value_ends false [] n e = absurd cc
value_ends true (b ∷ bs) n e = behind b bs n (value_len false bs) (value_ends false bs) e
value_ends false (b ∷ bs) n e = at_byte (eqb b 34) (eqb b 93) b bs n (value_len (escapes b bs) bs) refl (value_ends (escapes b bs) bs) e

sd_ascii : (b : ℕ) → is_sd_byte b ≡ true → b < 128
sd_ascii b h = grind arith

-- the last byte of a name is ASCII
pub name_ends : (bs : List ℕ) → 0 < prefix_len is_sd_byte bs → get_or bs (prefix_len is_sd_byte bs - 1) 0 < 128
name_ends bs h = sd_ascii (get_or bs (prefix_len is_sd_byte bs - 1) 0) (prefix_len_passes is_sd_byte bs (prefix_len is_sd_byte bs - 1) 0 (omega arith))

further : (o : Option ℕ) (i : ℕ) → option_map (λ (n : ℕ). i + n) (option_map suc o) ≡ option_map (λ (n : ℕ). i + 1 + n) o
further None i = refl
further (Some n) i = let e : i + suc n ≡ i + 1 + n = omega arith in ap (λ (m : ℕ). Some m) e

goes : (bytes : List ℕ) (i : ℕ) (before next : Bool) → value_len false bytes ≡ option_map (λ (n : ℕ). i + n) (value_len before (drop i bytes))
    → value_len before (drop i bytes) ≡ option_map suc (value_len next (drop (i + 1) bytes)) → value_len false bytes ≡ option_map (λ (n : ℕ). i + 1 + n) (value_len next (drop (i + 1) bytes))
goes bytes i before next inv step = inv ∙ ap (option_map (λ (n : ℕ). i + n)) step ∙ further (value_len next (drop (i + 1) bytes)) i

pub front : (bytes : List ℕ) (i : ℕ) → i < length bytes → drop i bytes ≡ get_or bytes i 0 ∷ drop (i + 1) bytes
front bytes i lt = rw add-one (drop-cons bytes i 0 lt)

pub len_behind_escape : (bytes : List ℕ) (i : ℕ) (before next : Bool) → i < length bytes → value_len false bytes ≡ option_map (λ (n : ℕ). i + n) (value_len before (drop i bytes)) → before ≡ true → next ≡ false
    → value_len false bytes ≡ option_map (λ (n : ℕ). i + 1 + n) (value_len next (drop (i + 1) bytes))
len_behind_escape bytes i before next lt inv b e =
    goes bytes i before next inv (ap (λ (f : Bool). value_len f (drop i bytes)) b ∙ ap (value_len true) (front bytes i lt) ∙ ap (λ (f : Bool). option_map suc (value_len f (drop (i + 1) bytes))) (sym e))

other_step : (b : ℕ) (bs : List ℕ) → eqb b 34 ≡ false → eqb b 93 ≡ false → value_len false (b ∷ bs) ≡ option_map suc (value_len (escapes b bs) bs)
other_step b bs q r = rw (q, r) refl

pub len_behind_other : (bytes : List ℕ) (i : ℕ) (before next : Bool) → i < length bytes → value_len false bytes ≡ option_map (λ (n : ℕ). i + n) (value_len before (drop i bytes)) → before ≡ false
    → (get_or bytes i 0 ≡ 34 → ⊥) → (get_or bytes i 0 ≡ 93 → ⊥) → next ≡ escapes (get_or bytes i 0) (drop (i + 1) bytes)
    → value_len false bytes ≡ option_map (λ (n : ℕ). i + 1 + n) (value_len next (drop (i + 1) bytes))
len_behind_other bytes i before next lt inv b q r e =
    let quote : eqb (get_or bytes i 0) 34 ≡ false = grind arith in
    let close : eqb (get_or bytes i 0) 93 ≡ false = grind arith in
    goes bytes i before next inv (ap (λ (f : Bool). value_len f (drop i bytes)) b ∙ ap (value_len false) (front bytes i lt)
    ∙ other_step (get_or bytes i 0) (drop (i + 1) bytes) quote close ∙ ap (λ (f : Bool). option_map suc (value_len f (drop (i + 1) bytes))) (sym e))

run_step : (t : Bool) (b : ℕ) (bs : List ℕ) → eqb b 92 ≡ t
    → (position_or_len (λ (x : ℕ). eqb x 92) bs < length bs → unescaped false bs ≡ before_first (λ (x : ℕ). eqb x 92) bs ++ unescaped false (92 ∷ after_first (λ (x : ℕ). eqb x 92) bs))
    → position_or_len (λ (x : ℕ). eqb x 92) (b ∷ bs) < length (b ∷ bs)
    → unescaped false (b ∷ bs) ≡ before_first (λ (x : ℕ). eqb x 92) (b ∷ bs) ++ unescaped false (92 ∷ after_first (λ (x : ℕ). eqb x 92) (b ∷ bs))
run_step true b bs e h lt =
    let is : b ≡ 92 = eqb-true b 92 e in
    let none : position_or_len (λ (x : ℕ). eqb x 92) (b ∷ bs) ≡ 0 = rw e refl in
    rw (none, is) refl
run_step false b bs e h lt =
    let one : position_or_len (λ (x : ℕ). eqb x 92) (b ∷ bs) ≡ suc (position_or_len (λ (x : ℕ). eqb x 92) bs) = rw e (omega arith) in
    let less : position_or_len (λ (x : ℕ). eqb x 92) bs < length bs = omega (arith, one, lt) in
    let plain : unescaped false (b ∷ bs) ≡ b ∷ unescaped false bs = rw e refl in
    let next : suc (position_or_len (λ (x : ℕ). eqb x 92) bs) + 1 ≡ suc (position_or_len (λ (x : ℕ). eqb x 92) bs + 1) = omega arith in
    plain ∙ ap (λ (x : List ℕ). b ∷ x) (h less) ∙ sym (rw (one, next) refl)

-- what stands before the first backslash stands for itself
pub plain_run : (bs : List ℕ) → position_or_len (λ (x : ℕ). eqb x 92) bs < length bs
    → unescaped false bs ≡ before_first (λ (x : ℕ). eqb x 92) bs ++ unescaped false (92 ∷ after_first (λ (x : ℕ). eqb x 92) bs)
plain_run [] lt = absurd (omega arith)
plain_run (b ∷ bs) lt = run_step (eqb b 92) b bs refl (plain_run bs) lt

all_step : (t : Bool) (b : ℕ) (bs : List ℕ) → eqb b 92 ≡ t → (position_or_len (λ (x : ℕ). eqb x 92) bs ≡ length bs → unescaped false bs ≡ bs)
    → position_or_len (λ (x : ℕ). eqb x 92) (b ∷ bs) ≡ length (b ∷ bs) → unescaped false (b ∷ bs) ≡ b ∷ bs
all_step true b bs e h all =
    let none : position_or_len (λ (x : ℕ). eqb x 92) (b ∷ bs) ≡ 0 = rw e refl in
    absurd (omega (arith, none, all))
all_step false b bs e h all =
    let one : position_or_len (λ (x : ℕ). eqb x 92) (b ∷ bs) ≡ suc (position_or_len (λ (x : ℕ). eqb x 92) bs) = rw e (omega arith) in
    let rest : position_or_len (λ (x : ℕ). eqb x 92) bs ≡ length bs = omega (arith, one, all) in
    let plain : unescaped false (b ∷ bs) ≡ b ∷ unescaped false bs = rw e refl in
    plain ∙ ap (λ (x : List ℕ). b ∷ x) (h rest)

pub plain_all : (bs : List ℕ) → position_or_len (λ (x : ℕ). eqb x 92) bs ≡ length bs → unescaped false bs ≡ bs
plain_all [] all = refl
plain_all (b ∷ bs) all = all_step (eqb b 92) b bs refl (plain_all bs) all

pub special_behind : (bs : List ℕ) → is_special (get_or bs 0 0) ≡ true → unescaped false (92 ∷ bs) ≡ take 1 bs ++ unescaped false (drop 1 bs)
special_behind [] h = absurd cc
special_behind (b ∷ bs) h = rw h refl

pub other_behind : (bs : List ℕ) → is_special (get_or bs 0 0) ≡ false → unescaped false (92 ∷ bs) ≡ 92 ∷ unescaped false bs
other_behind bs h = rw h refl

some_is : (x y : List ℕ × List ℕ) → Some x ≡ Some y → x ≡ y
some_is x y e = cc

split_tells : (text a b : List ℕ) (t : Bool) → nat_lt (position_or_len (λ (x : ℕ). eqb x 92) text) (length text) ≡ t
    → cond {A = Option (List ℕ × List ℕ)} t (Some (before_first (λ (x : ℕ). eqb x 92) text, after_first (λ (x : ℕ). eqb x 92) text)) None ≡ Some (a, b)
    → ((position_or_len (λ (x : ℕ). eqb x 92) text < length text) × (before_first (λ (x : ℕ). eqb x 92) text ≡ a) × (after_first (λ (x : ℕ). eqb x 92) text ≡ b)) ⊎ ⊥
split_tells text a b true t e =
    let lt : position_or_len (λ (x : ℕ). eqb x 92) text < length text = grind arith in
    let same : (before_first (λ (x : ℕ). eqb x 92) text, after_first (λ (x : ℕ). eqb x 92) text) ≡ (a, b) = some_is (before_first (λ (x : ℕ). eqb x 92) text, after_first (λ (x : ℕ). eqb x 92) text) (a, b) e in
    inl (lt, ap (λ (p : List ℕ × List ℕ). p.0) same, ap (λ (p : List ℕ × List ℕ). p.1) same)
split_tells text a b false t e = absurd cc

none_tells : (text : List ℕ) (t : Bool) → nat_lt (position_or_len (λ (x : ℕ). eqb x 92) text) (length text) ≡ t
    → cond {A = Option (List ℕ × List ℕ)} t (Some (before_first (λ (x : ℕ). eqb x 92) text, after_first (λ (x : ℕ). eqb x 92) text)) None ≡ None → position_or_len (λ (x : ℕ). eqb x 92) text ≡ length text
none_tells text true t e = absurd cc
none_tells text false t e =
    let most = prefix_len-le-length (λ (x : ℕ). not (eqb x 92)) text in
    let least : length text ≤ position_or_len (λ (x : ℕ). eqb x 92) text = grind arith in
    omega arith

pub cut_at_backslash : (text : List ℕ) (a b : List ℕ) → split 92 text ≡ Some (a, b) → (unescaped false text ≡ a ++ unescaped false (92 ∷ b)) × (length b < length text)
cut_at_backslash text a b e =
    let n = position_or_len (λ (x : ℕ). eqb x 92) text in
    elim (split_tells text a b (nat_lt n (length text)) refl e) [
      | inl h ↦ (plain_run text h.0 ∙ ap₂ (λ (x y : List ℕ). x ++ unescaped false (92 ∷ y)) h.1 h.2, subst (λ (x : List ℕ). length x < length text) h.2 (omega (arith, length-drop (n + 1) text, h.0)))
      | inr h ↦ absurd h
    ]

pub no_backslash : (text : List ℕ) → split 92 text ≡ None → unescaped false text ≡ text
no_backslash text e = plain_all text (none_tells text (nat_lt (position_or_len (λ (x : ℕ). eqb x 92) text) (length text)) refl e)

-- behind a byte order mark
bom_front : (a b d : ℕ) (rest : List ℕ) → IsUtf8 (a ∷ b ∷ d ∷ rest) → a ≡ 239 → b ≡ 187 → d ≡ 191 → IsCharBoundary (a ∷ b ∷ d ∷ rest) 3
unfolding lib.Utf8.encode
bom_front a b d rest utf8 x y z =
    let all : a ∷ b ∷ d ∷ rest ≡ 239 ∷ 187 ∷ 191 ∷ rest = rw (x, y, z) refl in
    IsCharBoundary-past_char (a ∷ b ∷ d ∷ rest) rest 0 65279 (omega arith) utf8 all

pub bom_boundary : (bs : List ℕ) → IsUtf8 bs → has_bom bs ≡ true → IsCharBoundary bs 3
bom_boundary [] utf8 h = absurd cc
bom_boundary (a ∷ []) utf8 h = absurd (grind arith)
bom_boundary (a ∷ b ∷ []) utf8 h = absurd (grind arith)
bom_boundary (a ∷ b ∷ d ∷ rest) utf8 h =
    let last = and_both (eqb a 239 && eqb b 187) (eqb d 191) h in
    let first = and_both (eqb a 239) (eqb b 187) last.0 in
    bom_front a b d rest utf8 (eqb-true a 239 first.0) (eqb-true b 187 first.1) (eqb-true d 191 last.1)
