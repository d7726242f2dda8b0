-- Names and values of structured data: what is read is spelled so, and what is spelled so is read.
use Rattle.std.proofs.Common.{◌≡◌, ℕ, zero, suc, ◌+◌, ◌<◌, Bool, true, false, ◌&&◌, cond, eqb, nat_lt, nat_le, List, [], ◌∷◌, ◌++◌, length, get_or, take, drop, refl, sym, ap, ap₂, subst, ◌∙◌, arith}
use Rattle.std.specs.Prelude.{Option, Some, None, option_map}
use Rattle.std.specs.List.{prefix_len, list_all}
use Rattle.std.specs.Int.{is_in_range}
use Rattle.std.proofs.lemmas.Bool.{eqb-true}
use Rattle.std.proofs.lemmas.List.{take-append-drop, append_assoc, length-take}
use Rattle.std.proofs.lemmas.List.Folds.{length-prefix_len}
use Rattle.std.proofs.Math.Seq.{take-append_seam, drop-append_seam, drop-append-add}
use Rattle.gl_syslogtext.specs.Sections.{◌>>=◌}
use Rattle.gl_syslogtext.specs.Data.{is_sd_byte, is_special, escapes, sd_name_at, value_len, unescaped, value_to, value_at, param_at}
use Rattle.gl_syslogtext.specs.Rfc5424.{is_sd_name, IsSpelled, IsParam}
use Rattle.std.proofs.lemmas.Bool.{and_parts as and_both, and_from as and_holds}
use Rattle.gl_syslogtext.proofs.Values.{counted, value_ends, front}
use Rattle.gl_syslogtext.proofs.Peel.{bind_ok, some_is, guard_ok, prefix_passes, prefix_seam}

pub sd_name_sound : (text : List ℕ) (x : List ℕ × List ℕ) → sd_name_at text ≡ Some x → (text ≡ x.0 ++ x.1) × (is_sd_name x.0 ≡ true)
unfolding sd_name_at
sd_name_sound text x h =
    let n = prefix_len is_sd_byte text in
    let g = guard_ok (is_in_range 1 32 n) (take n text, drop n text) x h in
    let len : length (take n text) ≡ n = length-prefix_len is_sd_byte text in
    let some : nat_lt 0 (length (take n text)) ≡ true = grind arith in
    let few : nat_le (length (take n text)) 32 ≡ true = grind arith in
    let name : is_sd_name (take n text) ≡ true = and_holds (nat_lt 0 (length (take n text)) && nat_le (length (take n text)) 32) (list_all is_sd_byte (take n text))
    (and_holds (nat_lt 0 (length (take n text))) (nat_le (length (take n text)) 32) some few) (prefix_passes is_sd_byte text) in
    (sym (take-append-drop n text) ∙ ap (λ (y : List ℕ × List ℕ). y.0 ++ y.1) g.1, subst (λ (y : List ℕ × List ℕ). is_sd_name y.0 ≡ true) g.1 name)

pub sd_name_again : (name : List ℕ) (y : ℕ) (ys : List ℕ) → is_sd_name name ≡ true → is_sd_byte y ≡ false → sd_name_at (name ++ y ∷ ys) ≡ Some (name, y ∷ ys)
unfolding sd_name_at
sd_name_again name y ys is stop =
    let both = and_both (nat_lt 0 (length name) && nat_le (length name) 32) (list_all is_sd_byte name) is in
    let size = and_both (nat_lt 0 (length name)) (nat_le (length name) 32) both.0 in
    let range : is_in_range 1 32 (length name) ≡ true = grind arith in
    let n : prefix_len is_sd_byte (name ++ y ∷ ys) ≡ length name = prefix_seam is_sd_byte name y ys both.1 stop in
    rw (n, range, take-append_seam name (y ∷ ys), drop-append_seam name (y ∷ ys)) refl

uncount : (o : Option ℕ) (n : ℕ) → option_map suc o ≡ Some (suc n) → o ≡ Some n
uncount None n h = absurd cc
uncount (Some m) n h = cc

-- the byte at the front of a value stays, wherever what follows its quote is cut off
head_same : (f : Bool) (bs : List ℕ) (m : ℕ) → value_len f bs ≡ Some m → get_or (take m bs ++ 34 ∷ []) 0 0 ≡ get_or bs 0 0
head_same f bs zero h = sym (value_ends f bs 0 h).1
head_same f [] (suc m) h = absurd (omega (arith, (value_ends f [] (suc m) h).0))
head_same f (b ∷ bs) (suc m) h = refl

escapes_same : (b : ℕ) (xs ys : List ℕ) → get_or xs 0 0 ≡ get_or ys 0 0 → escapes b xs ≡ escapes b ys
escapes_same b xs ys h = ap (λ (x : ℕ). eqb b 92 && is_special x) h

pub other_byte : (b : ℕ) (bs : List ℕ) → eqb b 34 ≡ false → eqb b 93 ≡ false → value_len false (b ∷ bs) ≡ option_map suc (value_len (escapes b bs) bs)
other_byte b bs q r = rw (q, r) refl

front_step : (q r : Bool) (b : ℕ) (bs : List ℕ) (n : ℕ) → eqb b 34 ≡ q → eqb b 93 ≡ r → ((m : ℕ) → value_len (escapes b bs) bs ≡ Some m → value_len (escapes b bs) (take m bs ++ 34 ∷ []) ≡ Some m)
    → cond q (Some 0) (cond r None (option_map suc (value_len (escapes b bs) bs))) ≡ Some n → value_len false (take n (b ∷ bs) ++ 34 ∷ []) ≡ Some n
front_step true r b bs n q e ih h = let z : 0 ≡ n = some_is 0 n h in subst (λ (m : ℕ). value_len false (take m (b ∷ bs) ++ 34 ∷ []) ≡ Some m) z refl
front_step false true b bs n q e ih h = absurd cc
front_step false false b bs n q e ih h =
    let p = counted (value_len (escapes b bs) bs) n h in
    let m = p.0 in
    let same : escapes b (take m bs ++ 34 ∷ []) ≡ escapes b bs = escapes_same b (take m bs ++ 34 ∷ []) bs (head_same (escapes b bs) bs m p.1) in
    let step : value_len false (b ∷ (take m bs ++ 34 ∷ [])) ≡ option_map suc (value_len (escapes b bs) (take m bs ++ 34 ∷ [])) =
    other_byte b (take m bs ++ 34 ∷ []) q e ∙ ap (λ (f : Bool). option_map suc (value_len f (take m bs ++ 34 ∷ []))) same in
    subst (λ (k : ℕ). value_len false (take k (b ∷ bs) ++ 34 ∷ []) ≡ Some k) (sym p.2) (step ∙ ap (option_map suc) (ih m p.1))

pub value_front : (f : Bool) (t : List ℕ) (n : ℕ) → value_len f t ≡ Some n → value_len f (take n t ++ 34 ∷ []) ≡ Some n
value_front true [] n h = absurd cc
value_front false [] n h = absurd cc
value_front true (b ∷ bs) n h =
    let p = counted (value_len false bs) n h in
    subst (λ (k : ℕ). value_len true (take k (b ∷ bs) ++ 34 ∷ []) ≡ Some k) (sym p.2) (ap (option_map suc) (value_front false bs p.0 p.1))
value_front false (b ∷ bs) n h = front_step (eqb b 34) (eqb b 93) b bs n refl refl (value_front (escapes b bs) bs) h

seam_same : (bs rest : List ℕ) → get_or (bs ++ 34 ∷ rest) 0 0 ≡ get_or (bs ++ 34 ∷ []) 0 0
seam_same [] rest = refl
seam_same (b ∷ bs) rest = refl

more_step : (q r : Bool) (b : ℕ) (bs rest : List ℕ) → eqb b 34 ≡ q → eqb b 93 ≡ r
    → (value_len (escapes b (bs ++ 34 ∷ [])) (bs ++ 34 ∷ []) ≡ Some (length bs) → value_len (escapes b (bs ++ 34 ∷ [])) (bs ++ 34 ∷ rest) ≡ Some (length bs))
    → cond q (Some 0) (cond r None (option_map suc (value_len (escapes b (bs ++ 34 ∷ [])) (bs ++ 34 ∷ [])))) ≡ Some (length (b ∷ bs)) → value_len false (b ∷ (bs ++ 34 ∷ rest)) ≡ Some (length (b ∷ bs))
more_step true r b bs rest q e ih h = let z : 0 ≡ length (b ∷ bs) = some_is 0 (length (b ∷ bs)) h in absurd (omega arith)
more_step false true b bs rest q e ih h = absurd cc
more_step false false b bs rest q e ih h =
    let same : escapes b (bs ++ 34 ∷ rest) ≡ escapes b (bs ++ 34 ∷ []) = escapes_same b (bs ++ 34 ∷ rest) (bs ++ 34 ∷ []) (seam_same bs rest) in
    let inner : value_len (escapes b (bs ++ 34 ∷ [])) (bs ++ 34 ∷ []) ≡ Some (length bs) = uncount (value_len (escapes b (bs ++ 34 ∷ [])) (bs ++ 34 ∷ [])) (length bs) h in
    other_byte b (bs ++ 34 ∷ rest) q e ∙ ap (λ (f : Bool). option_map suc (value_len f (bs ++ 34 ∷ rest))) same ∙ ap (option_map suc) (ih inner)

pub value_more : (f : Bool) (s rest : List ℕ) → value_len f (s ++ 34 ∷ []) ≡ Some (length s) → value_len f (s ++ 34 ∷ rest) ≡ Some (length s)
value_more true [] rest h = absurd cc
value_more false [] rest h = refl
value_more true (b ∷ bs) rest h = ap (option_map suc) (value_more false bs rest (uncount (value_len false (bs ++ 34 ∷ [])) (length bs) h))
value_more false (b ∷ bs) rest h = more_step (eqb b 34) (eqb b 93) b bs rest refl refl (value_more (escapes b (bs ++ 34 ∷ [])) bs rest) h

pub front_is : (text : List ℕ) (c : ℕ) → get_or text 0 0 ≡ c → 0 < c → text ≡ c ∷ drop 1 text
front_is [] c h some = absurd (omega arith)
front_is (b ∷ bs) c h some = ap (λ (x : ℕ). x ∷ bs) h

equals_quote : (text : List ℕ) → (eqb (get_or text 0 0) 61 && eqb (get_or text 1 0) 34) ≡ true → text ≡ 61 ∷ 34 ∷ drop 2 text
equals_quote [] h = absurd cc
equals_quote (a ∷ []) h = absurd (grind arith)
equals_quote (a ∷ b ∷ rest) h =
    let both = and_both (eqb a 61) (eqb b 34) h in
    ap₂ (λ (x y : ℕ). x ∷ y ∷ rest) (eqb-true a 61 both.0) (eqb-true b 34 both.1)

pub if_some : {A : Type 0} (t : Bool) (o : Option A) (y : A) → cond t o None ≡ Some y → (t ≡ true) × (o ≡ Some y)
if_some true o y h = (refl, h)
if_some false o y h = absurd cc

-- a value, what spells it, and what follows its quote
value_sound : (o : Option ℕ) (text : List ℕ) (x : List ℕ × List ℕ) → value_len false text ≡ o → value_to o text ≡ Some x → (spelled : List ℕ) × (text ≡ spelled ++ 34 ∷ x.1) × IsSpelled spelled x.0
value_sound None text x e h = absurd cc
value_sound (Some n) text x e h =
    let same = some_is (unescaped false (take n text), drop (n + 1) text) x h in
    let ends = value_ends false text n e in
    let len : length (take n text) ≡ n = omega (arith, length-take n text, ends.0) in
    let next : drop n text ≡ 34 ∷ drop (n + 1) text = front text n ends.0 ∙ ap (λ (b : ℕ). b ∷ drop (n + 1) text) ends.1 in
    let whole : text ≡ take n text ++ 34 ∷ drop (n + 1) text = sym (take-append-drop n text) ∙ ap (λ (bs : List ℕ). take n text ++ bs) next in (
      take n text,
      whole ∙ ap (λ (y : List ℕ × List ℕ). take n text ++ 34 ∷ y.1) same,
      record { ends = value_front false text n e ∙ ap (λ (m : ℕ). Some m) (sym len); spells = ap (λ (y : List ℕ × List ℕ). y.0) same },
    )

param_seam : (name spelled rest : List ℕ) → (32 ∷ (name ++ 61 ∷ 34 ∷ (spelled ++ 34 ∷ []))) ++ rest ≡ 32 ∷ (name ++ 61 ∷ 34 ∷ (spelled ++ 34 ∷ rest))
param_seam name spelled rest =
    ap (λ (bs : List ℕ). 32 ∷ bs) (append_assoc name (61 ∷ 34 ∷ (spelled ++ 34 ∷ [])) rest ∙ ap (λ (bs : List ℕ). name ++ 61 ∷ 34 ∷ bs) (append_assoc spelled (34 ∷ []) rest))

value_of_name : List ℕ × List ℕ → Option (List ℕ × List ℕ)
value_of_name name = cond (eqb (get_or name.1 0 0) 61 && eqb (get_or name.1 1 0) 34) (value_at (drop 2 name.1)) None

pub param_sound : (text : List ℕ) (x : (List ℕ × List ℕ) × List ℕ) → get_or text 0 0 ≡ 32 → param_at text ≡ Some x → (front : List ℕ) × (text ≡ front ++ x.1) × IsParam front x.0
unfolding param_at value_of_name
param_sound text x first h =
    let f = bind_ok (sd_name_at (drop 1 text)) (λ (n : List ℕ × List ℕ). value_of_name n >>= λ v. Some ((n.0, v.0), v.1)) x h in
    let n = f.0 in
    let g = bind_ok (value_of_name n) (λ (v : List ℕ × List ℕ). Some ((n.0, v.0), v.1)) x f.2 in
    let t = if_some (eqb (get_or n.1 0 0) 61 && eqb (get_or n.1 1 0) 34) (value_at (drop 2 n.1)) g.0 g.1 in
    let v = value_sound (value_len false (drop 2 n.1)) (drop 2 n.1) g.0 refl t.1 in
    let name = sd_name_sound (drop 1 text) n f.1 in
    let same = some_is ((n.0, g.0.0), g.0.1) x g.2 in
    let sign : n.1 ≡ 61 ∷ 34 ∷ (v.0 ++ 34 ∷ g.0.1) = equals_quote n.1 t.0 ∙ ap (λ (bs : List ℕ). 61 ∷ 34 ∷ bs) v.1 in
    let whole : text ≡ 32 ∷ (n.0 ++ 61 ∷ 34 ∷ (v.0 ++ 34 ∷ g.0.1)) = front_is text 32 first (omega arith) ∙ ap (λ (bs : List ℕ). 32 ∷ bs) (name.0 ∙ ap (λ (bs : List ℕ). n.0 ++ bs) sign) in
    subst (λ (y : (List ℕ × List ℕ) × List ℕ). (front : List ℕ) × (text ≡ front ++ y.1) × IsParam front y.0) same
    (32 ∷ (n.0 ++ 61 ∷ 34 ∷ (v.0 ++ 34 ∷ [])), whole ∙ sym (param_seam n.0 v.0 g.0.1), (v.0, refl, name.1, v.2))

value_again : (spelled value rest : List ℕ) → IsSpelled spelled value → value_at (spelled ++ 34 ∷ rest) ≡ Some (value, rest)
value_again spelled value rest h =
    let len : value_len false (spelled ++ 34 ∷ rest) ≡ Some (length spelled) = value_more false spelled rest h.ends in
    let front : take (length spelled) (spelled ++ 34 ∷ rest) ≡ spelled = take-append_seam spelled (34 ∷ rest) in
    let back : drop (length spelled + 1) (spelled ++ 34 ∷ rest) ≡ rest = drop-append-add spelled (34 ∷ rest) 1 in
    ap (λ (o : Option ℕ). value_to o (spelled ++ 34 ∷ rest)) len ∙ ap₂ (λ (a b : List ℕ). Some (unescaped false a, b)) front back ∙ ap (λ (a : List ℕ). Some (a, rest)) h.spells

read_again : (name spelled value rest : List ℕ) → is_sd_name name ≡ true → IsSpelled spelled value → param_at (32 ∷ (name ++ 61 ∷ 34 ∷ (spelled ++ 34 ∷ rest))) ≡ Some ((name, value), rest)
unfolding param_at
read_again name spelled value rest is h =
    rw (sd_name_again name 61 (34 ∷ (spelled ++ 34 ∷ rest)) is refl, value_again spelled value rest h) refl

pub param_again : (front : List ℕ) (x : List ℕ × List ℕ) (rest : List ℕ) → IsParam front x → (param_at (front ++ rest) ≡ Some (x, rest)) × (get_or (front ++ rest) 0 0 ≡ 32) × (0 < length front)
param_again front (name, value) rest p =
    let seam : front ++ rest ≡ 32 ∷ (name ++ 61 ∷ 34 ∷ (p.0 ++ 34 ∷ rest)) = ap (λ (bs : List ℕ). bs ++ rest) p.1 ∙ param_seam name p.0 rest in
    (ap param_at seam ∙ read_again name p.0 value rest p.2 p.3, ap (λ (bs : List ℕ). get_or bs 0 0) seam, rw p.1 (omega arith))
