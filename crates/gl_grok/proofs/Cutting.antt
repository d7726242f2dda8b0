-- Cutting a text into its pieces.
use Rattle.std.proofs.Common.{◌≡◌, ◌≢◌, ℕ, zero, suc, ◌+◌, ◌<◌, ◌≤◌, ◌==◌, Bool, true, false, cond, ◌&&◌, List, [], ◌∷◌, ◌++◌, map, length, take, drop, Option, Some, None, refl, sym, ap, subst, ◌∙◌, arith, length-drop, ⊎_elim}
use Rattle.std.proofs.lemmas.Bool.{cases_Bool, cond-true, cond-false, eqb-true, ltb-true, ltb-false, false_from_ne_true, or_parts, and_parts, and_left, and_right, cases_lt}
use Rattle.std.proofs.lemmas.List.{length-take-le}
use Rattle.std.specs.Str.{bytes_eq}
use Rattle.std.specs.Prelude.{⊤, ◌-◌, nat_lt, not, codes}
use Rattle.std.specs.List.{list_any, list_all, position_or_len, before_first, after_first}
use Rattle.gl_fields.specs.Fields.{is_field_name, is_name_byte as is_field_byte}
use Rattle.gl_grok.specs.Pieces.{Piece, byte, reference, split, named, reference_in, before_rest, closed, behind_percent, reference_at, first_piece, pieces_within, pieces, is_name_byte, is_pattern_name}

either : {X : Type 0} (P : X → Type 0) (t : Bool) (x y : X) → P x → P y → P (cond t x y)
either P true x y p q = p
either P false x y p q = q

-- what stands behind a reference is no longer than what it stands in

abbrev pub Within : {X : Type 0} → ℕ → Option (X × List ℕ) → Type 0
Within n None = ⊤
Within n (Some x) = length x.1 ≤ n

split-within : (c : ℕ) (text : List ℕ) → Within (length text) (split c text)
split-within c text = either (Within (length text)) (nat_lt (position_or_len (λ b. b == c) text) (length text)) (Some (before_first (λ b. b == c) text, after_first (λ b. b == c) text)) None (omega (arith, length-drop (position_or_len (λ b. b == c) text + 1) text)) tt

before_rest-within : (n : ℕ) (o : Option Piece) (rest : List ℕ) → length rest ≤ n → Within n (before_rest o rest)
before_rest-within n None rest h = tt
before_rest-within n (Some piece) rest h = h

closed-within : (n : ℕ) (o : Option (List ℕ × List ℕ)) → Within n o → Within n (closed o)
closed-within n None h = tt
closed-within n (Some (inside, rest)) h = before_rest-within n (reference_in inside) rest h

more_within : {X : Type 0} (n : ℕ) (o : Option (X × List ℕ)) → Within n o → Within (suc n) o
more_within n None h = tt
more_within n (Some x) h = omega arith

behind-within : (text : List ℕ) → Within (length text) (behind_percent text)
behind-within [] = tt
behind-within (b ∷ text) = either (Within (suc (length text))) (b == 123) (closed (split 125 text)) None (more_within (length text) (closed (split 125 text)) (closed-within (length text) (split 125 text) (split-within 125 text))) tt

pub at-within : (b : ℕ) (text : List ℕ) → Within (length text) (reference_at b text)
at-within b text = either (Within (length text)) (b == 37) (behind_percent text) None (behind-within text) tt

-- any number of pieces that is enough gives the same

same_first : (n m : ℕ) (b : ℕ) (text : List ℕ) (o : Option (Piece × List ℕ)) → Within (length text) o
    → ((rest : List ℕ) → length rest ≤ length text → pieces_within n rest ≡ pieces_within m rest)
    → first_piece (pieces_within n) b text o ≡ first_piece (pieces_within m) b text o
same_first n m b text None w others = ap (λ (ps : List Piece). byte b ∷ ps) (others text (omega arith))
same_first n m b text (Some (piece, rest)) w others = ap (λ (ps : List Piece). piece ∷ ps) (others rest w)

same : (n m : ℕ) (text : List ℕ) → length text ≤ n → length text ≤ m → pieces_within n text ≡ pieces_within m text
same zero zero text h g = refl
same zero (suc m) [] h g = refl
same zero (suc m) (b ∷ text) h g = absurd (omega arith)
same (suc n) zero [] h g = refl
same (suc n) zero (b ∷ text) h g = absurd (omega arith)
same (suc n) (suc m) [] h g = refl
same (suc n) (suc m) (b ∷ text) h g =
    same_first n m b text (reference_at b text) (at-within b text) (λ rest le. same n m rest (omega arith) (omega arith))

pub pieces-first : (b : ℕ) (text : List ℕ) → pieces (b ∷ text) ≡ first_piece pieces b text (reference_at b text)
pieces-first b text = by (reference_at b text) (at-within b text)
  where
    by : (o : Option (Piece × List ℕ)) → Within (length text) o → first_piece (pieces_within (length text)) b text o ≡ first_piece pieces b text o
    by None w = refl
    by (Some (piece, rest)) w = ap (λ (ps : List Piece). piece ∷ ps) (same (length text) (length rest) rest w (omega arith))

-- the text before its first `%`, and from there on

abbrev percent : ℕ → Bool
percent b = b == 37

first_plain : (b : ℕ) (text : List ℕ) → (b == 37) ≡ false → pieces (b ∷ text) ≡ byte b ∷ pieces text
first_plain b text e = pieces-first b text ∙ ap (first_piece pieces b text) (cond-false (b == 37) (behind_percent text) None e)

first_percent : (b : ℕ) (text : List ℕ) → (b == 37) ≡ true → pieces (b ∷ text) ≡ first_piece pieces 37 text (behind_percent text)
first_percent b text e = pieces-first b text ∙ ap (first_piece pieces b text) (cond-true (b == 37) (behind_percent text) None e) ∙ ap (λ (n : ℕ). first_piece pieces n text (behind_percent text)) (eqb-true b 37 e)

position-here : (b : ℕ) (text : List ℕ) → percent b ≡ true → position_or_len percent (b ∷ text) ≡ 0
position-here b text e = rw e refl

position-later : (b : ℕ) (text : List ℕ) → percent b ≡ false → position_or_len percent (b ∷ text) ≡ suc (position_or_len percent text)
position-later b text e = rw e (omega arith)

pub no_percent : (text : List ℕ) → length text ≤ position_or_len percent text → pieces text ≡ map (λ b. byte b) text
no_percent [] h = refl
no_percent (b ∷ text) h = ⊎_elim
    (λ e. let p = position-here b text e in absurd (omega arith))
    (λ e. let p = position-later b text e in first_plain b text e ∙ ap (λ (ps : List Piece). byte b ∷ ps) (no_percent text (omega arith)))
    (cases_Bool (percent b))

abbrev FromPercent : List ℕ → ℕ → Type 0
FromPercent text at = pieces text ≡ map (λ b. byte b) (take at text) ++ first_piece pieces 37 (drop (at + 1) text) (behind_percent (drop (at + 1) text))

from_percent : (text : List ℕ) → position_or_len percent text < length text → FromPercent text (position_or_len percent text)
from_percent [] h = absurd (omega arith)
from_percent (b ∷ text) h = ⊎_elim
    (λ e. subst (FromPercent (b ∷ text)) (sym (position-here b text e)) (first_percent b text e))
    (λ e. let p = position-later b text e in
    subst (FromPercent (b ∷ text)) (sym p)
    (let n = position_or_len percent text in
    let more : suc n + 1 ≡ suc (n + 1) = omega arith in
    first_plain b text e ∙ ap (λ (ps : List Piece). byte b ∷ ps) (from_percent text (omega arith))
    ∙ ap (λ (k : ℕ). byte b ∷ (map (λ c. byte c) (take n text) ++ first_piece pieces 37 (drop k (b ∷ text)) (behind_percent (drop k (b ∷ text))))) (sym more)))
    (cases_Bool (percent b))

-- by what `split` answers

none_by : (t : Bool) (x : List ℕ × List ℕ) → None ≡ cond t (Some x) None → t ≡ false
none_by true x e = cc
none_by false x e = refl

some_by : (t : Bool) (x y : List ℕ × List ℕ) → Some x ≡ cond t (Some y) None → (t ≡ true) × (x ≡ y)
some_by true x y e = (refl, cc)
some_by false x y e = absurd cc

abbrev around : List ℕ → List ℕ × List ℕ
around text = (before_first percent text, after_first percent text)

pub none_split : (text : List ℕ) → None ≡ split 37 text → pieces text ≡ map (λ b. byte b) text
none_split text e = no_percent text (ltb-false (position_or_len percent text) (length text) (none_by (nat_lt (position_or_len percent text) (length text)) (around text) e))

some_split : (text : List ℕ) (x : List ℕ × List ℕ) → Some x ≡ split 37 text → (position_or_len percent text < length text) × (x ≡ around text)
some_split text x e =
    let found = some_by (nat_lt (position_or_len percent text) (length text)) x (around text) e in
    (ltb-true (position_or_len percent text) (length text) found.0, found.1)

pub split_pieces : (text before behind : List ℕ) → Some (before, behind) ≡ split 37 text → pieces text ≡ map (λ b. byte b) before ++ first_piece pieces 37 behind (behind_percent behind)
split_pieces text before behind e =
    let parts = some_split text (before, behind) e in
    from_percent text parts.0 ∙ ap (λ (x : List ℕ × List ℕ). map (λ b. byte b) x.0 ++ first_piece pieces 37 x.1 (behind_percent x.1)) (sym parts.1)

pub split_shorter : (text before behind : List ℕ) → Some (before, behind) ≡ split 37 text → length behind < length text
split_shorter text before behind e =
    let parts = some_split text (before, behind) e in
    let same : behind ≡ after_first percent text = ap (λ (x : List ℕ × List ℕ). x.1) parts.1 in
    omega (arith, parts.0, ap length same, length-drop (position_or_len percent text + 1) text)

pub behind_shorter : (text : List ℕ) (piece : Piece) (rest : List ℕ) → Some (piece, rest) ≡ behind_percent text → length rest ≤ length text
behind_shorter text piece rest e = subst (Within (length text)) (sym e) (behind-within text)

-- where no reference begins

pub no_brace : (text : List ℕ) → ((rest : List ℕ) → text ≢ 123 ∷ rest) → None ≡ behind_percent text
no_brace [] h = refl
no_brace (b ∷ text) h = ⊎_elim
    (λ e. absurd (h text (ap (λ (c : ℕ). c ∷ text) (eqb-true b 123 e))))
    (λ e. sym (cond-false (b == 123) (closed (split 125 text)) None e))
    (cases_Bool (b == 123))

-- the first that passes is not among so many that don't
not_before : (p : ℕ → Bool) (n : ℕ) (text : List ℕ) → list_any p (take n text) ≡ false → position_or_len p text < length text → n ≤ position_or_len p text
not_before p zero text none lt = omega arith
not_before p (suc n) [] none lt = absurd (omega arith)
not_before p (suc n) (b ∷ text) none lt =
    let parts = or_parts (p b) (list_any p (take n text)) none in
    let later : position_or_len p (b ∷ text) ≡ suc (position_or_len p text) = rw parts.0 (omega arith) in
    let more : n ≤ position_or_len p text = not_before p n text parts.1 (omega arith) in
    omega arith

long_name : (name : List ℕ) → 65 ≤ length name → is_pattern_name name ≡ false
long_name name h = false_from_ne_true (is_pattern_name name) (λ e.
    let parts = and_parts (nat_lt 0 (length name) && nat_lt (length name) 65) (list_all is_name_byte name) e in
    let short = and_parts (nat_lt 0 (length name)) (nat_lt (length name) 65) parts.0 in
    absurd (omega (arith, ltb-true (length name) 65 short.1)))

long_field : (field : List ℕ) → 256 ≤ length field → is_field_name field ≡ false
long_field field h = false_from_ne_true (is_field_name field) (λ e.
    let named = and_parts (nat_lt 0 (length field) && nat_lt (length field) 256 && list_all is_field_byte field) (not (bytes_eq field (codes "_id"))) e in
    let parts = and_parts (nat_lt 0 (length field) && nat_lt (length field) 256) (list_all is_field_byte field) named.0 in
    let short = and_parts (nat_lt 0 (length field)) (nat_lt (length field) 256) parts.0 in
    absurd (omega (arith, ltb-true (length field) 256 short.1)))

no_name : (t : Bool) (piece : Piece) → t ≡ false → cond t (Some piece) None ≡ None
no_name t piece e = cond-false t (Some piece) None e

-- a name, a colon and a field have no more bytes than this
long_inside : (text : List ℕ) → 321 ≤ length text → reference_in text ≡ None
long_inside text h = ⊎_elim
    (λ t.
    let at = position_or_len (λ b. b == 58) text in
    let lt : at < length text = ltb-true at (length text) t in
    let name = before_first (λ b. b == 58) text in
    let field = after_first (λ b. b == 58) text in
    let named_len : length name ≡ at = length-take-le at text (omega arith) in
    let field_len : length field ≡ length text - (at + 1) = length-drop (at + 1) text in
    let not_both : (is_pattern_name name && is_field_name field) ≡ false = ⊎_elim
    (λ short. and_right (is_pattern_name name) (is_field_name field) (long_field field (omega arith)))
    (λ long. and_left (is_pattern_name name) (is_field_name field) (long_name name (omega arith)))
    (cases_lt at 65) in
    ap (named text) (cond-true {A = Option (List ℕ × List ℕ)} (nat_lt at (length text)) (Some (name, field)) None t)
    ∙ no_name (is_pattern_name name && is_field_name field) (reference name (Some field)) not_both)
    (λ t.
    let at = position_or_len (λ b. b == 58) text in
    let name = before_first (λ b. b == 58) text in
    let field = after_first (λ b. b == 58) text in
    ap (named text) (cond-false {A = Option (List ℕ × List ℕ)} (nat_lt at (length text)) (Some (name, field)) None t)
    ∙ no_name (is_pattern_name text) (reference text None) (long_name text (omega arith)))
    (cases_Bool (nat_lt (position_or_len (λ b. b == 58) text) (length text)))

pub closes_late : (text : List ℕ) → list_any (λ b. b == 125) (take 321 text) ≡ false → None ≡ closed (split 125 text)
closes_late text none = ⊎_elim
    (λ t.
    let at = position_or_len (λ b. b == 125) text in
    let lt : at < length text = ltb-true at (length text) t in
    let inside = before_first (λ b. b == 125) text in
    let rest = after_first (λ b. b == 125) text in
    let inside_len : length inside ≡ at = length-take-le at text (omega arith) in
    let late = not_before (λ b. b == 125) 321 text none lt in
    sym (ap closed (cond-true {A = Option (List ℕ × List ℕ)} (nat_lt at (length text)) (Some (inside, rest)) None t)
    ∙ ap (λ (o : Option Piece). before_rest o rest) (long_inside inside (omega arith))))
    (λ t.
    let at = position_or_len (λ b. b == 125) text in
    let inside = before_first (λ b. b == 125) text in
    let rest = after_first (λ b. b == 125) text in
    sym (ap closed (cond-false {A = Option (List ℕ × List ℕ)} (nat_lt at (length text)) (Some (inside, rest)) None t)))
    (cases_Bool (nat_lt (position_or_len (λ b. b == 125) text) (length text)))
