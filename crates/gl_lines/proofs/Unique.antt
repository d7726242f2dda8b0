-- A text has one framing.
use Rattle.std.proofs.Common.{◌≡◌, ◌⊎◌, inl, inr, ℕ, ◌+◌, ◌<◌, ◌≤◌, Bool, true, false, not, ◌&&◌, nat_lt, nat_le, ◌==◌, List, [], ◌∷◌, ◌++◌, length, refl, sym, ap, ap₂, subst, ◌∙◌, arith}
use Rattle.std.specs.Prelude.{Option, Some, None}
use Rattle.std.specs.List.{prefix_len, concat, AllByRecursion}
use Rattle.std.proofs.lemmas.List.{append-nil, append_assoc, length-append}
use Rattle.std.proofs.lemmas.List.Folds.{list_all-append, prefix_len-append}
use Rattle.std.proofs.lemmas.List.Sums.{prefix_len-le-length}
use Rattle.std.specs.Char.{is_ascii_digit}
use Rattle.gl_lines.specs.LineFraming.{most, has_count, count, behind_count, is_counted, has_no_end, IsUnit, is_open, is_one, part, frames_in, Ends, Framed}
use Rattle.gl_lines.proofs.Bools.{and_both, and_holds, and_right}
use Rattle.gl_lines.proofs.Counts.{count_stays, count_cut, count_short}
use Rattle.gl_lines.proofs.Stepping.{counted_part, line_part}

-- a frame that goes on behind its MSG-LEN
record Longer (counts : Bool) (text more : List ℕ) : Type 0 where
  is : is_counted counts (text ++ more) ≡ true
  same : count (text ++ more) ≡ count text
  size : length (behind_count (text ++ more)) ≡ length (behind_count text) + length more

longer : (counts : Bool) (text more : List ℕ) → is_counted counts text ≡ true → Longer counts text more
longer counts text more is =
    let both = and_both counts (has_count text) is in
    let stays = count_stays text more both.1 in
    record {
      is = and_holds counts (has_count (text ++ more)) both.0 stays.0;
      same = stays.1;
      size = ap length stays.2 ∙ length-append (behind_count text) more;
    }

-- behind an LF nothing makes a line a counted frame
line_stays : (counts : Bool) (line more : List ℕ) → is_counted counts (line ++ 10 ∷ []) ≡ false → is_counted counts ((line ++ 10 ∷ []) ++ more) ≡ false
line_stays counts line more is =
    let len : length (line ++ 10 ∷ []) ≡ length line + 1 = length-append line (10 ∷ []) in
    let n : prefix_len is_ascii_digit (line ++ 10 ∷ []) ≤ length line = digits_within line in
    ap (λ (b : Bool). counts && b) (count_cut (line ++ 10 ∷ []) more (omega (arith, len, n))) ∙ is
  where
    digits_within : (line : List ℕ) → prefix_len is_ascii_digit (line ++ 10 ∷ []) ≤ length line
    digits_within line =
        let whole = prefix_len-append is_ascii_digit line (10 ∷ []) in
        let most_line = prefix_len-le-length is_ascii_digit line in
        grind arith

ends_not : (line more : List ℕ) → has_no_end ((line ++ 10 ∷ []) ++ more) ≡ true → ⊥
ends_not line more h =
    let whole : has_no_end (line ++ 10 ∷ more) ≡ true = ap has_no_end (sym (append_assoc line (10 ∷ []) more)) ∙ h in
    let parts = list_all-append (λ b. not (b == 10)) line (10 ∷ more) in
    let fails : (has_no_end line && false) ≡ true = sym parts ∙ whole in
    let none = and_right (has_no_end line) false refl in
    cc

one_size : (counts : Bool) (text : List ℕ) → is_counted counts text ≡ true → is_one counts text ≡ true → length (behind_count text) ≤ count text
one_size counts text is h =
    let test : nat_le (length (behind_count text)) (count text) ≡ true = rw is at h in
    grind arith

open_size : (counts : Bool) (text : List ℕ) → is_counted counts text ≡ true → is_open counts text ≡ true → length (behind_count text) < count text
open_size counts text is h =
    let test : nat_lt (length (behind_count text)) (count text) ≡ true = rw is at h in
    grind arith

-- a whole frame begins no text that is open
not_open : (counts : Bool) (u more : List ℕ) → IsUnit counts u → is_open counts (u ++ more) ≡ true → ⊥
not_open counts u more (inl h) open_now =
    let l = longer counts u more h.is in
    let less = open_size counts (u ++ more) l.is open_now in
    omega (arith, less, l.same, l.size, h.whole)
not_open counts u more (inr h) open_now =
    let whole = h.whole in
    let is : is_counted counts ((h.line ++ 10 ∷ []) ++ more) ≡ false = line_stays counts h.line more (ap (is_counted counts) (sym whole) ∙ h.is) in
    let here : is_open counts ((h.line ++ 10 ∷ []) ++ more) ≡ true = ap (λ (t : List ℕ). is_open counts (t ++ more)) (sym whole) ∙ open_now in
    ends_not h.line more (rw is at here)

lf_once : (line z other : List ℕ) → line ++ 10 ∷ z ≡ other ++ 10 ∷ [] → has_no_end other ≡ true → length z ≡ 0
lf_once [] z [] h none = let e : z ≡ [] = cc in ap length e
lf_once [] z (b ∷ other) h none =
    let e : b ≡ 10 = cc in
    let both = and_both (not (b == 10)) (has_no_end other) none in
    absurd (grind arith)
lf_once (a ∷ line) z [] h none =
    let e : line ++ 10 ∷ z ≡ [] = cc in
    absurd (omega (arith, ap length e, length-append line (10 ∷ z)))
lf_once (a ∷ line) z (b ∷ other) h none =
    let e : line ++ 10 ∷ z ≡ other ++ 10 ∷ [] = cc in
    lf_once line z other e (and_both (not (b == 10)) (has_no_end other) none).1

-- no frame begins another
not_both : (counts : Bool) (u z : List ℕ) → IsUnit counts u → IsUnit counts (u ++ z) → length z ≡ 0
not_both counts u z (inl h) (inl k) =
    let l = longer counts u z h.is in
    omega (arith, l.same, l.size, h.whole, k.whole)
not_both counts u z (inl h) (inr k) =
    let l = longer counts u z h.is in
    let a = l.is in
    let b = k.is in
    absurd cc
not_both counts u z (inr h) k = line_both k
  where
    line_is : is_counted counts (u ++ z) ≡ false
    line_is = ap (λ (t : List ℕ). is_counted counts (t ++ z)) h.whole ∙ line_stays counts h.line z (ap (is_counted counts) (sym h.whole) ∙ h.is)

    line_both : IsUnit counts (u ++ z) → length z ≡ 0
    line_both (inl k) = let a = k.is in let b = line_is in absurd cc
    line_both (inr k) = lf_once h.line z k.line (sym (append_assoc h.line (10 ∷ []) z) ∙ ap (λ (t : List ℕ). t ++ z) (sym h.whole) ∙ k.whole) k.one

-- two ways to cut a text: the one front begins the other
abbrev pub Begins : List ℕ → List ℕ → List ℕ → List ℕ → Type 0
Begins u x v y = (z : List ℕ) × (v ≡ u ++ z) × (x ≡ z ++ y)

either_begins : (u x v y : List ℕ) → u ++ x ≡ v ++ y → Begins u x v y ⊎ Begins v y u x
either_begins [] x v y h = inl (v, refl, h)
either_begins (a ∷ u) x [] y h = inr (a ∷ u, refl, sym h)
either_begins (a ∷ u) x (b ∷ v) y h =
    let e : u ++ x ≡ v ++ y = cc in
    let ab : a ≡ b = cc in
    elim (either_begins u x v y e) [
      | inl r ↦ inl (r.0, ap₂ (λ (c : ℕ) (t : List ℕ). c ∷ t) (sym ab) r.1, r.2)
      | inr r ↦ inr (r.0, ap₂ (λ (c : ℕ) (t : List ℕ). c ∷ t) ab r.1, r.2)
    ]

empty_is : (z : List ℕ) → length z ≡ 0 → z ≡ []
empty_is [] h = refl
empty_is (b ∷ z) h = absurd (omega arith)

begun_unit : (counts : Bool) (u x v y : List ℕ) → IsUnit counts u → IsUnit counts v → Begins u x v y → (u ≡ v) × (x ≡ y)
begun_unit counts u x v y hu hv b =
    let none : b.0 ≡ [] = empty_is b.0 (not_both counts u b.0 hu (subst (IsUnit counts) b.1 hv)) in
    (sym (b.1 ∙ ap (λ (t : List ℕ). u ++ t) none ∙ append-nil u), b.2 ∙ ap (λ (t : List ℕ). t ++ y) none)

same_unit : (counts : Bool) (u x v y : List ℕ) → IsUnit counts u → IsUnit counts v → u ++ x ≡ v ++ y → (u ≡ v) × (x ≡ y)
same_unit counts u x v y hu hv h =
    elim (either_begins u x v y h) [
      | inl b ↦ begun_unit counts u x v y hu hv b
      | inr b ↦ let r = begun_unit counts v y u x hv hu b in (sym r.0, sym r.1)
    ]

-- what passes the limit, and a frame that it would begin
record Passes (counts : Bool) (front : List ℕ) : Type 0 where
  one : is_one counts front ≡ true
  size : length (part counts front) ≡ most + 1

-- where a longer text has a MSG-LEN, so has a front of it that is longer than that
front_counts : (counts : Bool) (front z : List ℕ) → most < length front → is_counted counts (front ++ z) ≡ true → is_counted counts front ≡ true
front_counts counts front z long is =
    let both = and_both counts (has_count (front ++ z)) is in
    let short : prefix_len is_ascii_digit (front ++ z) ≤ 7 = count_short (front ++ z) both.1 in
    let within : prefix_len is_ascii_digit front < length front = digits_within front z long short in
    and_holds counts (has_count front) both.0 (sym (count_cut front z within) ∙ both.1)
  where
    digits_within : (front z : List ℕ) → most < length front → prefix_len is_ascii_digit (front ++ z) ≤ 7 → prefix_len is_ascii_digit front < length front
    digits_within front z long short =
        let whole = prefix_len-append is_ascii_digit front z in
        let most_front = prefix_len-le-length is_ascii_digit front in
        grind arith

counted_passes : (counts : Bool) (front : List ℕ) → Passes counts front → is_counted counts front ≡ true → length (behind_count front) ≡ most + 1
counted_passes counts front p is = sym (ap length (counted_part counts front is)) ∙ p.size

line_passes : (counts : Bool) (front : List ℕ) → Passes counts front → is_counted counts front ≡ false → length front ≡ most + 1
line_passes counts front p is = sym (ap length (line_part counts front is)) ∙ p.size

-- a whole frame isn't the front of what passes the limit
not_front : (counts : Bool) (u z : List ℕ) → IsUnit counts u → Passes counts (u ++ z) → ⊥
not_front counts u z (inl h) p =
    let l = longer counts u z h.is in
    let size = counted_passes counts (u ++ z) p l.is in
    let within = one_size counts (u ++ z) l.is p.one in
    omega (arith, size, within, l.same, l.size, h.whole, h.few)
not_front counts u z (inr h) p =
    let is : is_counted counts ((h.line ++ 10 ∷ []) ++ z) ≡ false = line_stays counts h.line z (ap (is_counted counts) (sym h.whole) ∙ h.is) in
    let here : is_one counts ((h.line ++ 10 ∷ []) ++ z) ≡ true = ap (λ (t : List ℕ). is_one counts (t ++ z)) (sym h.whole) ∙ p.one in
    ends_not h.line z (rw is at here)

not_known : (b : Bool) → b ≡ true → b ≡ false → ⊥
not_known b h k = cc

-- what passes the limit isn't the front of a whole frame
not_behind : (t : Bool) (counts : Bool) (front z : List ℕ) → is_counted counts front ≡ t → Passes counts front → IsUnit counts (front ++ z) → ⊥
not_behind true counts front z is p (inl h) =
    let l = longer counts front z is in
    let size = counted_passes counts front p is in
    omega (arith, size, l.size, l.same, h.whole, h.few)
not_behind false counts front z is p (inl h) =
    let size = line_passes counts front p is in
    not_known (is_counted counts front) (front_counts counts front z (omega (arith, size)) h.is) is
not_behind true counts front z is p (inr h) =
    let l = longer counts front z is in
    not_known (is_counted counts (front ++ z)) l.is h.is
not_behind false counts front z is p (inr h) =
    let size = line_passes counts front p is in
    let all : length front + length z ≡ length h.line + 1 = sym (length-append front z) ∙ ap length h.whole ∙ length-append h.line (10 ∷ []) in
    let none : z ≡ [] = empty_is z (omega (arith, size, all, h.few)) in
    let same : front ≡ h.line ++ 10 ∷ [] = sym (append-nil front) ∙ ap (λ (t : List ℕ). front ++ t) (sym none) ∙ h.whole in
    let one : has_no_end front ≡ true = rw is at p.one in
    ends_not h.line [] (ap has_no_end (append-nil (h.line ++ 10 ∷ []) ∙ sym same) ∙ one)

-- a whole frame isn't the front of what stands behind the last one
not_tail : (counts : Bool) (u x tail : List ℕ) (rest : Option (List ℕ)) → IsUnit counts u → tail ≡ u ++ x → Ends counts tail rest → ⊥
not_tail counts u x tail (Some rest) h e ends =
    not_open counts u x h (ap (is_open counts) (sym (sym ends.0 ∙ e)) ∙ ends.1)
not_tail counts u x tail None h e ends =
    let front = ends.0 in
    let p : Passes counts front = record { one = ends.3; size = ends.4 } in
    elim (either_begins u x front ends.1 (sym e ∙ ends.2)) [
      | inl b ↦ not_front counts u b.0 h (subst (Passes counts) b.1 p)
      | inr b ↦ not_behind (is_counted counts front) counts front b.0 refl p (subst (IsUnit counts) b.1 h)
    ]

-- an open rest within the limit isn't past it
not_past : (t : Bool) (counts : Bool) (front more rest : List ℕ) → is_counted counts front ≡ t → Passes counts front → rest ≡ front ++ more → length (part counts rest) ≤ most → ⊥
not_past true counts front more rest is p e few =
    let l = longer counts front more is in
    let size = counted_passes counts front p is in
    let part_is : length (part counts rest) ≡ length (behind_count (front ++ more)) = ap (λ (t : List ℕ). length (part counts t)) e ∙ ap length (counted_part counts (front ++ more) l.is) in
    omega (arith, size, l.size, part_is, few)
not_past false counts front more rest is p e few = past_line (is_counted counts (front ++ more)) refl
  where
    past_line : (s : Bool) → is_counted counts (front ++ more) ≡ s → ⊥
    past_line true k =
        let size = line_passes counts front p is in
        not_known (is_counted counts front) (front_counts counts front more (omega (arith, size)) k) is
    past_line false k =
        let size = line_passes counts front p is in
        let part_is : length (part counts rest) ≡ length (front ++ more) = ap (λ (t : List ℕ). length (part counts t)) e ∙ ap length (line_part counts (front ++ more) k) in
        omega (arith, size, part_is, few, length-append front more)

same_ends : (counts : Bool) (tail : List ℕ) (a b : Option (List ℕ)) → Ends counts tail a → Ends counts tail b → a ≡ b
same_ends counts tail (Some a) (Some b) h k = ap (λ (t : List ℕ). Some t) (sym h.0 ∙ k.0)
same_ends counts tail None None h k = refl
same_ends counts tail (Some a) None h k = absurd (not_past (is_counted counts k.0) counts k.0 k.1 a refl (record { one = k.3; size = k.4 }) (sym h.0 ∙ k.2) h.2)
same_ends counts tail None (Some b) h k = absurd (not_past (is_counted counts h.0) counts h.0 h.1 b refl (record { one = h.3; size = h.4 }) (sym k.0 ∙ h.2) k.2)

same_units : (counts : Bool) (us vs : List (List ℕ)) (t s : List ℕ) (a b : Option (List ℕ)) → concat us ++ t ≡ concat vs ++ s → AllByRecursion (IsUnit counts) us → AllByRecursion (IsUnit counts) vs
    → Ends counts t a → Ends counts s b → (us ≡ vs) × (t ≡ s)
same_units counts [] [] t s a b e hu hv ends other = (refl, e)
same_units counts [] (v ∷ vs) t s a b e hu hv ends other = absurd (not_tail counts v (concat vs ++ s) t a hv.0 (e ∙ append_assoc v (concat vs) s) ends)
same_units counts (u ∷ us) [] t s a b e hu hv ends other = absurd (not_tail counts u (concat us ++ t) s b hu.0 (sym e ∙ append_assoc u (concat us) t) other)
same_units counts (u ∷ us) (v ∷ vs) t s a b e hu hv ends other =
    let one = same_unit counts u (concat us ++ t) v (concat vs ++ s) hu.0 hv.0 (sym (append_assoc u (concat us) t) ∙ e ∙ append_assoc v (concat vs) s) in
    let rest = same_units counts us vs t s a b one.1 hu.1 hv.1 ends other in
    (ap₂ (λ (x : List ℕ) (xs : List (List ℕ)). x ∷ xs) one.0 rest.0, rest.1)

-- the bytes of a connection have one list of frames, and one rest
pub one_framing : (counts : Bool) (bytes : List ℕ) (frames others : List (ℕ × List ℕ)) (rest other : Option (List ℕ)) → Framed counts bytes frames rest → Framed counts bytes others other
    → (frames ≡ others) × (rest ≡ other)
one_framing counts bytes frames others rest other f g =
    let same = same_units counts f.units g.units f.tail g.tail rest other (sym f.whole ∙ g.whole) f.each g.each f.ends g.ends in
    (f.frames_are ∙ ap (frames_in counts 0) same.0 ∙ sym g.frames_are, same_ends counts f.tail rest other f.ends (subst (λ (t : List ℕ). Ends counts t other) (sym same.1) g.ends))
