-- A text's framing is what is read off all its bytes.
use Rattle.std.proofs.Common.{◌≡◌, ℕ, zero, suc, inl, inr, ◌+◌, ◌-◌, ◌<◌, ◌≤◌, Bool, true, false, not, ◌&&◌, nat_lt, nat_le, ◌==◌, cond, List, [], ◌∷◌, ◌++◌, length, drop, refl, sym, ap, subst, ◌∙◌, arith}
use Rattle.std.specs.Prelude.{Option, Some, None, map}
use Rattle.std.specs.Option.{is_some}
use Rattle.std.specs.List.{prefix_len, list_all, concat, filter, AllByRecursion}
use Rattle.std.proofs.lemmas.List.{append-nil, append_assoc, length-append, length-drop, map-append, take_at, drop_at}
use Rattle.std.proofs.lemmas.List.Elements.{filter-append}
use Rattle.std.proofs.lemmas.List.Folds.{prefix_len-append}
use Rattle.std.proofs.lemmas.List.Sums.{prefix_len-le-length}
use Rattle.std.specs.Char.{is_ascii_digit}
use Rattle.gl_lines.specs.LineFraming.{most, has_count, count, behind_count, is_counted, has_no_end, IsUnit, frame_of, is_open, is_one, part, shown, frames_in, last_frame, Ends, Framed}
use Rattle.gl_lines.specs.LineFrames.{line_len, unit_len, units_by, units, behind_units, isnt_empty, line_frames, has_long_line, last_line_frame, last_of_rest}
use Rattle.gl_lines.proofs.Bools.{and_both, and_holds, and_left, and_right}
use Rattle.gl_lines.proofs.Counts.{count_stays, count_cut, count_short, digits_alone}
use Rattle.gl_lines.proofs.Stepping.{counted_part, line_part}

prefix_seam : (p : ℕ → Bool) (xs : List ℕ) (y : ℕ) (ys : List ℕ) → list_all p xs ≡ true → p y ≡ false → prefix_len p (xs ++ y ∷ ys) ≡ length xs
prefix_seam p [] y ys all stop = rw stop refl
prefix_seam p (x ∷ xs) y ys all stop =
    let both = and_both (p x) (list_all p xs) all in
    let rest = prefix_seam p xs y ys both.1 stop in
    let one : prefix_len p (x ∷ (xs ++ y ∷ ys)) ≡ 1 + prefix_len p (xs ++ y ∷ ys) = rw both.0 refl in
    one ∙ omega (arith, rest)

-- ---- a text whose front has a MSG-LEN, or has none

record Goes (counts : Bool) (front more : List ℕ) : Type 0 where
  is : is_counted counts (front ++ more) ≡ true
  same : count (front ++ more) ≡ count front
  size : length (behind_count (front ++ more)) ≡ length (behind_count front) + length more

goes : (counts : Bool) (front more : List ℕ) → is_counted counts front ≡ true → Goes counts front more
goes counts front more is =
    let both = and_both counts (has_count front) is in
    let stays = count_stays front more both.1 in
    record {
      is = and_holds counts (has_count (front ++ more)) both.0 stays.0;
      same = stays.1;
      size = ap length stays.2 ∙ length-append (behind_count front) more;
    }

-- behind a byte that is no digit it is told whether a text is counted
told_in : (counts : Bool) (front more : List ℕ) → prefix_len is_ascii_digit front < length front → is_counted counts (front ++ more) ≡ is_counted counts front
told_in counts front more within = ap (λ (b : Bool). counts && b) (count_cut front more within)

digits_in_line : (line : List ℕ) → prefix_len is_ascii_digit (line ++ 10 ∷ []) < length (line ++ 10 ∷ [])
digits_in_line line =
    let whole = prefix_len-append is_ascii_digit line (10 ∷ []) in
    let within = prefix_len-le-length is_ascii_digit line in
    let len : length (line ++ 10 ∷ []) ≡ length line + 1 = length-append line (10 ∷ []) in
    grind arith

digits_in_long : (front more : List ℕ) → 7 < length front → prefix_len is_ascii_digit (front ++ more) ≤ 7 → prefix_len is_ascii_digit front < length front
digits_in_long front more long short =
    let whole = prefix_len-append is_ascii_digit front more in
    let within = prefix_len-le-length is_ascii_digit front in
    grind arith

-- a long front without a MSG-LEN never has one
never_in : (t : Bool) (counts : Bool) (front more : List ℕ) → is_counted counts (front ++ more) ≡ t → 7 < length front → is_counted counts front ≡ false → is_counted counts (front ++ more) ≡ false
never_in false counts front more is long none = is
never_in true counts front more is long none =
    let short : prefix_len is_ascii_digit (front ++ more) ≤ 7 = count_short (front ++ more) (and_both counts (has_count (front ++ more)) is).1 in
    told_in counts front more (digits_in_long front more long short) ∙ none

-- ---- the length of the frame at the front

counted_len : (counts : Bool) (text : List ℕ) → is_counted counts text ≡ true → count text ≤ most → count text ≤ length (behind_count text)
    → unit_len counts text ≡ length text - length (behind_count text) + count text
counted_len counts text is few all =
    let small : nat_le (count text) most ≡ true = grind arith in
    let here : nat_le (count text) (length (behind_count text)) ≡ true = grind arith in
    rw (is, small, here) refl

counted_none : (counts : Bool) (text : List ℕ) → is_counted counts text ≡ true → (nat_le (count text) most && nat_le (count text) (length (behind_count text))) ≡ false → unit_len counts text ≡ 0
counted_none counts text is none = rw (is, none) refl

line_unit_len : (counts : Bool) (text : List ℕ) → is_counted counts text ≡ false → line_len text ≤ most → line_len text < length text → unit_len counts text ≡ line_len text + 1
line_unit_len counts text is few all =
    let small : nat_le (line_len text) most ≡ true = grind arith in
    let here : nat_lt (line_len text) (length text) ≡ true = grind arith in
    rw (is, small, here) refl

line_none : (counts : Bool) (text : List ℕ) → is_counted counts text ≡ false → (nat_le (line_len text) most && nat_lt (line_len text) (length text)) ≡ false → unit_len counts text ≡ 0
line_none counts text is none = rw (is, none) refl

behind_within : (text : List ℕ) → length (behind_count text) ≤ length text
unfolding behind_count
behind_within text = omega (arith, length-drop (prefix_len is_ascii_digit text + 1) text)

unit_front : (counts : Bool) (u more : List ℕ) → IsUnit counts u → unit_len counts (u ++ more) ≡ length u
unit_front counts u more (inl h) =
    let g = goes counts u more h.is in
    let len = counted_len counts (u ++ more) g.is (omega (arith, g.same, h.few)) (omega (arith, g.same, g.size, h.whole)) in
    len ∙ omega (arith, g.same, g.size, h.whole, length-append u more, behind_within u)
unit_front counts u more (inr h) =
    let text : u ++ more ≡ h.line ++ 10 ∷ more = ap (λ (t : List ℕ). t ++ more) h.whole ∙ append_assoc h.line (10 ∷ []) more in
    let is : is_counted counts (u ++ more) ≡ false =
    ap (λ (t : List ℕ). is_counted counts (t ++ more)) h.whole ∙ told_in counts (h.line ++ 10 ∷ []) more (digits_in_line h.line) ∙ ap (is_counted counts) (sym h.whole) ∙ h.is in
    let n : line_len (u ++ more) ≡ length h.line = ap line_len text ∙ prefix_seam (λ b. not (b == 10)) h.line 10 more h.one refl in
    let all : length (u ++ more) ≡ length h.line + length (10 ∷ more) = ap length text ∙ length-append h.line (10 ∷ more) in
    let size : length u ≡ length h.line + 1 = ap length h.whole ∙ length-append h.line (10 ∷ []) in
    line_unit_len counts (u ++ more) is (omega (arith, n, h.few)) (omega (arith, n, all)) ∙ omega (arith, n, size)

unit_some : (counts : Bool) (u : List ℕ) → IsUnit counts u → 0 < length u
unit_some counts [] (inl h) =
    let none : is_counted counts [] ≡ false = and_right counts (has_count []) (digits_alone [] refl) in
    let is = h.is in
    absurd cc
unit_some counts [] (inr h) = omega (arith, ap length h.whole, length-append h.line (10 ∷ []))
unit_some counts (b ∷ u) h = omega arith

-- ---- behind the last whole frame

no_end_len : (text : List ℕ) → has_no_end text ≡ true → line_len text ≡ length text
no_end_len [] none = refl
no_end_len (b ∷ text) none =
    let both = and_both (not (b == 10)) (has_no_end text) none in
    let rest = no_end_len text both.1 in
    rw both.0 (omega (arith, rest))

open_counted : (counts : Bool) (text : List ℕ) → is_counted counts text ≡ true → is_open counts text ≡ true → nat_le (count text) (length (behind_count text)) ≡ false
open_counted counts text is open_now =
    let less : nat_lt (length (behind_count text)) (count text) ≡ true = rw is at open_now in
    grind arith

one_counted : (counts : Bool) (text : List ℕ) → is_counted counts text ≡ true → is_one counts text ≡ true → length (behind_count text) ≤ count text
one_counted counts text is one =
    let few : nat_le (length (behind_count text)) (count text) ≡ true = rw is at one in
    grind arith

open_none : (t : Bool) (counts : Bool) (rest : List ℕ) → is_counted counts rest ≡ t → is_open counts rest ≡ true → unit_len counts rest ≡ 0
open_none true counts rest is open_now =
    counted_none counts rest is (and_right (nat_le (count rest) most) (nat_le (count rest) (length (behind_count rest))) (open_counted counts rest is open_now))
open_none false counts rest is open_now =
    let no_end : has_no_end rest ≡ true = rw is at open_now in
    let len = no_end_len rest no_end in
    let past : nat_lt (line_len rest) (length rest) ≡ false = grind arith in
    line_none counts rest is (and_right (nat_le (line_len rest) most) (nat_lt (line_len rest) (length rest)) past)

-- a front that passes the limit by one byte
record Over (counts : Bool) (tail : List ℕ) : Type 0 where
  none : unit_len counts tail ≡ 0
  long : most < length (part counts tail)

over : (t : Bool) (counts : Bool) (front more : List ℕ) → is_counted counts front ≡ t → is_one counts front ≡ true → length (part counts front) ≡ most + 1 → Over counts (front ++ more)
over true counts front more is one size =
    let g = goes counts front more is in
    let here : length (behind_count front) ≡ most + 1 = sym (ap length (counted_part counts front is)) ∙ size in
    let within = one_counted counts front is one in
    let big : most < count (front ++ more) = omega (arith, g.same, here, within) in
    let fails : nat_le (count (front ++ more)) most ≡ false = grind arith in
    record {
      none = counted_none counts (front ++ more) g.is (and_left (nat_le (count (front ++ more)) most) (nat_le (count (front ++ more)) (length (behind_count (front ++ more)))) fails);
      long = omega (arith, ap length (counted_part counts (front ++ more) g.is), g.size, here);
    }
over false counts front more is one size =
    let here : length front ≡ most + 1 = sym (ap length (line_part counts front is)) ∙ size in
    let never = never_in (is_counted counts (front ++ more)) counts front more refl (omega (arith, here)) is in
    let no_end : has_no_end front ≡ true = rw is at one in
    let n : line_len front ≡ length front = no_end_len front no_end in
    let all = prefix_len-append (λ b. not (b == 10)) front more in
    let big : most < line_len (front ++ more) = grind arith in
    let fails : nat_le (line_len (front ++ more)) most ≡ false = grind arith in
    record {
      none = line_none counts (front ++ more) never (and_left (nat_le (line_len (front ++ more)) most) (nat_lt (line_len (front ++ more)) (length (front ++ more))) fails);
      long = omega (arith, ap length (line_part counts (front ++ more) never), length-append front more, here);
    }

tail_none : (counts : Bool) (tail : List ℕ) (rest : Option (List ℕ)) → Ends counts tail rest → unit_len counts tail ≡ 0
tail_none counts tail (Some rest) ends = ap (unit_len counts) ends.0 ∙ open_none (is_counted counts rest) counts rest refl ends.1
tail_none counts tail None ends = ap (unit_len counts) ends.2 ∙ (over (is_counted counts ends.0) counts ends.0 ends.1 refl ends.3 ends.4).none

tail_long : (counts : Bool) (tail : List ℕ) (rest : Option (List ℕ)) → Ends counts tail rest → is_some rest ≡ not (nat_lt most (length (part counts tail)))
tail_long counts tail (Some rest) ends =
    let few : length (part counts tail) ≤ most = subst (λ (t : List ℕ). length (part counts t) ≤ most) (sym ends.0) ends.2 in
    let fails : nat_lt most (length (part counts tail)) ≡ false = grind arith in
    rw fails refl
tail_long counts tail None ends =
    let big : most < length (part counts tail) = subst (λ (t : List ℕ). most < length (part counts t)) (sym ends.2) (over (is_counted counts ends.0) counts ends.0 ends.1 refl ends.3 ends.4).long in
    let holds : nat_lt most (length (part counts tail)) ≡ true = grind arith in
    rw holds refl

-- ---- all the frames

no_units : (n : ℕ) (counts : Bool) (tail : List ℕ) → unit_len counts tail ≡ 0 → units_by n counts tail ≡ []
no_units zero counts tail none = refl
no_units (suc n) counts tail none = rw none refl

unit_step : (n : ℕ) (counts : Bool) (u more : List ℕ) → unit_len counts (u ++ more) ≡ length u → 0 < length u → units_by (suc n) counts (u ++ more) ≡ u ∷ units_by n counts more
unit_step n counts u more len some =
    let other : (length u == 0) ≡ false = grind arith in
    rw (len, other, take_at u more (length u) refl, drop_at u more (length u) refl) refl

-- whole frames at the front come first
record Begun (n : ℕ) (counts : Bool) (us : List (List ℕ)) (tail : List ℕ) : Type 0 where
  turns : ℕ
  is : units_by n counts (concat us ++ tail) ≡ us ++ units_by turns counts tail

units_begin : (n : ℕ) (counts : Bool) (us : List (List ℕ)) (tail : List ℕ) → length (concat us ++ tail) ≤ n → AllByRecursion (IsUnit counts) us → Begun n counts us tail
units_begin n counts [] tail few each = record { turns = n; is = refl }
units_begin zero counts (u ∷ us) tail few each =
    absurd (omega (arith, few, length-append (u ++ concat us) tail, length-append u (concat us), unit_some counts u each.0))
units_begin (suc n) counts (u ∷ us) tail few each =
    let some = unit_some counts u each.0 in
    let whole : concat (u ∷ us) ++ tail ≡ u ++ (concat us ++ tail) = append_assoc u (concat us) tail in
    let less : length (concat us ++ tail) ≤ n = omega (arith, few, ap length whole, length-append u (concat us ++ tail), some) in
    let rest = units_begin n counts us tail less each.1 in
    record {
      turns = rest.turns;
      is = ap (units_by (suc n) counts) whole
          ∙ unit_step n counts u (concat us ++ tail) (unit_front counts u (concat us ++ tail) each.0) some
          ∙ ap (λ (vs : List (List ℕ)). u ∷ vs) rest.is;
    }

units_are : (n : ℕ) (counts : Bool) (us : List (List ℕ)) (tail : List ℕ) → length (concat us ++ tail) ≤ n → AllByRecursion (IsUnit counts) us → unit_len counts tail ≡ 0
    → units_by n counts (concat us ++ tail) ≡ us
units_are n counts us tail few each none =
    let begun = units_begin n counts us tail few each in
    begun.is ∙ ap (λ (vs : List (List ℕ)). us ++ vs) (no_units begun.turns counts tail none) ∙ append-nil us

shown_frame : (place : ℕ) (frame : List ℕ) (frames : List (List ℕ)) → filter isnt_empty (frame ∷ frames) ≡ map {B = List ℕ} (λ f. f.1) (shown place frame) ++ filter isnt_empty frames
shown_frame place [] frames = refl
shown_frame place (b ∷ frame) frames = refl

frames_are : (counts : Bool) (at : ℕ) (us : List (List ℕ)) → map {B = List ℕ} (λ f. f.1) (frames_in counts at us) ≡ filter isnt_empty (map (frame_of counts) us)
frames_are counts at [] = refl
frames_are counts at (u ∷ us) =
    map-append (λ f. f.1) (shown (at + length u) (frame_of counts u)) (frames_in counts (at + length u) us)
    ∙ ap (λ (fs : List (List ℕ)). map {B = List ℕ} (λ f. f.1) (shown (at + length u) (frame_of counts u)) ++ fs) (frames_are counts (at + length u) us)
    ∙ sym (shown_frame (at + length u) (frame_of counts u) (map (frame_of counts) us))

last_is : (counts : Bool) (tail : List ℕ) (rest : Option (List ℕ)) (long : Bool) → Ends counts tail rest → is_some rest ≡ not long
    → last_of_rest counts rest ≡ cond long [] (filter isnt_empty (last_frame counts tail ∷ []))
last_is counts tail (Some rest) false ends h = ap (λ (t : List ℕ). filter isnt_empty (last_frame counts t ∷ [])) (sym ends.0)
last_is counts tail (Some rest) true ends h = absurd cc
last_is counts tail None false ends h = absurd cc
last_is counts tail None true ends h = refl

-- ---- what a reader's framing says of them

module _ (counts : Bool) (bytes : List ℕ) (frames : List (ℕ × List ℕ)) (rest : Option (List ℕ)) (f : Framed counts bytes frames rest) where
  units_of : units counts bytes ≡ f.units
  units_of =
      ap (units_by (length bytes) counts) f.whole
      ∙ units_are (length bytes) counts f.units f.tail (omega (arith, ap length f.whole)) f.each (tail_none counts f.tail rest f.ends)

  behind_of : behind_units counts bytes ≡ f.tail
  behind_of =
      ap (λ (us : List (List ℕ)). drop (length (concat us)) bytes) units_of ∙ ap (drop (length (concat f.units))) f.whole
      ∙ drop_at (concat f.units) f.tail (length (concat f.units)) refl

  pub same_frames : map {B = List ℕ} (λ f. f.1) frames ≡ line_frames counts bytes
  same_frames =
      ap (map {B = List ℕ} (λ f. f.1)) f.frames_are ∙ frames_are counts 0 f.units
      ∙ ap (λ (us : List (List ℕ)). filter isnt_empty (map (frame_of counts) us)) (sym units_of)

  pub same_closed : is_some rest ≡ not (has_long_line counts bytes)
  same_closed = tail_long counts f.tail rest f.ends ∙ ap (λ (t : List ℕ). not (nat_lt most (length (part counts t)))) (sym behind_of)

  pub same_last : last_of_rest counts rest ≡ last_line_frame counts bytes
  same_last =
      last_is counts f.tail rest (has_long_line counts bytes) f.ends same_closed
      ∙ ap (λ (t : List ℕ). cond (has_long_line counts bytes) [] (filter isnt_empty (last_frame counts t ∷ []))) (sym behind_of)

  pub frames_begin : (more : List ℕ) → (later : List (List ℕ)) × (line_frames counts (bytes ++ more) ≡ line_frames counts bytes ++ later)
  frames_begin more =
      let whole : bytes ++ more ≡ concat f.units ++ (f.tail ++ more) = ap (λ (t : List ℕ). t ++ more) f.whole ∙ append_assoc (concat f.units) f.tail more in
      let begun = units_begin (length (bytes ++ more)) counts f.units (f.tail ++ more) (omega (arith, ap length whole)) f.each in
      let behind : List (List ℕ) = units_by begun.turns counts (f.tail ++ more) in
      let all : units counts (bytes ++ more) ≡ f.units ++ behind = ap (units_by (length (bytes ++ more)) counts) whole ∙ begun.is in (
        filter isnt_empty (map (frame_of counts) behind),
        ap (λ (us : List (List ℕ)). filter isnt_empty (map (frame_of counts) us)) all
            ∙ ap (filter isnt_empty) (map-append (frame_of counts) f.units behind)
            ∙ filter-append isnt_empty (map (frame_of counts) f.units) (map (frame_of counts) behind)
            ∙ ap (λ (us : List (List ℕ)). filter isnt_empty (map (frame_of counts) us) ++ filter isnt_empty (map (frame_of counts) behind)) (sym units_of),
      )
