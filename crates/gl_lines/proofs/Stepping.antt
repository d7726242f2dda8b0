-- What a byte does to a frame that isn't whole.
use Rattle.std.proofs.Common.{◌≡◌, ◌≢◌, ℕ, inl, ◌+◌, ◌-◌, ◌*◌, ◌<◌, ◌≤◌, Bool, true, false, ◌&&◌, nat_lt, nat_le, ◌==◌, List, [], ◌∷◌, ◌++◌, length, drop, get_or, refl, sym, ap, subst, ◌∙◌, arith}
use Rattle.std.specs.List.{list_all, slice_range}
use Rattle.std.proofs.lemmas.List.{take_all, drop-append-le, length-drop, length-append}
use Rattle.std.proofs.lemmas.List.Folds.{list_all-append}
use Rattle.std.specs.Char.{is_ascii_digit}
use Rattle.gl_base.specs.Digits.{decimal}
use Rattle.gl_lines.specs.LineFraming.{most, has_count, count, behind_count, has_no_end, is_counted, is_open, is_one, part, IsUnit, IsCounted, frame_of}
use Rattle.std.specs.Prelude.{Some}
use Rattle.gl_base.specs.declared.fed.Fed.TheVariants.{Nothing, Whole}
use Rattle.gl_lines.specs.Fronts.{IsBegun, IsCountedFront, Becomes, goes_on, ends_count}
use Rattle.gl_lines.proofs.Bools.{and_both, and_holds}
use Rattle.gl_lines.proofs.Counts.{never_counts, count_stays, digits_alone, count_ends, decimal_push, digits_no_end}

pub counted_part : (counts : Bool) (text : List ℕ) → is_counted counts text ≡ true → part counts text ≡ behind_count text
counted_part counts text is = rw is refl

pub line_part : (counts : Bool) (text : List ℕ) → is_counted counts text ≡ false → part counts text ≡ text
line_part counts text is = rw is refl

pub counted_open : (counts : Bool) (text : List ℕ) → is_counted counts text ≡ true → length (behind_count text) < count text → is_open counts text ≡ true
counted_open counts text is less =
    let lt : nat_lt (length (behind_count text)) (count text) ≡ true = grind arith in
    rw (is, lt) refl

pub counted_one : (counts : Bool) (text : List ℕ) → is_counted counts text ≡ true → length (behind_count text) ≤ count text → is_one counts text ≡ true
counted_one counts text is less =
    let le : nat_le (length (behind_count text)) (count text) ≡ true = grind arith in
    rw (is, le) refl

pub line_open : (counts : Bool) (text : List ℕ) → is_counted counts text ≡ false → has_no_end text ≡ true → is_open counts text ≡ true
line_open counts text is one = rw is one

pub counted_front_open : (counts : Bool) (text : List ℕ) (head n : ℕ) → IsCountedFront counts text head n → (is_open counts text ≡ true) × (length (part counts text) ≤ most)
counted_front_open counts text head n f =
    let size : length (behind_count text) ≡ length text - head = ap length f.behind ∙ length-drop head text in
    let less : length (behind_count text) < count text = omega (arith, size, f.less, f.value, f.within) in
    (counted_open counts text f.is less, rw (counted_part counts text f.is) (omega (arith, size, f.few)))

pub begun_open : (counts : Bool) (text : List ℕ) (n : ℕ) → IsBegun counts text n → (is_open counts text ≡ true) × (length (part counts text) ≤ most)
begun_open counts text n f =
    let is : is_counted counts text ≡ false = rw f.is (digits_alone text f.digits) in
    (line_open counts text is (digits_no_end text f.digits), rw (line_part counts text is) (omega (arith, f.few)))

list_all_push : (p : ℕ → Bool) (xs : List ℕ) (b : ℕ) → list_all p xs ≡ true → p b ≡ true → list_all p (xs ++ b ∷ []) ≡ true
list_all_push p xs b all is = list_all-append p xs (b ∷ []) ∙ and_holds (list_all p xs) (p b && true) all (and_holds (p b) true is refl)

first_push : (xs : List ℕ) (b : ℕ) → (get_or xs 0 0 == 48) ≡ false → goes_on (length xs) b ≡ true → (get_or (xs ++ b ∷ []) 0 0 == 48) ≡ false
first_push [] b first goes = grind arith
first_push (x ∷ xs) b first goes = first

-- one digit more of a MSG-LEN
pub begun_push : (counts : Bool) (bytes : List ℕ) (n b : ℕ) → IsBegun counts bytes n → goes_on (length bytes) b ≡ true → IsBegun counts (bytes ++ b ∷ []) (n * 10 + (b - 48))
begun_push counts bytes n b f goes =
    let digit : is_ascii_digit b ≡ true = grind arith in
    let len : length (bytes ++ b ∷ []) ≡ length bytes + 1 = length-append bytes (b ∷ []) in
    let room : length bytes < 7 = grind arith in
    record {
      is = f.is;
      digits = list_all_push is_ascii_digit bytes b f.digits digit;
      few = omega (arith, len, room);
      first = first_push bytes b f.first goes;
      value = ap (λ (m : ℕ). m * 10 + (b - 48)) f.value ∙ sym (decimal_push 0 bytes b);
    }

digit_above : (d : ℕ) → is_ascii_digit d ≡ true → (d == 48) ≡ false → 0 < 0 * 10 + (d - 48)
digit_above d is other = grind arith

stays_above : (n : ℕ) (ds : List ℕ) → 0 < n → 0 < decimal n ds
stays_above n [] h = h
stays_above n (d ∷ ds) h = stays_above (n * 10 + (d - 48)) ds (omega (arith, h))

number_above : (ds : List ℕ) → list_all is_ascii_digit ds ≡ true → (get_or ds 0 0 == 48) ≡ false → 0 < length ds → 0 < decimal 0 ds
number_above [] all first some = absurd (omega arith)
number_above (d ∷ ds) all first some =
    let digit = and_both (is_ascii_digit d) (list_all is_ascii_digit ds) all in
    stays_above (0 * 10 + (d - 48)) ds (digit_above d digit.0 first)

-- a MSG-LEN ends
pub begun_ends : (counts : Bool) (bytes : List ℕ) (n b : ℕ) → IsBegun counts bytes n → ends_count (length bytes) b ≡ true → IsCountedFront counts (bytes ++ b ∷ []) (length bytes + 1) n
begun_ends counts bytes n b f ends =
    let some : 0 < length bytes = grind arith in
    let space : b ≡ 32 = grind arith in
    let len : length (bytes ++ 32 ∷ []) ≡ length bytes + 1 = length-append bytes (32 ∷ []) in
    let is = count_ends bytes f.digits f.few f.first some in
    let above : 0 < decimal 0 bytes = number_above bytes f.digits f.first some in
    let made : IsCountedFront counts (bytes ++ 32 ∷ []) (length bytes + 1) n = record {
      is = rw f.is is.0;
      behind = is.2;
      value = f.value ∙ sym is.1;
      short = omega (arith, f.few);
      within = omega (arith, len);
      less = omega (arith, len, above, f.value);
      few = omega (arith, len);
    } in subst (λ (x : ℕ). IsCountedFront counts (bytes ++ x ∷ []) (length bytes + 1) n) (sym space) made

-- one byte more of a counted frame
record Pushed (counts : Bool) (bytes : List ℕ) (head n b : ℕ) : Type 0 where
  is : is_counted counts (bytes ++ b ∷ []) ≡ true
  behind : behind_count (bytes ++ b ∷ []) ≡ drop head (bytes ++ b ∷ [])
  value : n ≡ count (bytes ++ b ∷ [])
  size : length (behind_count (bytes ++ b ∷ [])) ≡ length bytes + 1 - head

pushed : (counts : Bool) (bytes : List ℕ) (head n b : ℕ) → IsCountedFront counts bytes head n → Pushed counts bytes head n b
pushed counts bytes head n b f =
    let both = and_both counts (has_count bytes) f.is in
    let stays = count_stays bytes (b ∷ []) both.1 in
    let len : length (bytes ++ b ∷ []) ≡ length bytes + 1 = length-append bytes (b ∷ []) in
    let behind : behind_count (bytes ++ b ∷ []) ≡ drop head (bytes ++ b ∷ []) = stays.2 ∙ ap (λ (bs : List ℕ). bs ++ b ∷ []) f.behind ∙ sym (drop-append-le head bytes (b ∷ []) f.within) in
    record {
      is = and_holds counts (has_count (bytes ++ b ∷ [])) both.0 stays.0;
      behind = behind;
      value = f.value ∙ sym stays.1;
      size = ap length behind ∙ length-drop head (bytes ++ b ∷ []) ∙ ap (λ (m : ℕ). m - head) len;
    }

pub counted_push : (counts : Bool) (bytes : List ℕ) (head n b : ℕ) → IsCountedFront counts bytes head n → length bytes ≢ head + most → length bytes + 1 - head ≢ n
    → IsCountedFront counts (bytes ++ b ∷ []) head n
counted_push counts bytes head n b f room other =
    let p = pushed counts bytes head n b f in
    let len : length (bytes ++ b ∷ []) ≡ length bytes + 1 = length-append bytes (b ∷ []) in
    record {
      is = p.is;
      behind = p.behind;
      value = p.value;
      short = f.short;
      within = omega (arith, len, f.within);
      less = omega (arith, len, f.less, f.within);
      few = omega (arith, len, f.few);
    }

pub counted_too_long : (counts : Bool) (bytes : List ℕ) (head n b : ℕ) → IsCountedFront counts bytes head n → length bytes ≡ head + most
    → (is_one counts (bytes ++ b ∷ []) ≡ true) × (length (part counts (bytes ++ b ∷ [])) ≡ most + 1)
counted_too_long counts bytes head n b f full =
    let p = pushed counts bytes head n b f in
    (counted_one counts (bytes ++ b ∷ []) p.is (omega (arith, p.size, p.value, f.less)), rw (counted_part counts (bytes ++ b ∷ []) p.is) (omega (arith, p.size)))

pub counted_whole : (counts : Bool) (bytes : List ℕ) (head n b : ℕ) → IsCountedFront counts bytes head n → length bytes ≢ head + most → length bytes + 1 - head ≡ n
    → IsUnit counts (bytes ++ b ∷ []) × (frame_of counts (bytes ++ b ∷ []) ≡ slice_range (bytes ++ b ∷ []) head (length bytes + 1)) × (0 < length (slice_range (bytes ++ b ∷ []) head (length bytes + 1)))
counted_whole counts bytes head n b f room full =
    let p = pushed counts bytes head n b f in
    let len : length (bytes ++ b ∷ []) ≡ length bytes + 1 = length-append bytes (b ∷ []) in
    let unit : IsCounted counts (bytes ++ b ∷ []) = record { is = p.is; whole = omega (arith, p.size, p.value); few = omega (arith, p.value, f.few) } in
    let all : slice_range (bytes ++ b ∷ []) head (length bytes + 1) ≡ drop head (bytes ++ b ∷ []) =
    take_all (length bytes + 1 - head) (drop head (bytes ++ b ∷ [])) (omega (arith, len, length-drop head (bytes ++ b ∷ []))) in
    let frame : frame_of counts (bytes ++ b ∷ []) ≡ behind_count (bytes ++ b ∷ []) = rw p.is refl in
    let size : length (slice_range (bytes ++ b ∷ []) head (length bytes + 1)) ≡ length bytes + 1 - head = ap length all ∙ length-drop head (bytes ++ b ∷ []) ∙ ap (λ (m : ℕ). m - head) len in
    (inl unit, frame ∙ p.behind ∙ sym all, omega (arith, size, f.within))

-- The same, as a call has them.

pub ended : (counts : Bool) (bytes : List ℕ) (n b : ℕ) (items : List ℕ) (len : ℕ) → IsBegun counts bytes n → ends_count len b ≡ true → len ≡ length bytes → items ≡ bytes ++ b ∷ []
    → IsCountedFront counts items (len + 1) n
ended counts bytes n b items len f ends l e =
    let at : ends_count (length bytes) b ≡ true = ap (λ (m : ℕ). ends_count m b) (sym l) ∙ ends in
    rw (e, l) (begun_ends counts bytes n b f at)

pub gone_on : (counts : Bool) (bytes : List ℕ) (n b : ℕ) (items : List ℕ) (len : ℕ) → IsBegun counts bytes n → goes_on len b ≡ true → len ≡ length bytes → items ≡ bytes ++ b ∷ []
    → IsBegun counts items (n * 10 + (b - 48))
gone_on counts bytes n b items len f goes l e =
    let at : goes_on (length bytes) b ≡ true = ap (λ (m : ℕ). goes_on m b) (sym l) ∙ goes in
    rw e (begun_push counts bytes n b f at)

pub never_ends : (counts : Bool) (bytes : List ℕ) (n b len : ℕ) → IsBegun counts bytes n → goes_on len b ≡ false → ends_count len b ≡ false → len ≡ length bytes
    → (more : List ℕ) → is_counted counts (bytes ++ b ∷ more) ≡ false
never_ends counts bytes n b len f goes ends l more =
    let at : goes_on (length bytes) b ≡ false = ap (λ (m : ℕ). goes_on m b) (sym l) ∙ goes in
    let by : ends_count (length bytes) b ≡ false = ap (λ (m : ℕ). ends_count m b) (sym l) ∙ ends in
    rw f.is (never_counts bytes b f.digits at by more)

pub stays_open : (counts : Bool) (text items : List ℕ) (lent : List ℕ) → items ≡ text → (is_open counts items ≡ true) × (length (part counts items) ≤ most)
    → Becomes counts text Nothing (Some items) lent
stays_open counts text items lent e h =
    let is : is_open counts text ≡ true = ap (is_open counts) (sym e) ∙ h.0 in
    let few : length (part counts text) ≤ most = subst (λ (bs : List ℕ). length (part counts bs) ≤ most) e h.1 in
    inl (ap (λ (bs : List ℕ). Some bs) e, is, few)

pub is_whole : (counts : Bool) (bytes : List ℕ) (head n b : ℕ) (items : List ℕ) (to : ℕ) → IsCountedFront counts bytes head n → length bytes ≢ head + most → to - head ≡ n
    → items ≡ bytes ++ b ∷ [] → to ≡ length items → Becomes counts (bytes ++ b ∷ []) Whole (Some []) (slice_range items head to)
is_whole counts bytes head n b items to f room full e l =
    let len : to ≡ length bytes + 1 = l ∙ ap length e ∙ length-append bytes (b ∷ []) in
    let whole = counted_whole counts bytes head n b f room (ap (λ (m : ℕ). m - head) (sym len) ∙ full) in
    let same : slice_range items head to ≡ slice_range (bytes ++ b ∷ []) head (length bytes + 1) = rw (e, len) refl in
    (refl, whole.0, whole.1 ∙ sym same, subst (λ (bs : List ℕ). 0 < length bs) (sym same) whole.2)

pub goes_counted : (counts : Bool) (bytes : List ℕ) (head n b : ℕ) (items : List ℕ) (to : ℕ) → IsCountedFront counts bytes head n → length bytes ≢ head + most → (to - head ≡ n → ⊥)
    → items ≡ bytes ++ b ∷ [] → to ≡ length items → IsCountedFront counts items head n
goes_counted counts bytes head n b items to f room other e l =
    let len : to ≡ length bytes + 1 = l ∙ ap length e ∙ length-append bytes (b ∷ []) in
    rw e (counted_push counts bytes head n b f room (λ full. other (ap (λ (m : ℕ). m - head) len ∙ full)))
