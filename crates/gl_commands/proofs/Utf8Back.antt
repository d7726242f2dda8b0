-- Data whose compact text is UTF-8 has keys and strings that are.
use Rattle.std.proofs.Common.{◌≡◌, ℕ, zero, suc, ◌<◌, ◌≤◌, Bool, true, false, ◌&&◌, nat_lt, List, [], ◌∷◌, ◌++◌, length, get_or, IsUtf8, inl, inr, refl, sym, ap, ap₂, ◌∙◌, subst, arith, append-nil, length-append, ltb-true, lt-ltb}
use Rattle.std.proofs.Math.Seq.{take-append_seam, drop-append_seam}
use Rattle.std.proofs.lemmas.Bool.{and_parts, cases_lt, cases_eq}
use Rattle.std.proofs.lemmas.Str.{IsUtf8-append, IsUtf8-nil, IsUtf8-take, IsUtf8-drop, IsUtf8-encode, IsCharBoundary-before_ascii, IsCharBoundary-after_ascii, encode_ascii, inside_one, length-encode, len_utf8_bounds}
use lib.Utf8.{scalar, scalars, encode, encodes}
use Rattle.json.specs.Print.{escape_byte, escape, quoted}
use Rattle.json.proofs.Printed.Strings.{escape_byte_plain}
use Rattle.json.proofs.Printed.Utf8.{are_ascii, IsUtf8-are_ascii}
use Rattle.serde_json.specs.Data.{Data, null, boolean, number, string, array, object, Items, no_items, item, Members, no_members, member}
use Rattle.serde_json.specs.Written.{comma_if, compact_text, items_text, members_text}
use Rattle.gl_commands.specs.Texts.{HasTexts, ItemsHaveTexts, MembersHaveTexts}

-- cuts at ASCII

starts_low : List ℕ → Bool
starts_low [] = false
starts_low (x ∷ xs) = nat_lt x 128

at_seam : (xs ys : List ℕ) (y : ℕ) → get_or (xs ++ y ∷ ys) (length xs) 0 ≡ y
at_seam [] ys y = refl
at_seam (x ∷ xs) ys y = at_seam xs ys y

within : (xs ys : List ℕ) (y : ℕ) → length xs < length (xs ++ y ∷ ys)
within xs ys y = omega (arith, length-append xs (y ∷ ys))

parted : (xs w : List ℕ) → starts_low w ≡ true → IsUtf8 (xs ++ w) → IsUtf8 xs × IsUtf8 w
unfolding starts_low
parted xs [] low u = absurd cc
parted xs (y ∷ ys) low u =
    let small : get_or (xs ++ y ∷ ys) (length xs) 0 < 128 = omega (arith, at_seam xs ys y, ltb-true y 128 low) in
    let seam = IsCharBoundary-before_ascii (xs ++ y ∷ ys) (length xs) (within xs ys y) small in
    (subst IsUtf8 (take-append_seam xs (y ∷ ys)) (IsUtf8-take (xs ++ y ∷ ys) (length xs) u seam), subst IsUtf8 (drop-append_seam xs (y ∷ ys)) (IsUtf8-drop (xs ++ y ∷ ys) (length xs) u seam))

behind : (x : ℕ) (xs : List ℕ) → x < 128 → IsUtf8 (x ∷ xs) → IsUtf8 xs
behind x xs small u = IsUtf8-drop (x ∷ xs) 1 u (IsCharBoundary-after_ascii (x ∷ xs) 0 u (omega arith) small)

behind_all : (xs ys : List ℕ) → are_ascii xs ≡ true → IsUtf8 (xs ++ ys) → IsUtf8 ys
behind_all [] ys plain u = u
behind_all (x ∷ xs) ys plain u = let p = and_parts _ _ plain in behind_all xs ys p.1 (behind x (xs ++ ys) (ltb-true x 128 p.0) u)

-- the escapes of ASCII are ASCII, and some

is_low : List ℕ → Bool
is_low w = are_ascii w && starts_low w

low_below : ℕ → Bool
low_below zero = true
low_below (suc n) = is_low (escape_byte n) && low_below n

low_at : (n : ℕ) → low_below n ≡ true → (x : ℕ) → x < n → is_low (escape_byte x) ≡ true
unfolding low_below
low_at zero e x h = absurd (omega arith)
low_at (suc n) e x h =
    let p = and_parts _ _ e in
    elim (cases_eq x n) [ inl same ↦ rw same p.0 | inr other ↦ low_at n p.1 x (omega arith) ]

all_low : low_below 128 ≡ true
unfolding low_below is_low starts_low escape_byte
all_low = refl

low_escape : (x : ℕ) → x < 128 → (are_ascii (escape_byte x) ≡ true) × (starts_low (escape_byte x) ≡ true)
unfolding is_low
low_escape x h = and_parts _ _ (low_at 128 all_low x h)

high_escape : (x : ℕ) → 128 ≤ x → escape_byte x ≡ x ∷ []
high_escape x high = escape_byte_plain x (λ e. omega arith) (λ e. omega arith) (omega arith)

-- bytes beyond ASCII stand in an escaped text as in the text

abbrev AreHigh : List ℕ → Type 0
AreHigh t = (k : ℕ) → k < length t → 128 ≤ get_or t k 0

low_front : (w : List ℕ) → starts_low w ≡ true → (y : ℕ) (ys r : List ℕ) → y ∷ ys ≡ w ++ r → y < 128
unfolding starts_low
low_front [] low y ys r e = absurd cc
low_front (x ∷ xs) low y ys r e = let same : y ≡ x = cc in omega (arith, same, ltb-true x 128 low)

high_front : (t rest s : List ℕ) → AreHigh t → t ++ rest ≡ escape s → (more : List ℕ) × (s ≡ t ++ more) × (rest ≡ escape more)
high_front [] rest s high e = (s, refl, e)
high_front (y ∷ t) rest [] high e = absurd cc
high_front (y ∷ t) rest (z ∷ s) high e = elim (cases_lt z 128) [
  | inl low ↦ absurd (omega (arith, low_front (escape_byte z) (low_escape z low).1 y (t ++ rest) (escape s) e, high 0 (omega arith)))
  | inr big ↦
      let plain : y ∷ (t ++ rest) ≡ z ∷ escape s = e ∙ ap (λ w. w ++ escape s) (high_escape z big) in
      let same : y ≡ z = cc in
      let tails : t ++ rest ≡ escape s = cc in
      let further = high_front t rest s (λ k below. high (suc k) (omega arith)) tails in
      (further.0, ap₂ (λ (x : ℕ) (xs : List ℕ). x ∷ xs) (sym same) further.1, further.2)
]

high_encode : (c : ℕ) → 128 ≤ c → AreHigh (encode c)
high_encode c big k below = elim (cases_lt (get_or (encode c) k 0) 128) [
  | inl low ↦ absurd (omega (arith, inside_one c [] (encode c) k (sym (append-nil _)) below low))
  | inr high ↦ high
]

low_quote : starts_low (34 ∷ []) ≡ true
unfolding starts_low
low_quote = refl

-- a character that begins with a byte beyond ASCII is beyond it
high_char : (c : ℕ) (rest : List ℕ) (x : ℕ) (xs : List ℕ) → 128 ≤ x → encode c ++ rest ≡ x ∷ xs → 128 ≤ c
high_char c rest x xs high e = elim (cases_lt c 128) [
  | inl low ↦
      let begins : c ∷ rest ≡ x ∷ xs = ap (λ w. w ++ rest) (sym (encode_ascii c low)) ∙ e in
      let same : c ≡ x = cc in
      absurd (omega (arith, same, low, high))
  | inr big ↦ big
]

some_bytes : (c : ℕ) (rest : List ℕ) (x : ℕ) (xs : List ℕ) → encode c ++ rest ≡ x ∷ xs → 0 < length (encode c)
some_bytes c rest x xs e = omega (arith, length-encode c, (len_utf8_bounds c).0)

by_chars : (s cs : List ℕ) (x : ℕ) → 128 ≤ x → scalars cs ≡ true → encodes cs ≡ escape (x ∷ s) → ((more : List ℕ) → length more < length (x ∷ s) → IsUtf8 (escape more) → IsUtf8 more) → IsUtf8 (x ∷ s)
by_chars s [] x high ok e next = let plain : [] ≡ x ∷ escape s = e ∙ ap (λ w. w ++ escape s) (high_escape x high) in absurd cc
by_chars s (c ∷ cs) x high ok e next =
    let p = and_parts _ _ ok in
    let plain : encode c ++ encodes cs ≡ x ∷ escape s = e ∙ ap (λ w. w ++ escape s) (high_escape x high) in
    let big = high_char c (encodes cs) x (escape s) high plain in
    let parts = high_front (encode c) (encodes cs) (x ∷ s) (high_encode c big) e in
    let longer : length (x ∷ s) ≡ length (encode c ++ parts.0) = ap length parts.1 in
    let fewer : length parts.0 < length (x ∷ s) = omega (arith, longer, length-append (encode c) parts.0, some_bytes c (encodes cs) x (escape s) plain) in
    subst IsUtf8 (sym parts.1) (IsUtf8-append (encode c) parts.0 (IsUtf8-encode c p.0) (next parts.0 fewer (cs, (p.1, parts.2))))

-- a text whose escaped form is UTF-8 is
pub IsUtf8-escaped : (n : ℕ) (s : List ℕ) → length s ≤ n → IsUtf8 (escape s) → IsUtf8 s
IsUtf8-escaped n [] few u = IsUtf8-nil
IsUtf8-escaped zero (x ∷ s) few u = absurd (omega (arith, few))
IsUtf8-escaped (suc n) (x ∷ s) few u = elim (cases_lt x 128) [
  | inl low ↦
      let rest = IsUtf8-escaped n s (omega (arith, few)) (behind_all (escape_byte x) (escape s) (low_escape x low).0 u) in
      IsUtf8-append (x ∷ []) s (IsUtf8-are_ascii (x ∷ []) (rw (lt-ltb x 128 low) refl)) rest
  | inr high ↦ by_chars s u.0 x high u.1.0 u.1.1 (λ more fewer. IsUtf8-escaped n more (omega (arith, few, fewer)))
]

IsUtf8-unquoted : (s : List ℕ) → IsUtf8 (quoted s) → IsUtf8 s
IsUtf8-unquoted s u = IsUtf8-escaped (length s) s (omega arith) (parted (escape s) (34 ∷ []) low_quote (behind 34 _ (omega arith) u)).0

-- data

ascii_comma : (later : Bool) → are_ascii (comma_if later) ≡ true
ascii_comma true = refl
ascii_comma false = refl

low_items : (ds : Items) → starts_low (items_text true ds) ≡ true
unfolding starts_low
low_items no_items = refl
low_items (item d ds) = refl

low_members : (ms : Members) → starts_low (members_text true ms) ≡ true
unfolding starts_low
low_members no_members = refl
low_members (member k d ms) = refl

low_colon : (w : List ℕ) → starts_low (58 ∷ w) ≡ true
unfolding starts_low
low_colon w = refl

mutual
  pub texts_back : (d : Data) → IsUtf8 (compact_text d) → HasTexts d
  texts_back null u = tt
  texts_back (boolean b) u = tt
  texts_back (number n) u = tt
  texts_back (string s) u = IsUtf8-unquoted s u
  texts_back (array ds) u = items_back false ds (behind 91 _ (omega arith) u)
  texts_back (object ms) u = members_back false ms (behind 123 _ (omega arith) u)

  items_back : (later : Bool) (ds : Items) → IsUtf8 (items_text later ds) → ItemsHaveTexts ds
  items_back later no_items u = tt
  items_back later (item d ds) u =
      let parts = parted (compact_text d) (items_text true ds) (low_items ds) (behind_all (comma_if later) _ (ascii_comma later) u) in
      (texts_back d parts.0, items_back true ds parts.1)

  members_back : (later : Bool) (ms : Members) → IsUtf8 (members_text later ms) → MembersHaveTexts ms
  members_back later no_members u = tt
  members_back later (member k d ms) u =
      let key = parted (quoted k) (58 ∷ (compact_text d ++ members_text true ms)) (low_colon _) (behind_all (comma_if later) _ (ascii_comma later) u) in
      let parts = parted (compact_text d) (members_text true ms) (low_members ms) (behind 58 _ (omega arith) key.1) in
      (IsUtf8-unquoted k key.0, texts_back d parts.0, members_back true ms parts.1)
