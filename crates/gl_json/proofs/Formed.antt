-- What the grammar has is UTF-8, and the parts of an object have their own forms.
use Rattle.std.proofs.Common.{◌≡◌, ℕ, zero, suc, ◌-◌, ◌<◌, ◌&&◌, ◌==◌, Bool, true, List, [], ◌∷◌, ◌++◌, map, Result, Ok, Err, refl, sym, subst, inl, inr, arith}
use Rattle.std.specs.Prelude.{IfOk}
use Rattle.std.specs.List.{list_all, All, AllByRecursion}
use Rattle.std.specs.Str.{IsUtf8}
use Rattle.std.proofs.lemmas.Bool.{and_parts}
use Rattle.std.proofs.lemmas.List.Elements.{All-from_recursion}
use Rattle.std.proofs.lemmas.Str.{IsUtf8-append, IsUtf8-nil}
use Rattle.gl_base.specs.Bytes.{is_digit, is_sign, is_e}
use Rattle.gl_json.specs.declared.chars.Char.{Char}
use Rattle.gl_json.specs.declared.chars.Char.TheVariants.{One, Two, Three, Four, Escape, Unicode}
use Rattle.gl_json.specs.declared.refusal.JsonRefusal.{JsonRefusal}
use Rattle.gl_json.specs.declared.value.Member.{Member}
use Rattle.gl_json.specs.Chars.{char_bytes, is_char, is_tail, is_second, is_escape, is_hex, AreChars, inside}
use Rattle.std.specs.Int.{is_in_range}
use Rattle.gl_json.specs.Numbers.{are_digits, is_minus, is_int, is_frac, are_signed_digits, is_exp, IsNumber}
use Rattle.gl_json.specs.Grammar.{Value, Pair, is_blank, AreBlanks, AreParted, last, also, AreBetween, nothing, something, IsItem, item, IsMember, member, IsValueOf, a_text, a_number, a_true, a_false, a_null, an_object, an_array, IsObjectIn, IsArrayIn, IsValue, IsObject, IsObjectText}
use Rattle.gl_json.specs.Flattening.{IsInside, IsFormed, IsFormedPair}
use Rattle.gl_json.specs.Places.{Answers, object_of}
use Rattle.gl_json.specs.Views.{pair_view}
use Rattle.gl_json.proofs.Taking.{split}
use Rattle.gl_json.proofs.Encoding.{utf8_one, utf8_two, utf8_three, utf8_four}
use Rattle.gl_json.proofs.SaidRead.{plain_low}
use Rattle.gl_json.proofs.Whole.{object_found}

-- bytes below 128

utf8_cons : (b : ℕ) (t : List ℕ) → b < 128 → IsUtf8 t → IsUtf8 (b ∷ t)
utf8_cons b t h u = IsUtf8-append (b ∷ []) t (utf8_one b h) u

utf8_all : (p : ℕ → Bool) → ((b : ℕ) → p b ≡ true → b < 128) → (t : List ℕ) → list_all p t ≡ true → IsUtf8 t
utf8_all p low [] h = IsUtf8-nil
utf8_all p low (b ∷ t) h = let q = and_parts (p b) (list_all p t) h in utf8_cons b t (low b q.0) (utf8_all p low t q.1)

blank_low : (b : ℕ) → is_blank b ≡ true → b < 128
blank_low b h = grind arith

digit_low : (b : ℕ) → is_digit b ≡ true → b < 128
digit_low b h = grind arith

utf8_blanks : (ws : List ℕ) → AreBlanks ws → IsUtf8 ws
utf8_blanks ws h = utf8_all is_blank blank_low ws h

utf8_digits : (t : List ℕ) → are_digits t ≡ true → IsUtf8 t
utf8_digits [] h = IsUtf8-nil
utf8_digits (d ∷ ds) h = utf8_all is_digit digit_low (d ∷ ds) h

-- numbers

minus_low : (b : ℕ) → (b == 45) ≡ true → b < 128
minus_low b h = grind arith

first_low : (b : ℕ) → is_in_range 49 57 b ≡ true → b < 128
first_low b h = grind arith

dot_low : (b : ℕ) → (b == 46) ≡ true → b < 128
dot_low b h = grind arith

sign_low : (b : ℕ) → is_sign b ≡ true → b < 128
sign_low b h = grind arith

e_low : (b : ℕ) → is_e b ≡ true → b < 128
e_low b h = grind arith

utf8_minus : (t : List ℕ) → is_minus t ≡ true → IsUtf8 t
utf8_minus [] h = IsUtf8-nil
utf8_minus (b ∷ []) h = utf8_one b (minus_low b h)
utf8_minus (b ∷ c ∷ t) h = absurd cc

utf8_int : (t : List ℕ) → is_int t ≡ true → IsUtf8 t
utf8_int [] h = IsUtf8-nil
utf8_int (d ∷ []) h = utf8_one d (digit_low d h)
utf8_int (d ∷ e ∷ ds) h = let p = and_parts (is_in_range 49 57 d) (are_digits (e ∷ ds)) h in utf8_cons d (e ∷ ds) (first_low d p.0) (utf8_digits (e ∷ ds) p.1)

utf8_frac : (t : List ℕ) → is_frac t ≡ true → IsUtf8 t
utf8_frac [] h = IsUtf8-nil
utf8_frac (b ∷ ds) h = let p = and_parts (b == 46) (are_digits ds) h in utf8_cons b ds (dot_low b p.0) (utf8_digits ds p.1)

utf8_signed : (t : List ℕ) → are_signed_digits t ≡ true → IsUtf8 t
utf8_signed [] h = IsUtf8-nil
utf8_signed (b ∷ ds) h = elim (split (is_sign b) (are_digits ds) (are_digits (b ∷ ds)) true h) [
  | inl p ↦ utf8_cons b ds (sign_low b p.0) (utf8_digits ds p.1)
  | inr p ↦ utf8_digits (b ∷ ds) p.1
]

utf8_exp : (t : List ℕ) → is_exp t ≡ true → IsUtf8 t
utf8_exp [] h = IsUtf8-nil
utf8_exp (b ∷ ds) h = let p = and_parts (is_e b) (are_signed_digits ds) h in utf8_cons b ds (e_low b p.0) (utf8_signed ds p.1)

pub utf8_number : (t : List ℕ) → IsNumber t → IsUtf8 t
utf8_number t n = subst IsUtf8 (sym n.parts)
    (IsUtf8-append n.minus (n.int ++ (n.frac ++ n.exp)) (utf8_minus n.minus n.minus_is)
    (IsUtf8-append n.int (n.frac ++ n.exp) (utf8_int n.int n.int_is)
    (IsUtf8-append n.frac n.exp (utf8_frac n.frac n.frac_is) (utf8_exp n.exp n.exp_is))))

-- strings

escape_low : (b : ℕ) → is_escape b ≡ true → b < 128
escape_low b h = grind arith

hex_low : (b : ℕ) → is_hex b ≡ true → b < 128
hex_low b h = grind arith

utf8_unicode : (a b c d : ℕ) → (is_hex a && is_hex b && is_hex c && is_hex d) ≡ true → IsUtf8 (92 ∷ 117 ∷ a ∷ b ∷ c ∷ d ∷ [])
utf8_unicode a b c d h =
    let p = and_parts (is_hex a && is_hex b && is_hex c) (is_hex d) h in
    let q = and_parts (is_hex a && is_hex b) (is_hex c) p.0 in
    let r = and_parts (is_hex a) (is_hex b) q.0 in
    utf8_cons 92 _ (omega arith) (utf8_cons 117 _ (omega arith) (utf8_cons a _ (hex_low a r.0) (utf8_cons b _ (hex_low b r.1) (utf8_cons c _ (hex_low c q.1) (utf8_one d (hex_low d p.1))))))

utf8_written : (c : Char) → is_char c ≡ true → IsUtf8 (char_bytes c)
utf8_written (One a) h = utf8_one a (plain_low a h)
utf8_written (Two a b) h = let p = and_parts (is_in_range 194 223 a) (is_tail b) h in utf8_two a b p.0 p.1
utf8_written (Three a b c) h =
    let p = and_parts (is_in_range 224 239 a && is_second a b) (is_tail c) h in
    let q = and_parts (is_in_range 224 239 a) (is_second a b) p.0 in
    utf8_three a b c q.0 q.1 p.1
utf8_written (Four a b c d) h =
    let o = and_parts (is_in_range 240 244 a && is_second a b && is_tail c) (is_tail d) h in
    let p = and_parts (is_in_range 240 244 a && is_second a b) (is_tail c) o.0 in
    let q = and_parts (is_in_range 240 244 a) (is_second a b) p.0 in
    utf8_four a b c d q.0 q.1 p.1 o.1
utf8_written (Escape b) h = utf8_cons 92 (b ∷ []) (omega arith) (utf8_one b (escape_low b h))
utf8_written (Unicode a b c d) h = utf8_unicode a b c d h

utf8_inside : (cs : List Char) → AreChars cs → IsUtf8 (inside cs)
utf8_inside [] h = IsUtf8-nil
utf8_inside (c ∷ cs) h =
    let p = and_parts (is_char c) (list_all is_char cs) h in
    IsUtf8-append (char_bytes c) (inside cs) (utf8_written c p.0) (utf8_inside cs p.1)

utf8_quoted : (cs : List Char) (t : List ℕ) → AreChars cs → IsUtf8 t → IsUtf8 (34 ∷ (inside cs ++ 34 ∷ t))
utf8_quoted cs t h u = utf8_cons 34 (inside cs ++ 34 ∷ t) (omega arith) (IsUtf8-append (inside cs) (34 ∷ t) (utf8_inside cs h) (utf8_cons 34 t (omega arith) u))

-- values

abbrev AllUtf8 : {X : Type 0} → (List ℕ → X → Type 0) → Type 0
AllUtf8 {X} Is = (t : List ℕ) (x : X) → Is t x → IsUtf8 t

utf8_parted : {X : Type 0} (Is : List ℕ → X → Type 0) → AllUtf8 Is → (t : List ℕ) (xs : List X) → AreParted Is t xs → IsUtf8 t
utf8_parted Is each t xs (last u x is) = each u x is
utf8_parted Is each t xs (also u ws v x ys is blank more) =
    IsUtf8-append u (44 ∷ (ws ++ v)) (each u x is) (utf8_cons 44 (ws ++ v) (omega arith) (IsUtf8-append ws v (utf8_blanks ws blank) (utf8_parted Is each v ys more)))

utf8_between : {X : Type 0} (opening closing : ℕ) (Is : List ℕ → X → Type 0) → opening < 128 → closing < 128 → AllUtf8 Is → (t : List ℕ) (xs : List X) → AreBetween opening closing Is t xs → IsUtf8 t
utf8_between opening closing Is o c each t xs (nothing ws blank) =
    utf8_cons opening (ws ++ closing ∷ []) o (IsUtf8-append ws (closing ∷ []) (utf8_blanks ws blank) (utf8_one closing c))
utf8_between opening closing Is o c each t xs (something ws u ys blank are) =
    utf8_cons opening (ws ++ (u ++ closing ∷ [])) o (IsUtf8-append ws (u ++ closing ∷ []) (utf8_blanks ws blank) (IsUtf8-append u (closing ∷ []) (utf8_parted Is each u ys are) (utf8_one closing c)))

utf8_item : (Is : List ℕ → Value → Type 0) → AllUtf8 Is → AllUtf8 (IsItem Is)
utf8_item Is each t v (item u ws w is blank) = IsUtf8-append u ws (each u w is) (utf8_blanks ws blank)

utf8_member : (Is : List ℕ → Value → Type 0) → AllUtf8 Is → AllUtf8 (IsMember Is)
utf8_member Is each t m (member cs ws us u vs v are a b is c) =
    utf8_quoted cs (ws ++ 58 ∷ (us ++ (u ++ vs))) are (IsUtf8-append ws (58 ∷ (us ++ (u ++ vs))) (utf8_blanks ws a)
    (utf8_cons 58 (us ++ (u ++ vs)) (omega arith) (IsUtf8-append us (u ++ vs) (utf8_blanks us b) (IsUtf8-append u vs (each u v is) (utf8_blanks vs c)))))

abbrev small : ℕ → Bool
small b = is_in_range 97 122 b

small_low : (b : ℕ) → small b ≡ true → b < 128
small_low b h = grind arith

utf8_small : (t : List ℕ) → list_all small t ≡ true → IsUtf8 t
utf8_small t h = utf8_all small small_low t h

utf8_value_of : (O A : List ℕ → Type 0) → ((t : List ℕ) → O t → IsUtf8 t) → ((t : List ℕ) → A t → IsUtf8 t) → AllUtf8 (IsValueOf O A)
utf8_value_of O A o a t v (a_text cs are) = utf8_quoted cs [] are IsUtf8-nil
utf8_value_of O A o a t v (a_number u is) = utf8_number u is
utf8_value_of O A o a t v a_true = utf8_small _ refl
utf8_value_of O A o a t v a_false = utf8_small _ refl
utf8_value_of O A o a t v a_null = utf8_small _ refl
utf8_value_of O A o a t v (an_object u is) = o u is
utf8_value_of O A o a t v (an_array u is) = a u is

utf8_nested : (n : ℕ) → ((t : List ℕ) → IsObjectIn n t → IsUtf8 t) × ((t : List ℕ) → IsArrayIn n t → IsUtf8 t)
unfolding IsObjectIn IsArrayIn
utf8_nested zero = (λ t is. absurd is, λ t is. absurd is)
utf8_nested (suc n) =
    let p = utf8_nested n in
    let values = utf8_value_of (IsObjectIn n) (IsArrayIn n) p.0 p.1 in (
      λ t is. utf8_between 123 125 (IsMember (IsValue n)) (omega arith) (omega arith) (utf8_member (IsValue n) values) t is.0 is.1,
      λ t is. utf8_between 91 93 (IsItem (IsValue n)) (omega arith) (omega arith) (utf8_item (IsValue n) values) t is.0 is.1,
    )

pub utf8_array : (n : ℕ) (t : List ℕ) → IsArrayIn n t → IsUtf8 t
utf8_array n t is = (utf8_nested n).1 t is

pub utf8_object : (n : ℕ) (t : List ℕ) → IsObjectIn n t → IsUtf8 t
utf8_object n t is = (utf8_nested n).0 t is

pub utf8_text : (whole : List ℕ) (ms : List Pair) → IsObjectText whole ms → IsUtf8 whole
utf8_text whole ms is =
    let p = utf8_nested 63 in
    let object : IsUtf8 is.t = utf8_between 123 125 (IsMember (IsValue 63)) (omega arith) (omega arith) (utf8_member (IsValue 63) (utf8_value_of (IsObjectIn 63) (IsArrayIn 63) p.0 p.1)) is.t ms is.is in
    subst IsUtf8 (sym is.parts) (IsUtf8-append is.before (is.t ++ is.behind) (utf8_blanks is.before is.before_is) (IsUtf8-append is.t is.behind object (utf8_blanks is.behind is.behind_is)))

pub utf8_raw : (raw : List ℕ) → IsInside raw → IsUtf8 raw
utf8_raw raw is = subst IsUtf8 (sym is.2) (utf8_inside is.0 is.1)

-- the parts of an object

value_formed : (n : ℕ) (t : List ℕ) (v : Value) → IsValue n t v → IsFormed n v
value_formed n t v (a_text cs are) = (cs, are, refl)
value_formed n t v (a_number u is) = is
value_formed n t v a_true = tt
value_formed n t v a_false = tt
value_formed n t v a_null = tt
value_formed n t v (an_object u is) = is
value_formed n t v (an_array u is) = is

member_formed : (n : ℕ) (t : List ℕ) (m : Pair) → IsMember (IsValue n) t m → IsFormedPair n m
member_formed n t m (member cs ws us u vs v are a b is c) = ((cs, are, refl), value_formed n u v is)

parted_formed : (n : ℕ) (t : List ℕ) (ms : List Pair) → AreParted (IsMember (IsValue n)) t ms → AllByRecursion (IsFormedPair n) ms
parted_formed n t ms (last u m is) = (member_formed n u m is, tt)
parted_formed n t ms (also u ws v m os is blank more) = (member_formed n u m is, parted_formed n v os more)

object_formed : (n : ℕ) (t : List ℕ) (ms : List Pair) → IsObject n t ms → AllByRecursion (IsFormedPair n) ms
object_formed n t ms (nothing ws blank) = tt
object_formed n t ms (something ws u os blank are) = parted_formed n u os are

seen : (P : Pair → Type 0) (ms : List Member) → AllByRecursion P (map pair_view ms) → AllByRecursion (λ m. P (pair_view m)) ms
seen P [] h = tt
seen P (m ∷ ms) h = (h.0, seen P ms h.1)

pub members_formed : (n : ℕ) (t : List ℕ) (ms : List Member) → IsObject n t (map pair_view ms) → All (λ m. IsFormedPair n (pair_view m)) ms
members_formed n t ms is = All-from_recursion (λ m. IsFormedPair n (pair_view m)) ms (seen (IsFormedPair n) ms (object_formed n t (map pair_view ms) is))

pub formed_by : {X : Type 0} (view : X → List Member) (text : List ℕ) (result : Result X JsonRefusal) → Answers (λ x. map pair_view (view x)) result (object_of text)
    → IfOk result (λ x. All (λ m. IsFormedPair 63 (pair_view m)) (view x))
formed_by view text (Ok x) h = let is = object_found text (map pair_view (view x)) h in members_formed 63 is.t (view x) is.is
formed_by view text (Err e) h = tt

pub object_some : (n : ℕ) (t : List ℕ) → IsObjectIn n t → 0 < n
unfolding IsObjectIn
object_some zero t is = absurd is
object_some (suc n) t is = omega arith

pub object_opened : (n : ℕ) (t : List ℕ) → IsObjectIn n t → (ms : List Pair) × IsObject (n - 1) t ms
unfolding IsObjectIn
object_opened zero t is = absurd is
object_opened (suc n) t is = let one : suc n - 1 ≡ n = omega arith in subst (λ (k : ℕ). (ms : List Pair) × IsObject k t ms) (sym one) is
