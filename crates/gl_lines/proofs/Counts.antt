-- A MSG-LEN at the front of a text, and texts that never have one.
use Rattle.std.proofs.Common.{◌≡◌, ℕ, zero, suc, inl, inr, ◌+◌, ◌-◌, ◌*◌, ◌^◌, ◌<◌, ◌≤◌, Bool, true, false, not, ◌&&◌, nat_lt, nat_le, nat_eq, ◌==◌, List, [], ◌∷◌, ◌++◌, length, take, drop, get_or, refl, sym, ap, ◌∙◌, arith}
use Rattle.std.specs.List.{prefix_len, list_all}
use Rattle.std.proofs.lemmas.List.{take-append-le, drop-append-le, append-nil, get_or_past}
use Rattle.std.proofs.lemmas.List.Folds.{prefix_len-append}
use Rattle.std.proofs.Math.ListN.{get_or-append}
use Rattle.std.proofs.Math.Nat.{mul-le-mul_left}
use Rattle.std.proofs.lemmas.Bool.{eqb-true}
use Rattle.std.proofs.lemmas.Bool.Decides.{leb_tells}
use Rattle.std.proofs.Math.Seq.{get_or-append_seam, take-append_seam}
use Rattle.std.specs.Char.{is_ascii_digit}
use Rattle.gl_base.specs.Digits.{decimal}
use Rattle.gl_lines.specs.LineFraming.{has_count, count, behind_count, has_no_end}
use Rattle.gl_lines.specs.Fronts.{goes_on, ends_count}
use Rattle.gl_lines.proofs.Bools.{and_both, and_holds, and_left, and_right, and_one}

pub prefix_all : (ds xs : List ℕ) → list_all is_ascii_digit ds ≡ true → prefix_len is_ascii_digit (ds ++ xs) ≡ length ds + prefix_len is_ascii_digit xs
prefix_all [] xs h = omega arith
prefix_all (d ∷ ds) xs h =
    let both = and_both (is_ascii_digit d) (list_all is_ascii_digit ds) h in
    let rest = prefix_all ds xs both.1 in
    let one : prefix_len is_ascii_digit (d ∷ (ds ++ xs)) ≡ 1 + prefix_len is_ascii_digit (ds ++ xs) = rw both.0 refl in
    one ∙ omega (arith, rest)

-- the test of a MSG-LEN, by how many digits stand at the front
test_of : ℕ → List ℕ → Bool
test_of n text = nat_lt 0 n && nat_le n 7 && not (get_or text 0 0 == 48) && get_or text n 0 == 32

count_test : (text : List ℕ) (n : ℕ) → prefix_len is_ascii_digit text ≡ n → has_count text ≡ test_of n text
unfolding has_count test_of
count_test text n h = rw h refl

last_fails : (n : ℕ) (text : List ℕ) → (get_or text n 0 == 32) ≡ false → test_of n text ≡ false
unfolding test_of
last_fails n text h = and_right (nat_lt 0 n && nat_le n 7 && not (get_or text 0 0 == 48)) (get_or text n 0 == 32) h

none_fails : (n : ℕ) (text : List ℕ) → n ≡ 0 → test_of n text ≡ false
unfolding test_of
none_fails n text h = rw h refl

many_fail : (n : ℕ) (text : List ℕ) → 7 < n → test_of n text ≡ false
unfolding test_of
many_fail n text h =
    let over : nat_le n 7 ≡ false = grind arith in
    rw over (and_left (nat_lt 0 n && false && not (get_or text 0 0 == 48)) (get_or text n 0 == 32) (and_left (nat_lt 0 n && false) (not (get_or text 0 0 == 48)) (and_right (nat_lt 0 n) false refl)))

zero_fails : (n : ℕ) (text : List ℕ) → get_or text 0 0 ≡ 48 → test_of n text ≡ false
unfolding test_of
zero_fails n text h =
    let is : (get_or text 0 0 == 48) ≡ true = rw h refl in
    rw is (and_left (nat_lt 0 n && nat_le n 7 && false) (get_or text n 0 == 32) (and_right (nat_lt 0 n && nat_le n 7) false refl))

other_fails : (ds : List ℕ) (b : ℕ) (text : List ℕ) → get_or text (length ds) 0 ≡ b → ends_count (length ds) b ≡ false → test_of (length ds) text ≡ false
other_fails ds b text at ends =
    elim (and_one (nat_lt 0 (length ds)) (b == 32) ends) [
      | inl none ↦ none_fails (length ds) text (grind arith)
      | inr other ↦ last_fails (length ds) text (rw at other.1)
    ]

digit_fails : (ds : List ℕ) (b : ℕ) (more : List ℕ) (n : ℕ) → length ds < n → is_ascii_digit b ≡ true → goes_on (length ds) b ≡ false → test_of n (ds ++ b ∷ more) ≡ false
digit_fails [] b more n lt e goes = zero_fails n (b ∷ more) (grind arith)
digit_fails (d ∷ ds) b more n lt e goes = many_fail n (d ∷ ds ++ b ∷ more) (grind arith)

never_digit : (t : Bool) (ds : List ℕ) (b : ℕ) (more : List ℕ) → is_ascii_digit b ≡ t → list_all is_ascii_digit ds ≡ true → goes_on (length ds) b ≡ false → ends_count (length ds) b ≡ false
    → has_count (ds ++ b ∷ more) ≡ false
never_digit true ds b more e all goes ends =
    let n : prefix_len is_ascii_digit (ds ++ b ∷ more) ≡ length ds + prefix_len is_ascii_digit (b ∷ more) = prefix_all ds (b ∷ more) all in
    let one : prefix_len is_ascii_digit (b ∷ more) ≡ 1 + prefix_len is_ascii_digit more = rw e refl in
    count_test (ds ++ b ∷ more) (length ds + prefix_len is_ascii_digit (b ∷ more)) n
    ∙ digit_fails ds b more (length ds + prefix_len is_ascii_digit (b ∷ more)) (omega arith) e goes
never_digit false ds b more e all goes ends =
    let none : prefix_len is_ascii_digit (b ∷ more) ≡ 0 = rw e refl in
    let n : prefix_len is_ascii_digit (ds ++ b ∷ more) ≡ length ds = prefix_all ds (b ∷ more) all ∙ omega arith in
    let at : get_or (ds ++ b ∷ more) (length ds) 0 ≡ b = get_or-append_seam ds b more 0 in
    count_test (ds ++ b ∷ more) (length ds) n ∙ other_fails ds b (ds ++ b ∷ more) at ends

pub never_counts : (ds : List ℕ) (b : ℕ) → list_all is_ascii_digit ds ≡ true → goes_on (length ds) b ≡ false → ends_count (length ds) b ≡ false
    → (more : List ℕ) → has_count (ds ++ b ∷ more) ≡ false
never_counts ds b all goes ends more = never_digit (is_ascii_digit b) ds b more refl all goes ends

test_same : (n : ℕ) (text other : List ℕ) → get_or other 0 0 ≡ get_or text 0 0 → get_or other n 0 ≡ get_or text n 0 → test_of n other ≡ test_of n text
unfolding test_of
test_same n text other first last = rw (first, last) refl

past_end : (text : List ℕ) (n : ℕ) → length text ≤ n → get_or text n 0 ≡ 0
past_end text n h = get_or_past text n 0 h

has_space : (n : ℕ) (text : List ℕ) → test_of n text ≡ true → get_or text n 0 ≡ 32
unfolding test_of
has_space n text h =
    let both = and_both (nat_lt 0 n && nat_le n 7 && not (get_or text 0 0 == 48)) (get_or text n 0 == 32) h in
    eqb-true (get_or text n 0) 32 both.1

has_within : (n : ℕ) (text : List ℕ) → test_of n text ≡ true → n < length text
has_within n text h =
    let space : get_or text n 0 ≡ 32 = has_space n text h in
    elim (leb_tells (length text) n) [
      | inl out ↦ let nothing : get_or text n 0 ≡ 0 = past_end text n out.1 in absurd (omega arith)
      | inr within ↦ within.1
    ]

stops : (p : ℕ → Bool) (text more : List ℕ) → prefix_len p text < length text → prefix_len p (text ++ more) ≡ prefix_len p text
stops p text more h =
    let other : nat_eq (prefix_len p text) (length text) ≡ false = grind arith in
    prefix_len-append p text more ∙ rw other refl

count_of : (text : List ℕ) (n : ℕ) → prefix_len is_ascii_digit text ≡ n → count text ≡ decimal 0 (take n text)
unfolding count
count_of text n h = rw h refl

behind_of : (text : List ℕ) (n : ℕ) → prefix_len is_ascii_digit text ≡ n → behind_count text ≡ drop (n + 1) text
unfolding behind_count
behind_of text n h = rw h refl

-- a MSG-LEN stays, however the text goes on
pub count_stays : (text more : List ℕ) → has_count text ≡ true
    → (has_count (text ++ more) ≡ true) × (count (text ++ more) ≡ count text) × (behind_count (text ++ more) ≡ behind_count text ++ more)
count_stays text more h =
    let n = prefix_len is_ascii_digit text in
    let test : test_of n text ≡ true = sym (count_test text n refl) ∙ h in
    let within : n < length text = has_within n text test in
    let same : prefix_len is_ascii_digit (text ++ more) ≡ n = stops is_ascii_digit text more within in
    let first : get_or (text ++ more) 0 0 ≡ get_or text 0 0 = get_or-append text more 0 0 (omega arith) in
    let last : get_or (text ++ more) n 0 ≡ get_or text n 0 = get_or-append text more 0 n within in (
      count_test (text ++ more) n same ∙ test_same n text (text ++ more) first last ∙ test,
      count_of (text ++ more) n same ∙ ap (decimal 0) (take-append-le n text more (omega arith)) ∙ sym (count_of text n refl),
      behind_of (text ++ more) n same ∙ drop-append-le (n + 1) text more (omega arith) ∙ ap (λ (bs : List ℕ). bs ++ more) (sym (behind_of text n refl)),
    )

-- digits alone have none
pub digits_alone : (ds : List ℕ) → list_all is_ascii_digit ds ≡ true → has_count ds ≡ false
digits_alone ds all =
    let n : prefix_len is_ascii_digit ds ≡ length ds = ap (prefix_len is_ascii_digit) (sym (append-nil ds)) ∙ prefix_all ds [] all ∙ omega arith in
    count_test ds (length ds) n ∙ last_fails (length ds) ds (rw (past_end ds (length ds) (omega arith)) refl)

test_holds : (n : ℕ) (text : List ℕ) → 0 < n → n ≤ 7 → (get_or text 0 0 == 48) ≡ false → get_or text n 0 ≡ 32 → test_of n text ≡ true
unfolding test_of
test_holds n text some few first space =
    let lt : nat_lt 0 n ≡ true = grind arith in
    let le : nat_le n 7 ≡ true = grind arith in
    rw (lt, le, first, space) refl

-- digits and a space are one
pub count_ends : (ds : List ℕ) → list_all is_ascii_digit ds ≡ true → length ds ≤ 7 → (get_or ds 0 0 == 48) ≡ false → 0 < length ds
    → (has_count (ds ++ 32 ∷ []) ≡ true) × (count (ds ++ 32 ∷ []) ≡ decimal 0 ds) × (behind_count (ds ++ 32 ∷ []) ≡ drop (length ds + 1) (ds ++ 32 ∷ []))
count_ends ds all few first some =
    let text = ds ++ 32 ∷ [] in
    let n : prefix_len is_ascii_digit text ≡ length ds = prefix_all ds (32 ∷ []) all ∙ omega arith in
    let same : get_or text 0 0 ≡ get_or ds 0 0 = get_or-append ds (32 ∷ []) 0 0 some in
    let space : get_or text (length ds) 0 ≡ 32 = get_or-append_seam ds 32 [] 0 in (
      count_test text (length ds) n ∙ test_holds (length ds) text some few (rw same first) space,
      count_of text (length ds) n ∙ ap (decimal 0) (take-append_seam ds (32 ∷ [])),
      behind_of text (length ds) n,
    )

pub decimal_push : (n : ℕ) (ds : List ℕ) (d : ℕ) → decimal n (ds ++ d ∷ []) ≡ decimal n ds * 10 + (d - 48)
decimal_push n [] d = refl
decimal_push n (c ∷ ds) d = decimal_push (n * 10 + (c - 48)) ds d

pow_some : (k : ℕ) → 1 ≤ 10 ^ k
pow_some zero = omega arith
pow_some (suc k) =
    let before = pow_some k in
    let pow : 10 ^ suc k ≡ 10 * 10 ^ k = omega arith in
    rw pow (omega (arith, before))

pub decimal_short : (k n : ℕ) (ds : List ℕ) → list_all is_ascii_digit ds ≡ true → length ds ≤ k → decimal n ds < (n + 1) * 10 ^ k
decimal_short k n [] all few =
    let one : 1 ≤ 10 ^ k = pow_some k in
    omega (arith, mul-le-mul_left (n + 1) one)
decimal_short zero n (d ∷ ds) all few = absurd (omega arith)
decimal_short (suc k) n (d ∷ ds) all few =
    let both = and_both (is_ascii_digit d) (list_all is_ascii_digit ds) all in
    let small : d - 48 ≤ 9 = grind arith in
    let rest = decimal_short k (n * 10 + (d - 48)) ds both.1 (omega arith) in
    let more : n * 10 + (d - 48) + 1 ≤ 10 * (n + 1) = omega arith in
    let up : 10 ^ k * (n * 10 + (d - 48) + 1) ≤ 10 ^ k * (10 * (n + 1)) = mul-le-mul_left (10 ^ k) more in
    let pow : 10 ^ suc k ≡ 10 * 10 ^ k = omega arith in
    rw pow (omega (arith, rest, up))

digit_goes : (d : ℕ) → is_ascii_digit d ≡ true → not (d == 10) ≡ true
digit_goes d h = grind arith

pub digits_no_end : (ds : List ℕ) → list_all is_ascii_digit ds ≡ true → has_no_end ds ≡ true
digits_no_end [] all = refl
digits_no_end (d ∷ ds) all =
    let both = and_both (is_ascii_digit d) (list_all is_ascii_digit ds) all in
    and_holds (not (d == 10)) (has_no_end ds) (digit_goes d both.0) (digits_no_end ds both.1)

-- behind the first byte that is no digit a MSG-LEN is told
pub count_cut : (text more : List ℕ) → prefix_len is_ascii_digit text < length text → has_count (text ++ more) ≡ has_count text
count_cut text more within =
    let n = prefix_len is_ascii_digit text in
    let first : get_or (text ++ more) 0 0 ≡ get_or text 0 0 = get_or-append text more 0 0 (omega arith) in
    let last : get_or (text ++ more) n 0 ≡ get_or text n 0 = get_or-append text more 0 n within in
    count_test (text ++ more) n (stops is_ascii_digit text more within) ∙ test_same n text (text ++ more) first last ∙ sym (count_test text n refl)

test_few : (n : ℕ) (text : List ℕ) → test_of n text ≡ true → n ≤ 7
unfolding test_of
test_few n text h =
    let one = and_both (nat_lt 0 n && nat_le n 7 && not (get_or text 0 0 == 48)) (get_or text n 0 == 32) h in
    let two = and_both (nat_lt 0 n && nat_le n 7) (not (get_or text 0 0 == 48)) one.0 in
    let three = and_both (nat_lt 0 n) (nat_le n 7) two.0 in
    let few = three.1 in
    grind arith

pub count_short : (text : List ℕ) → has_count text ≡ true → prefix_len is_ascii_digit text ≤ 7
count_short text h = test_few (prefix_len is_ascii_digit text) text (sym (count_test text (prefix_len is_ascii_digit text) refl) ∙ h)
