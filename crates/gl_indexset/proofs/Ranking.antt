-- Sums over sums: what stands before a place, and what a change of one count changes.
use Rattle.std.proofs.Common.{◌≡◌, ℕ, zero, suc, ◌+◌, ◌-◌, ◌*◌, ◌/◌, ◌<◌, ◌≤◌, List, [], ◌∷◌, ◌++◌, Some, length, get_or, set, take, drop, refl, sym, ◌∙◌, ap, subst, arith, length-append, length-drop, length-set, length-take}
use Rattle.std.specs.List.{sum, slice_get}
use Rattle.std.proofs.Math.Seq.{drop-cons}
use Rattle.std.proofs.lemmas.List.{append_assoc, append-nil, drop_all, take_all}
use Rattle.std.proofs.lemmas.List.Sums.{sum_by-cons}
use Rattle.std.proofs.lemmas.Option.{get_or_from_slice_get}
use Rattle.gl_indexset.specs.Ranks.{paired, AreSums, counts_of}

sum_cons : (x : ℕ) (xs : List ℕ) → sum (x ∷ xs) ≡ x + sum xs
sum_cons x xs = sum_by-cons (λ (y : ℕ). y) x xs

pub in_row : (counts : List ℕ) (n : ℕ) → 0 < get_or counts n 0 → n < length counts
in_row [] n some = absurd (omega (arith, some))
in_row (a ∷ counts) zero some = omega arith
in_row (a ∷ counts) (suc n) some = omega (arith, in_row counts n some)

pub count_le_sum : (counts : List ℕ) (n : ℕ) → get_or counts n 0 ≤ sum counts
count_le_sum [] n = omega arith
count_le_sum (a ∷ counts) zero = omega (arith, sum_cons a counts)
count_le_sum (a ∷ counts) (suc n) = omega (arith, sum_cons a counts, count_le_sum counts n)

-- twice a number, one step for each two
abbrev double : ℕ → ℕ
double zero = zero
double (suc n) = suc (suc (double n))

double_is : (n : ℕ) → double n ≡ n * 2
double_is zero = refl
double_is (suc n) = omega (arith, double_is n)

pub length_paired : (counts : List ℕ) → length (paired counts) ≡ (length counts + 1) / 2
length_paired [] = omega arith
length_paired (a ∷ []) = omega arith
length_paired (a ∷ (b ∷ counts)) = omega (arith, length_paired counts)

pair_is : (counts : List ℕ) (n : ℕ) → get_or (paired counts) n 0 ≡ get_or counts (double n) 0 + get_or counts (suc (double n)) 0
pair_is [] n = omega arith
pair_is (a ∷ []) zero = omega arith
pair_is (a ∷ []) (suc n) = omega arith
pair_is (a ∷ (b ∷ counts)) zero = refl
pair_is (a ∷ (b ∷ counts)) (suc n) = pair_is counts n

pub sum_paired : (counts : List ℕ) → sum (paired counts) ≡ sum counts
sum_paired [] = refl
sum_paired (a ∷ []) = refl
sum_paired (a ∷ (b ∷ counts)) = omega (arith, sum_cons (a + b) (paired counts), sum_cons a (b ∷ counts), sum_cons b counts, sum_paired counts)

sum_before : (counts : List ℕ) (n : ℕ) → sum (take (double n) counts) ≡ sum (take n (paired counts))
sum_before [] zero = refl
sum_before [] (suc n) = refl
sum_before (a ∷ []) zero = refl
sum_before (a ∷ []) (suc zero) = refl
sum_before (a ∷ []) (suc (suc n)) = refl
sum_before (a ∷ (b ∷ counts)) zero = refl
sum_before (a ∷ (b ∷ counts)) (suc n) =
    omega (arith, sum_cons a (b ∷ take (double n) counts), sum_cons b (take (double n) counts), sum_cons (a + b) (take n (paired counts)), sum_before counts n)

pub sum_next : (counts : List ℕ) (n : ℕ) → sum (take (suc n) counts) ≡ sum (take n counts) + get_or counts n 0
sum_next [] zero = refl
sum_next [] (suc n) = refl
sum_next (a ∷ counts) zero = omega (arith, sum_cons a [])
sum_next (a ∷ counts) (suc n) = omega (arith, sum_cons a (take (suc n) counts), sum_cons a (take n counts), sum_next counts n)

-- one pair more
pub pair_next : (counts : List ℕ) (n : ℕ) → get_or (paired counts) n 0 ≡ get_or counts (n * 2) 0 + get_or counts (n * 2 + 1) 0
pair_next counts n = pair_is counts n ∙ ap (λ m. get_or counts m 0 + get_or counts (suc m) 0) (double_is n) ∙ ap (λ m. get_or counts (n * 2) 0 + get_or counts m 0) (next (n * 2))
  where
    next : (m : ℕ) → suc m ≡ m + 1
    next m = omega arith

pub pair_fits : (counts : List ℕ) (n : ℕ) → get_or counts (n * 2) 0 + get_or counts (n * 2 + 1) 0 ≤ sum counts
pair_fits counts n = omega (arith, pair_next counts n, count_le_sum (paired counts) n, sum_paired counts)

-- from a sum to the first of its two, or to the second
module _ (counts : List ℕ) (at rest : ℕ) (here : rest < get_or (paired counts) at 0) where
  pub pair_in_row : at * 2 < length counts
  pair_in_row = omega (arith, in_row (paired counts) at (omega (arith, here)), length_paired counts)

  pub first_before : sum (take (at * 2) counts) ≡ sum (take at (paired counts))
  first_before = ap (λ m. sum (take m counts)) (sym (double_is at)) ∙ sum_before counts at

  pub second_before : get_or counts (at * 2) 0 ≤ rest → sum (take (at * 2 + 1) counts) + (rest - get_or counts (at * 2) 0) ≡ sum (take at (paired counts)) + rest
  second_before le = omega (arith, first_before, subst (λ m. sum (take m counts) ≡ sum (take (at * 2) counts) + get_or counts (at * 2) 0) (next (at * 2)) (sum_next counts (at * 2)), le)
    where
      next : (m : ℕ) → suc m ≡ m + 1
      next m = omega arith

  pub second_here : get_or counts (at * 2) 0 ≤ rest → rest - get_or counts (at * 2) 0 < get_or counts (at * 2 + 1) 0
  second_here le = omega (arith, here, pair_next counts at, le)

-- each level is that of the pairs of the one below
pub pair_level : (levels : List (List ℕ)) → AreSums levels → (k : ℕ) → suc k < length levels → get_or levels (suc k) [] ≡ paired (get_or levels k [])
pair_level [] sums k lt = absurd (omega (arith, lt))
pair_level (counts ∷ []) sums k lt = absurd (omega (arith, lt))
pair_level (counts ∷ (above ∷ levels)) sums zero lt = sums.0
pair_level (counts ∷ (above ∷ levels)) sums (suc k) lt = pair_level (above ∷ levels) sums.1 k (omega (arith, lt))

pub level_under : (levels : List (List ℕ)) → AreSums levels → (k : ℕ) → 0 < k → k < length levels → get_or levels k [] ≡ paired (get_or levels (k - 1) [])
level_under levels sums k some lt =
    subst (λ m. get_or levels m [] ≡ paired (get_or levels (k - 1) [])) (back k some) (pair_level levels sums (k - 1) (omega (arith, some, lt)))
  where
    back : (n : ℕ) → 0 < n → suc (n - 1) ≡ n
    back n h = omega arith

pub level_is : (levels : List (List ℕ)) (k : ℕ) (counts : List ℕ) → k < length levels → counts ≡ get_or levels k counts → get_or levels k [] ≡ counts
level_is [] k counts lt is = absurd (omega (arith, lt))
level_is (first ∷ levels) zero counts lt is = sym is
level_is (first ∷ levels) (suc k) counts lt is = level_is levels k counts (omega (arith, lt)) is

pub sum_level : (levels : List (List ℕ)) → AreSums levels → (k : ℕ) → k < length levels → sum (get_or levels k []) ≡ sum (counts_of levels)
sum_level [] sums k lt = absurd (omega (arith, lt))
sum_level (counts ∷ levels) sums zero lt = refl
sum_level (counts ∷ []) sums (suc k) lt = absurd (omega (arith, lt))
sum_level (counts ∷ (above ∷ levels)) sums (suc k) lt =
    sum_level (above ∷ levels) sums.1 k (omega (arith, lt)) ∙ ap (λ (l : List ℕ). sum l) sums.0 ∙ sum_paired counts

pub top_level : (levels : List (List ℕ)) → AreSums levels → length (get_or levels (length levels - 1) []) ≤ 1
top_level [] sums = omega arith
top_level (counts ∷ []) sums = sums
top_level (counts ∷ (above ∷ levels)) sums =
    subst (λ m. length (get_or (counts ∷ (above ∷ levels)) m []) ≤ 1) (lower (length levels)) (top_level (above ∷ levels) sums.1)
  where
    lower : (n : ℕ) → suc (suc n - 1) ≡ suc (suc n) - 1
    lower n = omega arith

pub lowest_level : (levels : List (List ℕ)) → get_or levels 0 [] ≡ counts_of levels
lowest_level [] = refl
lowest_level (counts ∷ levels) = refl

sum_one : (counts : List ℕ) → length counts ≤ 1 → sum counts ≡ get_or counts 0 0
sum_one [] short = refl
sum_one (a ∷ []) short = omega (arith, sum_cons a [])
sum_one (a ∷ (b ∷ counts)) short = absurd (omega (arith, short))

-- where what is counted is under the top
pub under_top : (levels : List (List ℕ)) → AreSums levels → (n : ℕ) → n < sum (counts_of levels) → n < get_or (get_or levels (length levels - 1) []) 0 0
under_top [] sums n lt = absurd (omega (arith, lt))
under_top (counts ∷ levels) sums n lt =
    omega (arith, sum_one (get_or (counts ∷ levels) (length (counts ∷ levels) - 1) []) (top_level (counts ∷ levels) sums), sum_level (counts ∷ levels) sums (length (counts ∷ levels) - 1) (omega arith), lt)

pub some_level : (levels : List (List ℕ)) (n : ℕ) → n < sum (counts_of levels) → 0 < length levels
some_level [] n lt = absurd (omega (arith, lt))
some_level (counts ∷ levels) n lt = omega arith

-- a change of one count
abbrev pub changed : (ℕ → ℕ) → ℕ → List ℕ → List ℕ
changed f at counts = set counts at (f (get_or counts at 0))

-- and of each sum over it
abbrev pub change_each : (ℕ → ℕ) → ℕ → List (List ℕ) → List (List ℕ)
change_each f at [] = []
change_each f at (counts ∷ levels) = changed f at counts ∷ change_each f (at / 2) levels

abbrev pub more : ℕ → ℕ
more n = n + 1

abbrev pub less : ℕ → ℕ
less n = n - 1

half_next : (n : ℕ) → suc (n / 2) ≡ suc (suc n) / 2
half_next n = omega arith

raised_paired : (counts : List ℕ) (n : ℕ) → n < length counts → changed more (n / 2) (paired counts) ≡ paired (changed more n counts)
raised_paired [] n lt = absurd (omega (arith, lt))
raised_paired (a ∷ []) zero lt = refl
raised_paired (a ∷ []) (suc n) lt = absurd (omega (arith, lt))
raised_paired (a ∷ (b ∷ counts)) zero lt = ap (λ x. x ∷ paired counts) (first a b)
  where
    first : (x y : ℕ) → (x + y) + 1 ≡ (x + 1) + y
    first x y = omega arith
raised_paired (a ∷ (b ∷ counts)) (suc zero) lt = ap (λ x. x ∷ paired counts) (second a b)
  where
    second : (x y : ℕ) → (x + y) + 1 ≡ x + (y + 1)
    second x y = omega arith
raised_paired (a ∷ (b ∷ counts)) (suc (suc n)) lt =
    ap (λ m. changed more m ((a + b) ∷ paired counts)) (sym (half_next n))
    ∙ ap (λ (l : List ℕ). (a + b) ∷ l) (raised_paired counts n (omega (arith, lt)))

lowered_paired : (counts : List ℕ) (n : ℕ) → 0 < get_or counts n 0 → changed less (n / 2) (paired counts) ≡ paired (changed less n counts)
lowered_paired [] n some = absurd (omega (arith, some))
lowered_paired (a ∷ []) zero some = refl
lowered_paired (a ∷ []) (suc n) some = absurd (omega (arith, some))
lowered_paired (a ∷ (b ∷ counts)) zero some = ap (λ x. x ∷ paired counts) (first a b some)
  where
    first : (x y : ℕ) → 0 < x → (x + y) - 1 ≡ (x - 1) + y
    first x y lt = omega arith
lowered_paired (a ∷ (b ∷ counts)) (suc zero) some = ap (λ x. x ∷ paired counts) (second a b some)
  where
    second : (x y : ℕ) → 0 < y → (x + y) - 1 ≡ x + (y - 1)
    second x y lt = omega arith
lowered_paired (a ∷ (b ∷ counts)) (suc (suc n)) some =
    ap (λ m. changed less m ((a + b) ∷ paired counts)) (sym (half_next n))
    ∙ ap (λ (l : List ℕ). (a + b) ∷ l) (lowered_paired counts n some)

pub half_some : (counts : List ℕ) (n : ℕ) → 0 < get_or counts n 0 → 0 < get_or (paired counts) (n / 2) 0
half_some [] n some = absurd (omega (arith, some))
half_some (a ∷ []) zero some = some
half_some (a ∷ []) (suc n) some = absurd (omega (arith, some))
half_some (a ∷ (b ∷ counts)) zero some = omega (arith, some)
half_some (a ∷ (b ∷ counts)) (suc zero) some = omega (arith, some)
half_some (a ∷ (b ∷ counts)) (suc (suc n)) some = subst (λ m. 0 < get_or ((a + b) ∷ paired counts) m 0) (half_next n) (half_some counts n some)

pub half_in : (counts : List ℕ) (n : ℕ) → n < length counts → n / 2 < length (paired counts)
half_in counts n lt = omega (arith, length_paired counts, lt)

-- A kind of change that goes up from the counts to each sum over them.
module _ (f : ℕ → ℕ) (Fine : ℕ → List ℕ → Type 0)
    (goes : (counts : List ℕ) (n : ℕ) → Fine n counts → changed f (n / 2) (paired counts) ≡ paired (changed f n counts))
    (up : (counts : List ℕ) (n : ℕ) → Fine n counts → Fine (n / 2) (paired counts)) where
  each_sums : (levels : List (List ℕ)) (n : ℕ) → AreSums levels → Fine n (counts_of levels) → AreSums (change_each f n levels)
  each_sums [] n sums fine = tt
  each_sums (counts ∷ []) n sums fine = omega (arith, length-set counts n (f (get_or counts n 0)), sums)
  each_sums (counts ∷ (above ∷ levels)) n sums fine = (
    ap (λ (l : List ℕ). changed f (n / 2) l) sums.0 ∙ goes counts n fine,
    each_sums (above ∷ levels) (n / 2) sums.1 (subst (λ (l : List ℕ). Fine (n / 2) l) (sym sums.0) (up counts n fine)),
  )

pub raised_sums : (levels : List (List ℕ)) (n : ℕ) → AreSums levels → n < length (counts_of levels) → AreSums (change_each more n levels)
raised_sums = each_sums more (λ n counts. n < length counts) raised_paired half_in

pub lowered_sums : (levels : List (List ℕ)) (n : ℕ) → AreSums levels → 0 < get_or (counts_of levels) n 0 → AreSums (change_each less n levels)
lowered_sums = each_sums less (λ n counts. 0 < get_or counts n 0) lowered_paired half_some

pub each_counts : (f : ℕ → ℕ) (n : ℕ) (levels : List (List ℕ)) → 0 < length levels → counts_of (change_each f n levels) ≡ changed f n (counts_of levels)
each_counts f n [] some = absurd (omega (arith, some))
each_counts f n (counts ∷ levels) some = refl

pub length_each : (f : ℕ → ℕ) (n : ℕ) (levels : List (List ℕ)) → length (change_each f n levels) ≡ length levels
length_each f n [] = refl
length_each f n (counts ∷ levels) = omega (arith, length_each f (n / 2) levels)

-- what a loop changes at a level, and what is left above it
module _ (f : ℕ → ℕ) (n place : ℕ) (levels : List (List ℕ)) (k : ℕ) (lt : k < length levels)
    (rest : drop k (change_each f n levels) ≡ change_each f place (drop k levels)) where
  both : get_or (change_each f n levels) k [] ∷ drop (suc k) (change_each f n levels) ≡ changed f place (get_or levels k []) ∷ change_each f (place / 2) (drop (suc k) levels)
  both = sym (drop-cons (change_each f n levels) k [] (omega (arith, length_each f n levels, lt))) ∙ rest ∙ ap (λ (l : List (List ℕ)). change_each f place l) (drop-cons levels k [] lt)

  pub level_changed : get_or (change_each f n levels) k [] ≡ changed f place (get_or levels k [])
  level_changed = heads (get_or (change_each f n levels) k []) (changed f place (get_or levels k [])) (drop (suc k) (change_each f n levels)) (change_each f (place / 2) (drop (suc k) levels)) both
    where
      heads : (a b : List ℕ) (l m : List (List ℕ)) → a ∷ l ≡ b ∷ m → a ≡ b
      heads a b l m h = cc h

  pub levels_above : drop (suc k) (change_each f n levels) ≡ change_each f (place / 2) (drop (suc k) levels)
  levels_above = tails (get_or (change_each f n levels) k []) (changed f place (get_or levels k [])) (drop (suc k) (change_each f n levels)) (change_each f (place / 2) (drop (suc k) levels)) both
    where
      tails : (a b : List ℕ) (l m : List (List ℕ)) → a ∷ l ≡ b ∷ m → l ≡ m
      tails a b l m h = cc h

-- one element more of a list is that of another
pub set_next : {X : Type 0} (xs ys : List X) (k : ℕ) (x d : X) → length xs ≡ length ys → k < length ys → get_or xs k d ≡ x
    → set (take k xs ++ drop k ys) k x ≡ take (suc k) xs ++ drop (suc k) ys
set_next [] ys k x d long lt is = absurd (omega (arith, long, lt))
set_next (a ∷ xs) [] k x d long lt is = absurd (omega (arith, lt))
set_next (a ∷ xs) (b ∷ ys) zero x d long lt is = ap (λ z. z ∷ ys) (sym is)
set_next {X = X} (a ∷ xs) (b ∷ ys) (suc k) x d long lt is = ap (λ (l : List X). a ∷ l) (set_next xs ys k x d (omega (arith, long)) (omega (arith, lt)) is)

pub get_next : {X : Type 0} (xs ys : List X) (k : ℕ) (d : X) → length xs ≡ length ys → k < length ys → get_or (take k xs ++ drop k ys) k d ≡ get_or ys k d
get_next [] ys k d long lt = absurd (omega (arith, long, lt))
get_next (a ∷ xs) [] k d long lt = absurd (omega (arith, lt))
get_next (a ∷ xs) (b ∷ ys) zero d long lt = refl
get_next (a ∷ xs) (b ∷ ys) (suc k) d long lt = get_next xs ys k d (omega (arith, long)) (omega (arith, lt))

-- one step of that loop
module _ (f : ℕ → ℕ) (n place : ℕ) (init now : List (List ℕ)) (k : ℕ) (lt : k < length init)
    (levels : now ≡ take k (change_each f n init) ++ drop k init) (rest : drop k (change_each f n init) ≡ change_each f place (drop k init)) where
  pub long_now : length now ≡ length init
  long_now = ap (λ (l : List (List ℕ)). length l) levels
      ∙ omega (arith, length-append (take k (change_each f n init)) (drop k init), length-take k (change_each f n init), length-drop k init, length_each f n init, lt)

  next : k + 1 ≡ suc k
  next = omega arith

  pub next_rest : drop (k + 1) (change_each f n init) ≡ change_each f (place / 2) (drop (k + 1) init)
  next_rest = subst (λ m. drop m (change_each f n init) ≡ change_each f (place / 2) (drop m init)) (sym next) (levels_above f n place init k lt rest)

  module _ (counts : List ℕ) (here : slice_get now k ≡ Some counts) where
    pub counts_are : get_or init k [] ≡ counts
    counts_are = sym (get_next (change_each f n init) init k [] (length_each f n init) lt)
        ∙ ap (λ (l : List (List ℕ)). get_or l k []) (sym levels) ∙ get_or_from_slice_get now k counts [] here

    pub next_levels : set now k (changed f place counts) ≡ take (k + 1) (change_each f n init) ++ drop (k + 1) init
    next_levels = ap (λ (l : List (List ℕ)). set l k (changed f place counts)) levels
        ∙ set_next (change_each f n init) init k (changed f place counts) [] (length_each f n init) lt
        (level_changed f n place init k lt rest ∙ ap (λ (l : List ℕ). changed f place l) counts_are)
        ∙ ap (λ m. take m (change_each f n init) ++ drop m init) (sym next)

-- at its end
pub all_levels : (f : ℕ → ℕ) (n : ℕ) (init : List (List ℕ)) (k : ℕ) → length init ≤ k → take k (change_each f n init) ++ drop k init ≡ change_each f n init
all_levels f n init k le =
    ap (λ (l : List (List ℕ)). take k (change_each f n init) ++ l) (drop_all k init le)
    ∙ append-nil (take k (change_each f n init))
    ∙ take_all k (change_each f n init) (omega (arith, length_each f n init, le))

pub raise_up : (levels : List (List ℕ)) → AreSums levels → (k place : ℕ) → k < length levels → place < length (get_or levels k []) → k + 1 < length levels → place / 2 < length (get_or levels (k + 1) [])
raise_up levels sums k place lt fine more_levels =
    subst (λ (l : List ℕ). place / 2 < length l) (sym (pair_level levels sums k (omega (arith, more_levels))) ∙ ap (λ m. get_or levels m []) (next k)) (half_in (get_or levels k []) place fine)
  where
    next : (m : ℕ) → suc m ≡ m + 1
    next m = omega arith

pub lower_up : (levels : List (List ℕ)) → AreSums levels → (k place : ℕ) → k < length levels → 0 < get_or (get_or levels k []) place 0 → k + 1 < length levels → 0 < get_or (get_or levels (k + 1) []) (place / 2) 0
lower_up levels sums k place lt fine more_levels =
    subst (λ (l : List ℕ). 0 < get_or l (place / 2) 0) (sym (pair_level levels sums k (omega (arith, more_levels))) ∙ ap (λ m. get_or levels m []) (next k)) (half_some (get_or levels k []) place fine)
  where
    next : (m : ℕ) → suc m ≡ m + 1
    next m = omega arith

pub raise_fits : (levels : List (List ℕ)) → AreSums levels → (k place limit : ℕ) → k < length levels → sum (counts_of levels) < limit → get_or (get_or levels k []) place 0 < limit
raise_fits levels sums k place limit lt fits = omega (arith, count_le_sum (get_or levels k []) place, sum_level levels sums k lt, fits)

-- with levels below them, counts are still sums
abbrev pub Bears : List (List ℕ) → List ℕ → Type 0
Bears levels counts = (above : List (List ℕ)) → AreSums (counts ∷ above) → AreSums (levels ++ counts ∷ above)

pub bears_more : (levels : List (List ℕ)) (counts sums : List ℕ) → Bears levels counts → sums ≡ paired counts → Bears (levels ++ counts ∷ []) sums
bears_more levels counts sums bears is above h =
    subst (λ (l : List (List ℕ)). AreSums l) (sym (append_assoc levels (counts ∷ []) (sums ∷ above))) (bears (sums ∷ above) (is, h))

pub still_first : (levels : List (List ℕ)) (counts sums : List ℕ) → counts_of ((levels ++ counts ∷ []) ++ sums ∷ []) ≡ counts_of (levels ++ counts ∷ [])
still_first [] counts sums = refl
still_first (first ∷ levels) counts sums = refl
