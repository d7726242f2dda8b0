-- Numbers that don't fall are told by how often each stands among them.
use Rattle.std.proofs.Common.{◌≡◌, ◌⊎◌, ⊎_elim, ℕ, zero, suc, ◌+◌, ◌<◌, ◌≤◌, ◌==◌, Bool, true, false, cond, List, [], ◌∷◌, filter, length, get_or, refl, ap, ◌∙◌, arith}
use Rattle.std.specs.List.{count_by}
use Rattle.std.specs.List.Sorted.{IsNonDecreasing, IsSorted, IsPermutation}
use Rattle.std.specs.Ordering.{nat_cmp}
use Rattle.std.proofs.lemmas.Bool.{cases_order}
use Rattle.std.proofs.lemmas.Bool.Decides.{nat_tests}
use Rattle.std.proofs.lemmas.List.Kept.{AllPairs-filter}
use Rattle.std.proofs.lemmas.List.Sorted.{IsNonDecreasingBy-from_sort, sum_by-IsPermutation}
use Rattle.gl_indexset.specs.declared.row.Row.{Row}
use Rattle.gl_indexset.specs.Rising.{AreRising}
use Rattle.gl_words.specs.Candidates.{positions}
use Rattle.gl_moments.proofs.Counting.{one, count_more}

-- numbers don't fall, from one on
abbrev Climb : ℕ → List ℕ → Type 0
Climb low [] = Unit {0}
Climb low (n ∷ ns) = (low ≤ n) × Climb n ns

climb_from : (low : ℕ) (ns : List ℕ) → ((k d : ℕ) → k < length ns → low ≤ get_or ns k d) → IsNonDecreasing ns → Climb low ns
climb_from low [] least h = tt
climb_from low (n ∷ ns) least h = (
  least zero n (omega arith),
  climb_from n ns (λ k d lt. h zero (suc k) d (omega arith) (omega (arith, lt))) (λ i j d le lt. h (suc i) (suc j) d (omega (arith, le)) (omega (arith, lt))),
)

rows_climb : (low : ℕ) (rows : List Row) → ((k : ℕ) (d : Row) → k < length rows → low ≤ (get_or rows k d).position) → AreRising rows → Climb low (positions rows)
rows_climb low [] least rising = tt
rows_climb low (r ∷ rows) least rising = (
  least zero r (omega arith),
  rows_climb r.position rows (λ k d lt. omega (arith, rising zero (suc k) d (omega arith) (omega (arith, lt)))) (λ i j d less lt. rising (suc i) (suc j) d (omega (arith, less)) (omega (arith, lt))),
)

differs : (a b : ℕ) → (a ≡ b → ⊥) → (a == b) ≡ false
differs a b h = grind (arith, nat_tests)

itself : (a : ℕ) → (a == a) ≡ true
itself a = grind (arith, nat_tests)

-- one that is below all isn't there
absent : (n low : ℕ) (ns : List ℕ) → n < low → Climb low ns → count_by (λ x. n == x) ns ≡ 0
absent n low [] lt climb = refl
absent n low (m ∷ ns) lt climb =
    let less : n < m = omega (arith, lt, climb.0) in
    let other : (n == m) ≡ false = differs n m (λ e. absurd (omega (arith, less, e))) in
    count_more (λ x. n == x) m ns ∙ ap (λ (b : Bool). one b + count_by (λ x. n == x) ns) other ∙ ap (λ (k : ℕ). 0 + k) (absent n m ns less climb.1)

there : (n : ℕ) (ns : List ℕ) → count_by (λ x. n == x) (n ∷ ns) ≡ 1 + count_by (λ x. n == x) ns
there n ns = count_more (λ x. n == x) n ns ∙ ap (λ (b : Bool). one b + count_by (λ x. n == x) ns) (itself n)

same_numbers : (low high : ℕ) (ns ms : List ℕ) → Climb low ns → Climb high ms → ((n : ℕ) → count_by (λ x. n == x) ns ≡ count_by (λ x. n == x) ms) → ns ≡ ms
same_numbers low high [] [] c d e = refl
same_numbers low high [] (m ∷ ms) c d e = absurd (omega (arith, e m, there m ms))
same_numbers low high (n ∷ ns) [] c d e = absurd (omega (arith, e n, there n ns))
same_numbers low high (n ∷ ns) (m ∷ ms) c d e = ⊎_elim
    (λ (is : n ≡ m). both is (same_numbers n m ns ms c.1 d.1 (λ k.
    let heads : one (k == n) ≡ one (k == m) = ap (λ (x : ℕ). one (k == x)) is in
    omega (arith, e k, heads, count_more (λ x. k == x) n ns, count_more (λ x. k == x) m ms))))
    (λ (apart : (n < m) ⊎ (m < n)). ⊎_elim
    (λ (less : n < m). absurd (omega (arith, e n, there n ns, absent n m (m ∷ ms) less (omega arith, d.1))))
    (λ (more : m < n). absurd (omega (arith, e m, there m ms, absent m n (n ∷ ns) more (omega arith, c.1)))) apart)
    (cases_order n m)
  where
    both : n ≡ m → ns ≡ ms → n ∷ ns ≡ m ∷ ms
    both is rest = cc (is, rest)

-- what a sort leaves is the positions of rows that rise, where each stood as often before as among these
pub sorted_is : (test : Row → Bool) (rows : List Row) (found sorted : List ℕ) → AreRising rows → IsPermutation found sorted → IsSorted nat_cmp sorted
    → ((n : ℕ) → count_by (λ x. n == x) found ≡ count_by (λ x. n == x) (positions (filter test rows))) → sorted ≡ positions (filter test rows)
sorted_is test rows found sorted rising same up counts =
    same_numbers 0 0 sorted (positions (filter test rows))
    (climb_from 0 sorted (λ k d lt. omega arith) (IsNonDecreasingBy-from_sort (λ x. x) sorted up))
    (rows_climb 0 (filter test rows) (λ k d lt. omega arith) (AllPairs-filter (λ (a b : Row). a.position < b.position) test rows rising))
    (λ n. sum_by-IsPermutation (λ x. cond (n == x) 1 0) found sorted same ∙ counts n)
