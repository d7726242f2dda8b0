use Rattle.std.proofs.Common.{◌≡◌, ◌+◌, ◌*◌, ◌<◌, ℕ, zero, suc, List, [], ◌∷◌, length, get_or, refl, ◌∙◌, ap, arith}
use Rattle.gl_indexset.proofs.Ranking.{first_before, pair_in_row, second_before, second_here}
use Rattle.gl_indexset.proofs.ranks.Counts.half.Goals as goal

read : (items counts : List ℕ) → items ≡ counts → (k x : ℕ) → k < length counts → x ≡ get_or items k x → x ≡ get_or counts k 0
read items counts same k x lt is = is ∙ ap (λ (l : List ℕ). get_or l k x) same ∙ at_any counts k x lt
  where
    at_any : (l : List ℕ) (j d : ℕ) → j < length l → get_or l j d ≡ get_or l j 0
    at_any [] j d h = absurd (omega (arith, h))
    at_any (a ∷ l) zero d h = refl
    at_any (a ∷ l) (suc j) d h = at_any l j d (omega (arith, h))

pub overflow_mul-at : goal.overflow_mul-at
overflow_mul-at c = omega (arith, pair_in_row c.args.self.now c.args.at c.args.rest c.requires, ap (λ (l : List ℕ). length l) c.self.view_is, c.self.inside.numbers.ok.0)

pub index-first-requires : goal.index-first-requires
index-first-requires c = omega (arith, pair_in_row c.args.self.now c.args.at c.args.rest c.requires, ap (λ (l : List ℕ). length l) c.self.view_is, c.self.inside.numbers.ok.0)

pub overflow_mul-result : goal.overflow_mul-result
overflow_mul-result c = omega (arith, pair_in_row c.args.self.now c.args.at c.args.rest c.requires, ap (λ (l : List ℕ). length l) c.self.view_is, c.self.inside.numbers.ok.0)

pub overflow_mul-result-else-rest-first : goal.overflow_mul-result-else-rest-first
overflow_mul-result-else-rest-first c = omega (arith, pair_in_row c.args.self.now c.args.at c.args.rest c.requires, ap (λ (l : List ℕ). length l) c.self.view_is, c.self.inside.numbers.ok.0)

pub overflow_add-result : goal.overflow_add-result
overflow_add-result c = omega (arith, pair_in_row c.args.self.now c.args.at c.args.rest c.requires, ap (λ (l : List ℕ). length l) c.self.view_is, c.self.inside.numbers.ok.0)

pub returns-then-rest-first-clause-before : goal.returns-then-rest-first-clause-before
returns-then-rest-first-clause-before c = ap (λ n. n + c.args.rest) (first_before c.args.self.now c.args.at c.args.rest c.requires)

pub returns-then-rest-first-clause-there : goal.returns-then-rest-first-clause-there
returns-then-rest-first-clause-there c =
    let lt = pair_in_row c.args.self.now c.args.at c.args.rest c.requires in
    let is = read c.self.inside.numbers.items c.args.self.now c.self.view_is (c.args.at * 2) c.index-first.result.now lt c.index-first.ensures in
    omega (arith, is, c.if-rest-first.true)

pub returns-else-rest-first-clause-before : goal.returns-else-rest-first-clause-before
returns-else-rest-first-clause-before c =
    let lt = pair_in_row c.args.self.now c.args.at c.args.rest c.requires in
    let is = read c.self.inside.numbers.items c.args.self.now c.self.view_is (c.args.at * 2) c.index-first.result.now lt c.index-first.ensures in
    omega (arith, is, c.if-rest-first.false, second_before c.args.self.now c.args.at c.args.rest c.requires (omega (arith, is, c.if-rest-first.false)))

pub returns-else-rest-first-clause-there : goal.returns-else-rest-first-clause-there
returns-else-rest-first-clause-there c =
    let lt = pair_in_row c.args.self.now c.args.at c.args.rest c.requires in
    let is = read c.self.inside.numbers.items c.args.self.now c.self.view_is (c.args.at * 2) c.index-first.result.now lt c.index-first.ensures in
    omega (arith, is, c.if-rest-first.false, second_here c.args.self.now c.args.at c.args.rest c.requires (omega (arith, is, c.if-rest-first.false)))
