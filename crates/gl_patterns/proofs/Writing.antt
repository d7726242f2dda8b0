-- A match writes to the slots of its groups alone, so two cells for each group take all that it writes.
use Rattle.std.proofs.Common.{◌≡◌, ℕ, zero, suc, ◌+◌, ◌-◌, ◌*◌, ◌<◌, ◌≤◌, Bool, true, false, cond, nat_lt, slice_get, List, length, All, Option, Some, None, sym, subst, ⊎_elim, arith}
use Rattle.std.proofs.lemmas.List.Elements.{All-nil, All-cons}
use Rattle.std.proofs.lemmas.Option.{same_Some}
use Rattle.regex_class.specs.Ranges.{in_ranges}
use Rattle.regex_hir.specs.Looks.{holds}
use Rattle.regex_hir.specs.Re.{Re, empty, literal, byte_in, char_in, look, cat, alt, group, plus, Trace, Rest, accept, write, rounds, more_rounds, attempt}
use Rattle.regex_hir.specs.Text.{is_some_and, has_bytes_at, char_at}
use Rattle.regex_hir.proofs.AttemptLemmas.{cond_some, option_and_then_some}
use Rattle.regex_hir.proofs.OptionLemmas.{option_or_cases, write_cases, prefer_cases}
use Rattle.regex_syntax.specs.Grammar.{group_count}
use Rattle.gl_patterns.specs.Built.{FitsCells}

-- each write goes to a slot below n
abbrev StaysBelow : ℕ → Trace → Type 0
StaysBelow n t = All (λ (w : ℕ × ℕ). w.0 < n) t.writes

abbrev AllStayBelow : ℕ → Rest → Type 0
AllStayBelow n k = (i : ℕ) (t : Trace) → k i ≡ Some t → StaysBelow n t

below_write : (n slot i : ℕ) (o : Option Trace) → slot < n → ((t : Trace) → o ≡ Some t → StaysBelow n t) →
    (t : Trace) → write slot i o ≡ Some t → StaysBelow n t
below_write n slot i o low h t e =
    let w = write_cases slot i o t e in
    subst (All (λ (x : ℕ × ℕ). x.0 < n)) (sym w.3) (All-cons (λ (x : ℕ × ℕ). x.0 < n) (slot, i) _ low (h w.0 w.1))

below_rounds : (n : ℕ) (greedy : Bool) (body : Rest → Rest) → ((k : Rest) → AllStayBelow n k → AllStayBelow n (body k)) →
    (k : Rest) → AllStayBelow n k → (turns : ℕ) → AllStayBelow n (rounds greedy body k turns)
unfolding rounds
below_rounds n greedy body along k low zero j t e = low j t e
below_rounds n greedy body along k low (suc turns) j t e =
    let next : Rest = λ l. cond (nat_lt j l) (rounds greedy body k turns l) None in
    ⊎_elim
    (λ round. along next (λ l u gave. below_rounds n greedy body along k low turns l u (cond_some (nat_lt j l) _ u gave).1) j t round)
    (low j t)
    (prefer_cases greedy (body next j) (k j) t e)

below_more : (hay : List ℕ) (n : ℕ) (greedy : Bool) (body : Rest → Rest) → ((k : Rest) → AllStayBelow n k → AllStayBelow n (body k)) →
    (k : Rest) → AllStayBelow n k → (j : ℕ) (t : Trace) (moved : Bool) → cond moved (more_rounds hay greedy body k j) (k j) ≡ Some t → StaysBelow n t
below_more hay n greedy body along k low j t true e = below_rounds n greedy body along k low (length hay - j) j t e
below_more hay n greedy body along k low j t false e = low j t e

below_attempt : (hay : List ℕ) (n : ℕ) (re : Re) → 2 * group_count re ≤ n → (k : Rest) → AllStayBelow n k → AllStayBelow n (attempt hay re k)
unfolding attempt
below_attempt hay n empty few k low i t e = low i t e
below_attempt hay n (literal bs) few k low i t e = low _ t (cond_some (has_bytes_at hay i bs) _ t e).1
below_attempt hay n (byte_in rs) few k low i t e = low _ t (cond_some (is_some_and (slice_get hay i) (in_ranges rs)) _ t e).1
below_attempt hay n (char_in rs) few k low i t e =
    let c = option_and_then_some _ (char_at hay i) t e in low _ t (cond_some (in_ranges rs c.0) _ t c.2).1
below_attempt hay n (look l) few k low i t e = low i t (cond_some (holds l hay i) _ t e).1
below_attempt hay n (cat a b) few k low i t e =
    below_attempt hay n a (omega (arith, few)) (attempt hay b k) (below_attempt hay n b (omega (arith, few)) k low) i t e
below_attempt hay n (alt a b) few k low i t e =
    ⊎_elim (below_attempt hay n a (omega (arith, few)) k low i t) (λ right. below_attempt hay n b (omega (arith, few)) k low i t right.1)
    (option_or_cases _ _ t e)
below_attempt hay n (group m a) few k low i t e =
    let close : Rest = λ j. write (2 * m + 1) j (k j) in
    below_write n (2 * m) i (attempt hay a close i) (omega (arith, few))
    (below_attempt hay n a (omega (arith, few)) close (λ j u. below_write n (2 * m + 1) j (k j) (omega (arith, few)) (low j) u) i) t e
below_attempt hay n (plus greedy a) few k low i t e =
    below_attempt hay n a few (λ j. cond (nat_lt i j) (more_rounds hay greedy (attempt hay a) k j) (k j))
    (λ j u. below_more hay n greedy (attempt hay a) (below_attempt hay n a few) k low j u (nat_lt i j)) i t e

pub fits : (re : Re) (width : ℕ) → 2 * group_count re ≤ width + 2 → FitsCells re width
fits re width few hay = below_attempt hay (width + 2) re few accept
    (λ j u gave. subst (StaysBelow (width + 2)) (same_Some _ u gave) (All-nil (λ (w : ℕ × ℕ). w.0 < width + 2)))
