-- The steps of a seat that is known by an equation.
use Rattle.std.proofs.Common.{◌≡◌, ℕ, ◌+◌, ◌%◌, ◌<◌, List, [], ◌∷◌, length, sym, ◌∙◌, subst, Option, Some}
use mathlib.Core.Option.{none}
use Rattle.atomic_table.specs.Table.{State, Me, step, Allows, Splits, Joins}
use Rattle.gl_turn.specs.declared.seen.Seen.{Seen}
use Rattle.gl_turn.specs.declared.view.Own.{Own}
use Rattle.gl_turn.specs.declared.view.View.{View}
use Rattle.gl_turn.specs.Order.{IsBefore}
use Rattle.gl_turn.specs.Own.{added, fresh}
use Rattle.gl_turn.specs.Rule.{IsKept}
use Rattle.gl_turn.specs.Steps.{counted, counted_appends, counted_commits, drew, gave_up, merged, passed_on, saw, saw_appends, saw_commits, saw_seats}
use Rattle.gl_turn.specs.Views.{beyond, double, inside, outside, spent, waiting}
use Rattle.gl_turn.proofs.Views.{M}
use Rattle.gl_turn.proofs.Turning.{draws, sees, passes}
use Rattle.gl_turn.proofs.Counting.{sees_appends, sees_commits, counts_appends, counts_commits}
use Rattle.gl_turn.proofs.Seating.{counts_up, gives_up, merges, sees_seats}
use Rattle.gl_turn.proofs.Splitting.{splits, joins}

module _ {T : Type 0} (shows : T → Seen) (j₀ c₀ slots id : ℕ) where
  abbrev Sat : Type 0
  Sat = Me (Option T) View

  abbrev Rule : State (Option T) View → Type 0
  Rule = IsKept shows j₀ c₀

  pub draws_as : (own : Own) (alone : ℕ) (seen : Seen) (me : Sat) → me ≡ (outside own alone seen, []) → Allows Rule slots id me 0 (λ n. (n + 1) % M) (drew (step slots 0 1 0 none) me)
  draws_as own alone seen me e = subst (λ (m : Sat). Allows Rule slots id m 0 (λ n. (n + 1) % M) (drew (step slots 0 1 0 none) m)) (sym e) (draws shows j₀ c₀ slots id own alone seen)

  pub sees_as : (own : Own) (alone : ℕ) (seen : Seen) (ticket : ℕ) (me : Sat) → me ≡ (waiting own alone seen ticket, []) → Allows Rule slots id me 1 (λ n. n) (saw shows (step slots 1 0 0 none) me)
  sees_as own alone seen ticket me e = subst (λ (m : Sat). Allows Rule slots id m 1 (λ n. n) (saw shows (step slots 1 0 0 none) m)) (sym e) (sees shows j₀ c₀ slots id own alone seen ticket)

  pub sees_appends_as : (own : Own) (alone : ℕ) (seen : Seen) (ticket : ℕ) (out : Seen) (cs : List (ℕ × Option T)) (me : Sat) → me ≡ (inside own alone seen ticket out 0 0, cs) → Allows Rule slots id me 3 (λ n. n) (saw_appends (step slots 3 0 0 none) me)
  sees_appends_as own alone seen ticket out cs me e = subst (λ (m : Sat). Allows Rule slots id m 3 (λ n. n) (saw_appends (step slots 3 0 0 none) m)) (sym e) (sees_appends shows j₀ c₀ slots id own alone seen ticket out cs)

  pub sees_commits_as : (own : Own) (alone : ℕ) (seen : Seen) (ticket : ℕ) (out : Seen) (cs : List (ℕ × Option T)) (me : Sat) → me ≡ (inside own alone seen ticket out 0 0, cs) → Allows Rule slots id me 4 (λ n. n) (saw_commits (step slots 4 0 0 none) me)
  sees_commits_as own alone seen ticket out cs me e = subst (λ (m : Sat). Allows Rule slots id m 4 (λ n. n) (saw_commits (step slots 4 0 0 none) m)) (sym e) (sees_commits shows j₀ c₀ slots id own alone seen ticket out cs)

  pub counts_appends_as : (own : Own) (alone : ℕ) (seen : Seen) (ticket : ℕ) (out : Seen) (cs : List (ℕ × Option T)) (k : ℕ) (me : Sat) → me ≡ (inside own alone seen ticket out 0 0, cs) → length out.journal + k < M → Allows Rule slots id me 3 (λ n. (n + k) % M) (counted_appends (step slots 3 k 0 none) me)
  counts_appends_as own alone seen ticket out cs k me e room = subst (λ (m : Sat). Allows Rule slots id m 3 (λ n. (n + k) % M) (counted_appends (step slots 3 k 0 none) m)) (sym e) (counts_appends shows j₀ c₀ slots id own alone seen ticket out cs k room)

  pub counts_commits_as : (own : Own) (alone : ℕ) (seen : Seen) (ticket : ℕ) (out : Seen) (cs : List (ℕ × Option T)) (gained k : ℕ) (me : Sat) → me ≡ (inside own alone seen ticket out gained 0, cs) → out.commits + k < M → Allows Rule slots id me 4 (λ n. (n + k) % M) (counted_commits (step slots 4 k 0 none) me)
  counts_commits_as own alone seen ticket out cs gained k me e room = subst (λ (m : Sat). Allows Rule slots id m 4 (λ n. (n + k) % M) (counted_commits (step slots 4 k 0 none) m)) (sym e) (counts_commits shows j₀ c₀ slots id own alone seen ticket out cs gained k room)

  pub passes_as : (own : Own) (alone : ℕ) (seen : Seen) (ticket : ℕ) (out : Seen) (gained done : ℕ) (y : T) (me : Sat) → me ≡ (inside own alone seen ticket out gained done, (0, Some y) ∷ []) → IsBefore out (shows y) → length out.journal + gained ≡ length (shows y).journal → out.commits + done ≡ (shows y).commits
      → Allows Rule slots id me 1 (λ n. (n + 1) % M) (passed_on shows (step slots 1 1 0 none) me)
  passes_as own alone seen ticket out gained done y me e b g d = subst (λ (m : Sat). Allows Rule slots id m 1 (λ n. (n + 1) % M) (passed_on shows (step slots 1 1 0 none) m)) (sym e) (passes shows j₀ c₀ slots id own alone seen ticket out gained done y b g d)

  pub counts_up_as : (own : Own) (alone : ℕ) (seen : Seen) (me : Sat) → me ≡ (outside own alone seen, []) → Allows Rule slots id me 2 (λ n. (n + 1) % M) (counted shows (step slots 2 1 0 none) me)
  counts_up_as own alone seen me e = subst (λ (m : Sat). Allows Rule slots id m 2 (λ n. (n + 1) % M) (counted shows (step slots 2 1 0 none) m)) (sym e) (counts_up shows j₀ c₀ slots id own alone seen)

  pub gives_up_as : (own : Own) (alone : ℕ) (seen : Seen) (me : Sat) → me ≡ (beyond own alone seen, []) → Allows Rule slots id me 2 (λ n. (n + 18446744073709551615) % M) (gave_up (step slots 2 1 0 none) me)
  gives_up_as own alone seen me e = subst (λ (m : Sat). Allows Rule slots id m 2 (λ n. (n + 18446744073709551615) % M) (gave_up (step slots 2 1 0 none) m)) (sym e) (gives_up shows j₀ c₀ slots id own alone seen)

  pub merges_as : (own : Own) (seen told : Seen) (me : Sat) → me ≡ (double own seen told, []) → Allows Rule slots id me 2 (λ n. (n + 18446744073709551615) % M) (merged (step slots 2 1 0 none) me)
  merges_as own seen told me e = subst (λ (m : Sat). Allows Rule slots id m 2 (λ n. (n + 18446744073709551615) % M) (merged (step slots 2 1 0 none) m)) (sym e) (merges shows j₀ c₀ slots id own seen told)

  pub sees_seats_as : (own : Own) (alone : ℕ) (seen : Seen) (me : Sat) → me ≡ (outside own alone seen, []) → Allows Rule slots id me 2 (λ n. n) (saw_seats shows (step slots 2 0 0 none) me)
  sees_seats_as own alone seen me e = subst (λ (m : Sat). Allows Rule slots id m 2 (λ n. n) (saw_seats shows (step slots 2 0 0 none) m)) (sym e) (sees_seats shows j₀ c₀ slots id own alone seen)

  pub splits_as : (own : Own) (seen : Seen) (v : View) → v ≡ double own seen seen → Splits Rule id v (outside v.own 0 v.seen) (outside (fresh v.own.journalled v.own.committed) 0 v.seen)
  splits_as own seen v e = subst (λ (u : View). Splits Rule id u (outside u.own 0 u.seen) (outside (fresh u.own.journalled u.own.committed) 0 u.seen)) (sym e) (splits shows j₀ c₀ id own seen)

  pub joins_as : (own : Own) (alone other : ℕ) (own' : Own) (alone' : ℕ) (seen told : Seen) (v w : View) → v ≡ outside own alone seen → w ≡ outside own' alone' told → Joins Rule id v other w (double (added v.own w.own) v.seen w.seen) spent
  joins_as own alone other own' alone' seen told v w e f = subst (λ (p : View × View). Joins Rule id p.0 other p.1 (double (added p.0.own p.1.own) p.0.seen p.1.seen) spent) (λ i. (sym e i, sym f i)) (joins shows j₀ c₀ id own alone other own' alone' seen told)

pub pair_with : {X Y : Type 0} (m : X × Y) (a : X) (b c : Y) → m ≡ (a, b) → b ≡ c → m ≡ (a, c)
pair_with m a b c e f = e ∙ (λ i. (a, f i))
