-- The steps on the sums of appends and commits keep the rule.
use Rattle.std.proofs.Common.{◌≡◌, ℕ, ◌+◌, ◌%◌, ◌<◌, List, length, set, get_or, refl, ap, ◌∙◌, arith, Option, length-append, get_or-set_same, get_or-set_other}
use mathlib.Core.Option.{some, none, some-injective, some-ne-none}
use mathlib.Core.Option as maybe
use Rattle.atomic_table.specs.Table.{State, Me, step, keeps, Allows}
use Rattle.gl_turn.specs.declared.seen.Seen.{Seen}
use Rattle.gl_turn.specs.declared.view.Own.{Own}
use Rattle.gl_turn.specs.declared.view.View.{View}
use Rattle.gl_turn.specs.Own.{numbers_from}
use Rattle.gl_turn.specs.Rule.{Fits, IsKept, Tallies, appends_of, commits_of, gained_of, settled_of, total}
use Rattle.gl_turn.specs.Steps.{appended_more, committed_more, counted_appends, counted_commits, saw_appends, saw_commits}
use Rattle.gl_turn.specs.Views.{inside}
use Rattle.gl_turn.proofs.Sums.{total-set}
use Rattle.gl_turn.proofs.Views.{M, tally_set, length-numbers_from, small}
use Rattle.gl_turn.proofs.Keeping.{gained_alone, home_stays, settle}

module _ {T : Type 0} (shows : T → Seen) (j₀ c₀ : ℕ) where
  abbrev Rule : State (Option T) View → Type 0
  Rule = IsKept shows j₀ c₀

  abbrev Sat : Type 0
  Sat = Me (Option T) View

  abbrev Homes : Type 0
  Homes = List (maybe.Option (Option T))

  module _ (slots id : ℕ) (own : Own) (alone : ℕ) (seen : Seen) (ticket : ℕ) (out : Seen) (cs : List (ℕ × Option T)) where
    pub sees_appends : Allows Rule slots id (inside own alone seen ticket out 0 0, cs) 3 (λ n. n) (saw_appends (step slots 3 0 0 none) (inside own alone seen ticket out 0 0, cs))
    sees_appends s r _ at _ =
        let v : View = inside own alone seen ticket out 0 0 in let n : ℕ = get_or s.words 3 0 in let wide = r.wide in let mine = r.each id v at in
        let g = gained_alone shows j₀ c₀ s r id v at (omega arith) in let t = r.tally in let a = t.appended in let j = t.journal in let f = (mine.from (omega arith)).0 in let o = ap (λ (x : Seen). length x.journal) (mine.turn (omega arith)).1 in (
          v,
          keeps,
          tt,
          settle shows j₀ c₀ s r id 3 n v v s.homes at (λ e. absurd (omega arith)) (λ e. absurd (omega arith)) (λ e. absurd (omega arith)) (omega arith) refl refl refl refl ((λ _. (omega arith, refl)), omega arith, (λ x k. k), (λ a. a)) mine
              (tally_set j₀ c₀ r.top s.words _ s.views id v v at r.tally (get_or-set_same s.words 3 n 0 (omega arith)) (get_or-set_other s.words 3 4 n 0 (λ e. omega arith)) refl refl refl refl) (home_stays shows j₀ c₀ s.homes r.top s.views id v v at refl r.home),
          (refl, omega (arith, g.0, a, j, f, o)),
        )

    pub sees_commits : Allows Rule slots id (inside own alone seen ticket out 0 0, cs) 4 (λ n. n) (saw_commits (step slots 4 0 0 none) (inside own alone seen ticket out 0 0, cs))
    sees_commits s r _ at _ =
        let v : View = inside own alone seen ticket out 0 0 in let n : ℕ = get_or s.words 4 0 in let wide = r.wide in let mine = r.each id v at in
        let g = gained_alone shows j₀ c₀ s r id v at (omega arith) in let t = r.tally in let a = t.committed in let j = t.commits in let f = (mine.from (omega arith)).1 in let o = ap (λ (x : Seen). x.commits) (mine.turn (omega arith)).1 in (
          v,
          keeps,
          tt,
          settle shows j₀ c₀ s r id 4 n v v s.homes at (λ e. absurd (omega arith)) (λ e. absurd (omega arith)) (λ e. absurd (omega arith)) (omega arith) refl refl refl refl ((λ _. (omega arith, refl)), omega arith, (λ x k. k), (λ a. a)) mine
              (tally_set j₀ c₀ r.top s.words _ s.views id v v at r.tally (get_or-set_other s.words 4 3 n 0 (λ e. omega arith)) (get_or-set_same s.words 4 n 0 (omega arith)) refl refl refl refl) (home_stays shows j₀ c₀ s.homes r.top s.views id v v at refl r.home),
          (refl, omega (arith, g.1, a, j, f, o)),
        )

    pub counts_appends : (k : ℕ) → length out.journal + k < M → Allows Rule slots id (inside own alone seen ticket out 0 0, cs) 3 (λ n. (n + k) % M) (counted_appends (step slots 3 k 0 none) (inside own alone seen ticket out 0 0, cs))
    counts_appends k room s r _ at _ =
        let v : View = inside own alone seen ticket out 0 0 in let w : View = inside (appended_more own (length out.journal) k) alone seen ticket out k 0 in let n : ℕ = get_or s.words 3 0 in let wide = r.wide in let mine = r.each id v at in
        let g = gained_alone shows j₀ c₀ s r id v at (omega arith) in let t = r.tally in let a : n ≡ total appends_of s.views = t.appended in let j = t.journal in let o = ap (λ (x : Seen). length x.journal) (mine.turn (omega arith)).1 in
        let up : (n + k) % M ≡ n + k = small (n + k) (omega (arith, g.0, a, j, o, room)) in
        let ta = total-set appends_of s.views id v w at in let tc = total-set commits_of s.views id v w at in let tg = total-set gained_of s.views id v w at in let ts = total-set settled_of s.views id v w at in
        let fits : Fits j₀ c₀ r.drawn r.passed r.top w = record {
          waits_below = omega arith;
          over_below = omega arith;
          holds_below = omega arith;
          alone_below = mine.alone_below;
          queued = mine.queued;
          turn = mine.turn;
          behind = λ _ x k. mine.behind (omega arith) x k;
          from = λ _. mine.from (omega arith);
          at_rest = λ z. absurd (omega arith);
          listed = let l = mine.listed in length-append own.positions (numbers_from (length out.journal) k) ∙ (omega (arith, l, length-numbers_from (length out.journal) k));
          gone = λ a. absurd (omega arith);
        } in
        let tally : Tallies j₀ c₀ r.top (set s.words 3 ((n + k) % M)) (set s.views id w) = record {
          appended = get_or-set_same s.words 3 ((n + k) % M) 0 (omega arith) ∙ up ∙ (omega (arith, a, ta));
          committed = get_or-set_other s.words 3 4 ((n + k) % M) 0 (λ e. omega arith) ∙ t.committed ∙ (omega (arith, tc));
          journal = omega (arith, j, ta, tg);
          commits = omega (arith, t.commits, tc, ts);
          long = omega (arith, g.0, tg, o, room);
          high = omega (arith, t.high, ts);
        } in (
          w,
          keeps,
          tt,
          settle shows j₀ c₀ s r id 3 ((n + k) % M) v w s.homes at (λ e. absurd (omega arith)) (λ e. absurd (omega arith)) (λ e. absurd (omega arith)) (omega arith) refl refl refl refl ((λ _. (omega arith, refl)), omega arith, (λ x k. k), (λ a. a)) fits tally (home_stays shows j₀ c₀ s.homes r.top s.views id v w at refl r.home),
          refl,
        )

    pub counts_commits : (gained k : ℕ) → out.commits + k < M → Allows Rule slots id (inside own alone seen ticket out gained 0, cs) 4 (λ n. (n + k) % M) (counted_commits (step slots 4 k 0 none) (inside own alone seen ticket out gained 0, cs))
    counts_commits gained k room s r _ at _ =
        let v : View = inside own alone seen ticket out gained 0 in let w : View = inside (committed_more own k) alone seen ticket out gained k in let n : ℕ = get_or s.words 4 0 in let wide = r.wide in let mine = r.each id v at in
        let g = gained_alone shows j₀ c₀ s r id v at (omega arith) in let t = r.tally in let a : n ≡ total commits_of s.views = t.committed in let j = t.commits in let o = ap (λ (x : Seen). x.commits) (mine.turn (omega arith)).1 in
        let up : (n + k) % M ≡ n + k = small (n + k) (omega (arith, g.1, a, j, o, room)) in
        let ta = total-set appends_of s.views id v w at in let tc = total-set commits_of s.views id v w at in let tg = total-set gained_of s.views id v w at in let ts = total-set settled_of s.views id v w at in
        let fits : Fits j₀ c₀ r.drawn r.passed r.top w = record { waits_below = omega arith; over_below = omega arith; holds_below = omega arith; alone_below = mine.alone_below; queued = mine.queued; turn = mine.turn; behind = λ _ x k. mine.behind (omega arith) x k; from = λ _. mine.from (omega arith); at_rest = λ z. absurd (omega arith); listed = mine.listed; gone = λ a. absurd (omega arith) } in
        let tally : Tallies j₀ c₀ r.top (set s.words 4 ((n + k) % M)) (set s.views id w) = record {
          appended = get_or-set_other s.words 4 3 ((n + k) % M) 0 (λ e. omega arith) ∙ t.appended ∙ (omega (arith, ta));
          committed = get_or-set_same s.words 4 ((n + k) % M) 0 (omega arith) ∙ up ∙ (omega (arith, a, tc));
          journal = omega (arith, t.journal, ta, tg);
          commits = omega (arith, j, tc, ts);
          long = omega (arith, t.long, tg);
          high = omega (arith, g.1, ts, o, room);
        } in (
          w,
          keeps,
          tt,
          settle shows j₀ c₀ s r id 4 ((n + k) % M) v w s.homes at (λ e. absurd (omega arith)) (λ e. absurd (omega arith)) (λ e. absurd (omega arith)) (omega arith) refl refl refl refl ((λ _. (omega arith, refl)), omega arith, (λ x k. k), (λ a. a)) fits tally (home_stays shows j₀ c₀ s.homes r.top s.views id v w at refl r.home),
          refl,
        )
